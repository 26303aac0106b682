-- A station: what it has, and its making.
use Rattle.std.specs.Prelude.{ℕ, zero, suc, ◌+◌, ◌-◌, min, Bool, true, false, cond, List, [], ◌∷◌, Some, None, Option, nat_lt}
use Rattle.model.specs.Meaning.{Meaning}
use Rattle.rules.specs.Limits.{highest_limit, most_node_cells}
use Rattle.rules.specs.Faults.{cause}
use Rattle.rules.specs.Sequences.{Start}
use Rattle.rules.specs.Trees.{Node}
use Rattle.rules.specs.declared.answers.Row.{Row}
use Rattle.rules.specs.declared.fault.Cause.{Cause}

-- the settings and the marks of rows, and rows of both
abbrev pub settings_of : List Row → List ℕ
settings_of [] = []
settings_of (w ∷ rest) = w.setting ∷ settings_of rest

abbrev pub marks_of : List Row → List ℕ
marks_of [] = []
marks_of (w ∷ rest) = w.mark ∷ marks_of rest

abbrev pub rows_of : List ℕ → List ℕ → List Row
rows_of [] marks = []
rows_of (k ∷ path) [] = []
rows_of (k ∷ path) (mark ∷ marks) = record { setting = k; mark = mark } ∷ rows_of path marks

-- the row of this number, from 0, or none
abbrev pub row_at : List Row → ℕ → Option Row
row_at [] number = None
row_at (w ∷ rows) zero = Some w
row_at (w ∷ rows) (suc number) = row_at rows number

-- An open search: how many rows it keeps, its start and its tree.
pub record Search (S : Type 0) : Type 0 where
  pub kept : ℕ
  pub start : Start S
  pub tree : List (Node S)

-- A station that is not shut.
pub record Station (S : Type 0) : Type 0 where
  -- K of the model at the making
  pub settings : ℕ
  -- how many cells are for nodes
  pub cells : ℕ
  -- the switch limit S
  pub limit : ℕ
  pub present : S
  -- the setting issued last, or none
  pub last : Option ℕ
  pub rows : List Row
  pub search : Option (Search S)

-- A station as its callers see it: closed since its making, by a cause, or live.
pub data View (S : Type 0) : Type 0 where
  Closed : Cause → View S
  Live : Station S → View S

abbrev pub is_open : {S : Type 0} → Option (Search S) → Bool
is_open None = false
is_open (Some q) = true

-- The making, of a model, a state, a switch limit and a number of cells. One cell keeps the present state; the others,
-- at most 65,536, are for nodes.
abbrev pub ready : {S : Type 0} → Meaning S → S → ℕ → ℕ → Station S
ready m s limit cells = record { settings = m.settings; cells = min (cells - 1) most_node_cells; limit = limit; present = s; last = None; rows = []; search = None }

abbrev pub made : {S : Type 0} → Meaning S → S → ℕ → ℕ → View S
made m s limit cells =
    cond (m.known s)
    (cond (nat_lt highest_limit limit) (Closed (cause 12))
    (cond (nat_lt cells (m.settings + 2)) (Closed (cause 13))
    (Live (ready m s limit cells))))
    (Closed (cause 11))
