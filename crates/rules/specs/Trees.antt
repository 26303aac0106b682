-- The tree of a search: its nodes, and what expanding one adds.
use Rattle.std.specs.Prelude.{ℕ, zero, suc, Bool, true, false, cond, List, [], ◌∷◌, ◌++◌, length, Some, None, Ok, Err, Option, Result, slice_index_or, slice_set}
use Rattle.model.specs.Meaning.{Meaning, step}
use Rattle.model.specs.declared.fault.ModelFault.{ModelFault}
use Rattle.reckoning.specs.Meaning.{Meaning as Reckoning}
use Rattle.reckoning.specs.Worths.{low_worth, high_worth}
use Rattle.rules.specs.Faults.{step_at}
use Rattle.rules.specs.Sequences.{Start, allows}
use Rattle.rules.specs.declared.fault.StepFault.{StepFault}

-- A node: the settings and marks from the start to it, its state, the two worths of its marks as the call reckoned
-- them that added it (in the field's terms: lower and upper bound), and whether it is expanded. A tree is the list of
-- its nodes in order of number.
pub record Node (S : Type 0) : Type 0 where
  pub settings : List ℕ
  pub marks : List ℕ
  pub state : S
  pub low : ℕ
  pub high : ℕ
  pub expanded : Bool

abbrev pub depth : {S : Type 0} → Node S → ℕ
depth n = length n.settings

-- node 0: the start, with the empty path, whose worths are 0 and the ceiling
abbrev pub root : {S : Type 0} → ℕ → Start S → Node S
root ceiling start = record { settings = []; marks = []; state = start.state; low = 0; high = ceiling; expanded = false }

-- the node with this number
abbrev pub node : {S : Type 0} → Start S → List (Node S) → ℕ → Node S
node start tree i = slice_index_or tree i (root 0 start)

-- the child of a node under a setting: one step more
abbrev pub child : {S : Type 0} → Meaning S → Reckoning → Node S → ℕ → Node S
child m r n k =
    let marks = n.marks ++ (m.mark n.state k ∷ []) in
    record { settings = n.settings ++ (k ∷ []); marks = marks; state = m.next n.state k; low = low_worth r marks; high = high_worth r marks; expanded = false }

-- whether the limit allows the child of a node under a setting
abbrev pub allows_child : {S : Type 0} → Start S → Node S → ℕ → Bool
allows_child start n k = allows start (n.settings ++ (k ∷ []))

-- the allowed children of a node under the settings below k, in rising order
abbrev pub children : {S : Type 0} → Meaning S → Reckoning → Start S → Node S → ℕ → List (Node S)
children m r start n zero = []
children m r start n (suc k) = children m r start n k ++ cond (allows_child start n k) (child m r n k ∷ []) []

-- a node that is no leaf any more
abbrev pub closed : {S : Type 0} → Node S → Node S
closed n = record { settings = n.settings; marks = n.marks; state = n.state; low = n.low; high = n.high; expanded = true }

-- node i expanded: its allowed children stand under the next free numbers
abbrev pub expand : {S : Type 0} → Meaning S → Reckoning → Start S → ℕ → List (Node S) → List (Node S)
expand m r start i tree =
    let n = node start tree i in
    slice_set tree i (closed n) ++ children m r start n m.settings

-- the first refusal among the steps from node i under its allowed settings below k, in rising order
abbrev pub or_else : {A : Type 0} → Option A → Option A → Option A
or_else None y = y
or_else (Some x) y = Some x

abbrev pub refused_step : {A : Type 0} → ℕ → ℕ → Result A ModelFault → Option StepFault
refused_step place setting (Ok x) = None
refused_step place setting (Err f) = Some (step_at place setting f)

abbrev pub first_refusal : {S : Type 0} → Meaning S → Start S → ℕ → Node S → ℕ → Option StepFault
first_refusal m start i n zero = None
first_refusal m start i n (suc k) =
    or_else (first_refusal m start i n k) (cond (allows_child start n k) (refused_step i k (step m n.state k)) None)
