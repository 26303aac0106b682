-- Work on a search: expansions until a stop.
use Rattle.std.specs.Prelude.{◌≡◌, ℕ, zero, suc, ◌+◌, ◌-◌, ◌≤◌, Bool, false, cond, List, length, Some, None, Ok, Err, Option, Result, ◌==◌, nat_le, nat_lt}
use Rattle.model.specs.Meaning.{Meaning}
use Rattle.reckoning.specs.Meaning.{Meaning as Reckoning}
use Rattle.rules.specs.Limits.{greatest_depth}
use Rattle.rules.specs.Sequences.{Start}
use Rattle.rules.specs.Trees.{Node, depth, node, first_refusal}
use Rattle.rules.specs.Leaves.{next_leaf, gap, expansions, expand_next, expanded_by}
use Rattle.rules.specs.declared.answers.Stop.{Stop}
use Rattle.rules.specs.declared.answers.Stop.TheVariants.{Near, Spent, Deep, Full}
use Rattle.rules.specs.declared.fault.StepFault.{StepFault}

-- whether the gap is at most the wanted gap, where one is wanted
abbrev pub is_near : {S : Type 0} → Option ℕ → List (Node S) → Bool
is_near None tree = false
is_near (Some wanted) tree = nat_le (gap tree) wanted

abbrev pub refused_by : Option StepFault → Option (Result Stop StepFault)
refused_by None = None
refused_by (Some f) = Some (Err f)

-- What ends work before its next expansion, where `left` expansions are left to it: the first stop that applies, or
-- the refusal of a step, which undoes that expansion alone; none where the expansion is made.
abbrev pub ending : {S : Type 0} → Meaning S → Start S → ℕ → Option ℕ → ℕ → List (Node S) → Option (Result Stop StepFault)
ending m start cells wanted left tree =
    let i = next_leaf tree in
    cond (is_near wanted tree) (Some (Ok Near))
    (cond (left == 0) (Some (Ok Spent))
    (cond (depth (node start tree i) == greatest_depth) (Some (Ok Deep))
    (cond (nat_lt (cells - length tree) m.settings) (Some (Ok Full))
    (refused_by (first_refusal m start i (node start tree i) m.settings)))))

-- Why work ended, by a stop or by the refusal of a step, and the tree that it leaves.
pub record Worked (S : Type 0) : Type 0 where
  pub end : Result Stop StepFault
  pub tree : List (Node S)

abbrev pub ended_or : {S : Type 0} → Option (Result Stop StepFault) → List (Node S) → Worked S → Worked S
ended_or None tree more = more
ended_or (Some e) tree more = record { end = e; tree = tree }

-- work with so many expansions left to it, in so many node cells
abbrev pub work : {S : Type 0} → Meaning S → Reckoning → Start S → ℕ → Option ℕ → ℕ → List (Node S) → Worked S
work m r start cells wanted zero tree = ended_or (ending m start cells wanted 0 tree) tree (record { end = Ok Spent; tree = tree })
work m r start cells wanted (suc left) tree =
    let more = work m r start cells wanted left (expand_next m r start tree) in
    ended_or (ending m start cells wanted (suc left) tree) tree more

-- Work makes some expansions of the leaf to expand next, as many as its number if it is spent and never more, and each
-- adds one expanded node.
pub record ExpandsAndCounts {S : Type 0} (m : Meaning S) (r : Reckoning) (start : Start S) (number : ℕ) (tree : List (Node S)) (w : Worked S) : Type 0 where
  pub made : ℕ
  pub at_most_number : made ≤ number
  pub tree_left : w.tree ≡ expanded_by m r start made tree
  pub counted : expansions w.tree ≡ made + expansions tree
  pub spent_made_all : w.end ≡ Ok Spent → made ≡ number
