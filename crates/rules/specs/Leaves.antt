-- Leaves: which one is expanded next, which one the plan leads to, and what follows from them.
use Rattle.std.specs.Prelude.{◌≡◌, ℕ, zero, suc, ◌-◌, ◌<◌, ◌≤◌, max, false, cond, not, ◌&&◌, ◌⊎◌, List, [], ◌∷◌, length, ◌==◌, ◌≢◌, slice_index_or}
use Rattle.model.specs.Meaning.{Meaning}
use Rattle.reckoning.specs.Meaning.{Meaning as Reckoning}
use Rattle.rules.specs.Sequences.{Start}
use Rattle.rules.specs.Trees.{Node, depth, node, expand}

-- a leaf is a node not yet expanded
abbrev pub Leaf : {S : Type 0} → Node S → Type 0
Leaf n = n.expanded ≡ false

-- some element is so
abbrev pub Any : {X : Type 0} → (X → Type 0) → List X → Type 0
Any P [] = ⊥
Any P (x ∷ xs) = P x ⊎ Any P xs

-- the greatest worth of a leaf
abbrev pub greatest : {S : Type 0} → (Node S → ℕ) → List (Node S) → ℕ
greatest worth [] = 0
greatest worth (n ∷ ns) = cond n.expanded (greatest worth ns) (max (worth n) (greatest worth ns))

-- the lowest number of a leaf of this worth
abbrev pub first_leaf : {S : Type 0} → (Node S → ℕ) → ℕ → List (Node S) → ℕ
first_leaf worth w [] = 0
first_leaf worth w (n ∷ ns) = cond (not n.expanded && worth n == w) 0 (suc (first_leaf worth w ns))

-- the leaf of greatest worth, the lowest number among equals
abbrev pub best_leaf : {S : Type 0} → (Node S → ℕ) → List (Node S) → ℕ
best_leaf worth tree = first_leaf worth (greatest worth tree) tree

abbrev pub low_of : {S : Type 0} → Node S → ℕ
low_of n = n.low

abbrev pub high_of : {S : Type 0} → Node S → ℕ
high_of n = n.high

-- the leaf to expand next has the greatest high worth
abbrev pub next_leaf : {S : Type 0} → List (Node S) → ℕ
next_leaf tree = best_leaf high_of tree

-- the plan is the path to the leaf of greatest low worth
abbrev pub plan : {S : Type 0} → Start S → List (Node S) → Node S
plan start tree = node start tree (best_leaf low_of tree)

-- the promise is that low worth (in the field's terms: the lower bound of the plan's return)
abbrev pub promise : {S : Type 0} → List (Node S) → ℕ
promise tree = greatest low_of tree

-- the gap: the most by which another plan could beat the promise, not below 0
abbrev pub gap : {S : Type 0} → List (Node S) → ℕ
gap tree = greatest high_of tree - promise tree

-- the reach is the greatest depth of an expanded node, or 0
abbrev pub reach : {S : Type 0} → List (Node S) → ℕ
reach [] = 0
reach (n ∷ ns) = cond n.expanded (max (depth n) (reach ns)) (reach ns)

-- how many nodes are expanded
abbrev pub expansions : {S : Type 0} → List (Node S) → ℕ
expansions [] = 0
expansions (n ∷ ns) = cond n.expanded (suc (expansions ns)) (expansions ns)

-- one expansion of a search: the leaf of greatest high worth
abbrev pub expand_next : {S : Type 0} → Meaning S → Reckoning → Start S → List (Node S) → List (Node S)
expand_next m r start tree = expand m r start (next_leaf tree) tree

-- so many expansions of a tree
abbrev pub expanded_by : {S : Type 0} → Meaning S → Reckoning → Start S → ℕ → List (Node S) → List (Node S)
expanded_by m r start zero tree = tree
expanded_by m r start (suc n) tree = expanded_by m r start n (expand_next m r start tree)

-- The leaf that a search chooses by a worth, in words: it is a leaf, no leaf has a greater worth, and none of the same
-- worth has a lower number.
pub record Chosen {S : Type 0} (worth : Node S → ℕ) (tree : List (Node S)) (i : ℕ) : Type 0 where
  pub is_there : i < length tree
  pub is_leaf : (d : Node S) → Leaf (slice_index_or tree i d)
  pub none_greater : (d : Node S) (j : ℕ) → j < length tree → Leaf (slice_index_or tree j d) → worth (slice_index_or tree j d) ≤ worth (slice_index_or tree i d)
  pub none_same_before : (d : Node S) (j : ℕ) → j < i → Leaf (slice_index_or tree j d) → worth (slice_index_or tree j d) ≢ worth (slice_index_or tree i d)

-- In a tree with a leaf the definitions choose that leaf and no other, and the promise and the greatest high worth are its worth.
pub record LeafChosen {S : Type 0} (worth : Node S → ℕ) : Type 0 where
  pub chosen : (tree : List (Node S)) → Any Leaf tree → Chosen worth tree (best_leaf worth tree)
  pub no_other : (tree : List (Node S)) (i : ℕ) → Chosen worth tree i → i ≡ best_leaf worth tree
  pub its_worth : (tree : List (Node S)) (d : Node S) → Any Leaf tree → worth (slice_index_or tree (best_leaf worth tree) d) ≡ greatest worth tree
