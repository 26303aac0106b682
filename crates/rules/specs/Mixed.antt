-- What is so of every station since its making, whatever models and reckonings its calls are handed.
use Rattle.std.specs.Prelude.{◌≡◌, ℕ, suc, ◌<◌, ◌≤◌, true, List, [], ◌∷◌, ◌++◌, length, get_or, Option, slice_index_or}
use Rattle.std.specs.List.{AllByRecursion}
use Rattle.model.specs.Meaning.{Meaning, Laws}
use Rattle.reckoning.specs.Meaning.{Meaning as Reckoning}
use Rattle.reckoning.specs.Worths.{low_worth, high_worth}
use Rattle.rules.specs.Limits.{greatest_depth, most_kept, most_rows, most_node_cells}
use Rattle.rules.specs.Sequences.{Start, Allowed, Below}
use Rattle.rules.specs.Trees.{Node, depth, root}
use Rattle.rules.specs.Leaves.{Any, Leaf, expansions, expanded_by}
use Rattle.rules.specs.Work.{work, ExpandsAndCounts}
use Rattle.rules.specs.Station.{Search, Station, View, Closed, Live, made}
use Rattle.rules.specs.Runs.{Turn, run, OnOpen}

-- Something is so of every station that a making and calls can reach: the making is by a lawful model, and each call is
-- handed any model and any reckoning.
abbrev pub OnLive : {S : Type 0} → (Station S → Type 0) → View S → Type 0
OnLive P (Closed cause) = Unit {0}
OnLive P (Live st) = P st

abbrev pub UnderAnyMix : (S : Type 0) → (List (Turn S) → Station S → Type 0) → Type 0
UnderAnyMix S P =
    (m : Meaning S) → Laws S m → (s : S) (limit cells : ℕ) (turns : List (Turn S)) → OnLive (P turns) (run turns (made m s limit cells))

-- A path within the limits: allowed, not too deep, and with a mark for each setting.
pub record PathWithin {S : Type 0} (K : ℕ) (start : Start S) (n : Node S) : Type 0 where
  pub allowed : Allowed K start n.settings
  pub not_too_deep : depth n ≤ greatest_depth
  pub mark_for_each_setting : length n.marks ≡ depth n

pub record SearchWithin {S : Type 0} (st : Station S) (q : Search S) : Type 0 where
  pub kept_at_most_32 : q.kept ≤ most_kept
  pub kept_at_most_rows : q.kept ≤ length st.rows
  pub before_below_k : Below q.start.before st.settings
  pub nodes_at_most_cells : length q.tree ≤ st.cells
  pub paths_within : AllByRecursion (PathWithin st.settings q.start) q.tree
  pub some_leaf : Any Leaf q.tree

pub record WithinLimits {S : Type 0} (turns : List (Turn S)) (st : Station S) : Type 0 where
  pub cells_at_most_65536 : st.cells ≤ most_node_cells
  pub rows_at_most_64 : length st.rows ≤ most_rows
  pub rows_below_k : AllByRecursion (λ w. w.setting < st.settings) st.rows
  pub last_below_k : Below st.last st.settings
  pub search_within : OnOpen (SearchWithin st) st.search

-- A node's path is its parent's and one setting and mark more, by a step of a model that was handed to a call.
pub record ChildOf {S : Type 0} (turns : List (Turn S)) (parent n : Node S) : Type 0 where
  pub parent_expanded : parent.expanded ≡ true
  pub setting : ℕ
  pub mark : ℕ
  pub one_setting_more : n.settings ≡ parent.settings ++ (setting ∷ [])
  pub one_mark_more : n.marks ≡ parent.marks ++ (mark ∷ [])
  pub by_a_model_handed : Any (λ t. (mark ≡ t.model.mark parent.state setting) × (n.state ≡ t.model.next parent.state setting)) turns

-- Node 0 is the start, and every later node is the child of a node of a lower number.
pub record TreeGrown {S : Type 0} (turns : List (Turn S)) (start : Start S) (tree : List (Node S)) : Type 0 where
  pub start_first : (d : Node S) → ((get_or tree 0 d).settings ≡ []) × ((get_or tree 0 d).marks ≡ []) × ((get_or tree 0 d).state ≡ start.state)
  pub parents_before : (d : Node S) (i : ℕ) → suc i < length tree → (j : ℕ) × (j ≤ i) × ChildOf turns (slice_index_or tree j d) (slice_index_or tree (suc i) d)

abbrev pub PathsGrown : {S : Type 0} → List (Turn S) → Station S → Type 0
PathsGrown turns st = OnOpen (λ q. TreeGrown turns q.start q.tree) st.search

-- The two worths of each node are the low and the high worth of its own marks, under a reckoning that was handed to a call.
abbrev pub Reckoned : {S : Type 0} → List (Turn S) → Node S → Type 0
Reckoned turns n = Any (λ t. (n.low ≡ low_worth t.reckoning n.marks) × (n.high ≡ high_worth t.reckoning n.marks)) turns

abbrev pub WorthsOfOwnMarks : {S : Type 0} → List (Turn S) → Station S → Type 0
WorthsOfOwnMarks turns st = OnOpen (λ q. AllByRecursion (Reckoned turns) q.tree) st.search

-- Work on an open search expands and counts as it says, with any model of the making's K and any reckoning.
abbrev pub WorkCounted : {S : Type 0} → List (Turn S) → Station S → Type 0
WorkCounted {S} turns st = OnOpen (λ q.
    (m : Meaning S) (r : Reckoning) (number : ℕ) (wanted : Option ℕ) → m.settings ≡ st.settings →
    ExpandsAndCounts m r q.start number q.tree (work m r q.start st.cells wanted number q.tree)) st.search

-- After n expansions from a start n nodes are expanded.
abbrev pub ExpansionsCounted : Type 0 → Type 0
ExpansionsCounted S =
    (m : Meaning S) (r : Reckoning) (start : Start S) → 1 ≤ m.settings → Below start.before m.settings →
    (n : ℕ) → expansions (expanded_by m r start n (root r.ceiling start ∷ [])) ≡ n
