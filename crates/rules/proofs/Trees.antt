-- What every tree keeps that grows from a start, with one model and one reckoning.
use Rattle.std.proofs.Common.{◌≡◌, ℕ, zero, suc, ◌+◌, ◌-◌, ◌*◌, ◌^◌, ◌<◌, ◌≤◌, max, true, cond, ◌⊎◌, List, [], ◌∷◌, ◌++◌, length, set, sym, refl, ap, ◌∙◌, subst, inl, inr, ⊎_elim, append_assoc, append-nil, le_trans, mul-le-mul_right, arith}
use Rattle.std.specs.List.{AllByRecursion}
use Rattle.std.proofs.lemmas.Bool.{cond_both, cond-true, true≢false, false≢true, cases_lt}
use Rattle.std.proofs.ByRecursion.{All-append, All-set, All-weaker, All-get_or}
use Rattle.model.specs.Meaning.{Meaning, Laws}
use Rattle.reckoning.specs.Grains.{whole}
use Rattle.reckoning.specs.Meaning.{Meaning as Reckoning, Laws as ReckoningLaws}
use Rattle.reckoning.specs.Worths.{low_worth, high_worth, exact_worth, width, AreMarks}
use Rattle.reckoning.proofs.WorthBounds.{high_below_ceiling, low_at_most_exact, continued_at_most_high, worths_within_width}
use Rattle.rules.specs.Sequences.{Start, Allowed, Below, marks_along, end_along}
use Rattle.rules.specs.Trees.{Node, depth, root, node, child, allows_child, children, closed, expand}
use Rattle.rules.specs.Leaves.{Any, Leaf, greatest, best_leaf, next_leaf, low_of, high_of, plan, promise, gap, reach, expand_next}
use Rattle.rules.proofs.Worths.{high_falls, low_rises, front_at_most_high}
use Rattle.rules.proofs.Sequences.{marks_append, end_append, length_marks, marks_along_are, all_back, nothing_allowed, allowed_front, allowed_push, allowed_more}
use Rattle.rules.proofs.Leaves.{any_map, any_left, any_right, any_set, any_all, any_out, greatest_least, greatest_above, greatest_met, best_leaf_is, greatest_from}

-- a start that a model can be searched from
pub record Sound {S : Type 0} (m : Meaning S) (start : Start S) : Type 0 where
  pub known : m.known start.state ≡ true
  pub before_below : Below start.before m.settings

-- a node that stands for what the model says of its path
pub record Faithful {S : Type 0} (m : Meaning S) (r : Reckoning) (start : Start S) (n : Node S) : Type 0 where
  pub allowed : Allowed m.settings start n.settings
  pub marks_are : n.marks ≡ marks_along m start.state n.settings
  pub state_is : n.state ≡ end_along m start.state n.settings
  pub low_is : n.low ≡ low_worth r n.marks
  pub high_is : n.high ≡ high_worth r n.marks

-- one of two sequences begins with the other
abbrev Through : List ℕ → List ℕ → Type 0
Through path p = ((rest : List ℕ) × (path ≡ p ++ rest)) ⊎ ((rest : List ℕ) × (p ≡ path ++ rest))

-- a leaf through which a sequence runs, or below which it ends
abbrev Meets : {S : Type 0} → List ℕ → Node S → Type 0
Meets path n = Leaf n × Through path n.settings

-- every node is faithful, every allowed sequence meets a leaf, and no leaf has come to a greater high worth than a node
-- had when it was expanded, nor the promise to a smaller low worth
pub record TreeKept {S : Type 0} (m : Meaning S) (r : Reckoning) (start : Start S) (tree : List (Node S)) : Type 0 where
  pub faithful : AllByRecursion (Faithful m r start) tree
  pub covers : (path : List ℕ) → Allowed m.settings start path → Any (Meets path) tree
  pub passed : AllByRecursion (λ n. n.expanded ≡ true → (greatest high_of tree ≤ n.high) × (n.low ≤ promise tree)) tree

-- what a tree with all this promises
pub record Promises {S : Type 0} (m : Meaning S) (r : Reckoning) (start : Start S) (tree : List (Node S)) : Type 0 where
  pub none_above : (path : List ℕ) → Allowed m.settings start path → exact_worth r (marks_along m start.state path) ≤ (promise tree + gap tree) * whole ^ length path
  pub plan_allowed : Allowed m.settings start (plan start tree).settings
  pub plan_marks : (plan start tree).marks ≡ marks_along m start.state (plan start tree).settings
  pub plan_low : low_worth r (plan start tree).marks ≡ promise tree
  pub plan_worth : promise tree * whole ^ length (plan start tree).marks ≤ exact_worth r (plan start tree).marks
  pub gap_narrow : gap tree ≤ width r (reach tree)

all_both : {X : Type 0} (P Q R : X → Type 0) → ((x : X) → P x → Q x → R x) → (xs : List X) → AllByRecursion P xs → AllByRecursion Q xs → AllByRecursion R xs
all_both P Q R f [] p q = tt
all_both P Q R f (x ∷ xs) p q = (f x p.0 q.0, all_both P Q R f xs p.1 q.1)

module _ {S : Type 0} (m : Meaning S) (r : Reckoning) (start : Start S) where
  -- what is so of each allowed child is so of all children
  pub children_all : (P : Node S → Type 0) (n : Node S) (k : ℕ) →
      ((a : ℕ) → a < k → allows_child start n a ≡ true → P (child m r n a)) → AllByRecursion P (children m r start n k)
  children_all P n zero f = tt
  children_all P n (suc k) f =
      All-append P (children m r start n k) (cond (allows_child start n k) (child m r n k ∷ []) [])
      (children_all P n k (λ a l w. f a (omega arith) w))
      (cond_both (allows_child start n k) (child m r n k ∷ []) [] (AllByRecursion P) (λ e. (f k (omega arith) e, tt)) (λ e. tt))

  -- an allowed child is among the children
  pub children_any : (P : Node S → Type 0) (n : Node S) (k a : ℕ) → a < k → allows_child start n a ≡ true → P (child m r n a) → Any P (children m r start n k)
  children_any P n zero a l w p = omega arith
  children_any P n (suc k) a l w p =
      ⊎_elim
      (λ (b : a < k). any_left P (children m r start n k) (cond (allows_child start n k) (child m r n k ∷ []) []) (children_any P n k a b w p))
      (λ (b : k ≤ a).
      let e : a ≡ k = omega arith in
      any_right P (children m r start n k) (cond (allows_child start n k) (child m r n k ∷ []) [])
      (subst (λ x. Any P (cond (allows_child start n x) (child m r n x ∷ []) [])) e
      (subst (Any P) (sym (cond-true (allows_child start n a) (child m r n a ∷ []) [] w)) (inl p))))
      (cases_lt a k)

  module _ (law : Laws S m) (laws : ReckoningLaws r) (sound : Sound m start) where
    node_marks : (n : Node S) → Faithful m r start n → AreMarks n.marks
    node_marks n f = rw f.marks_are (marks_along_are m law start.state n.settings sound.known f.allowed.below_k)

    some_child : (n : Node S) → Faithful m r start n → (a : ℕ) × (a < m.settings) × (allows_child start n a ≡ true)
    some_child n f = allowed_more m.settings start n.settings law.one_setting sound.before_below f.allowed

    child_faithful : (n : Node S) (a : ℕ) → Faithful m r start n → a < m.settings → allows_child start n a ≡ true → Faithful m r start (child m r n a)
    child_faithful n a f l w = record {
      allowed = allowed_push m.settings start n.settings a f.allowed l w;
      marks_are = let e = f.marks_are in let g = f.state_is in let h = marks_append m start.state n.settings (a ∷ []) in cc;
      state_is = let g = f.state_is in let h = end_append m start.state n.settings (a ∷ []) in cc;
      low_is = refl;
      high_is = refl;
    }

    child_high : (n : Node S) (a : ℕ) → Faithful m r start n → a < m.settings → allows_child start n a ≡ true → (child m r n a).high ≤ n.high
    child_high n a f l w = rw f.high_is (high_falls r laws n.marks (m.mark n.state a ∷ []) (node_marks (child m r n a) (child_faithful n a f l w)))

    child_low : (n : Node S) (a : ℕ) → Faithful m r start n → a < m.settings → allows_child start n a ≡ true → n.low ≤ (child m r n a).low
    child_low n a f l w = rw f.low_is (low_rises r laws n.marks (m.mark n.state a ∷ []) (node_marks (child m r n a) (child_faithful n a f l w)))

    -- an allowed sequence that meets a node meets one of its children
    child_met : (path : List ℕ) (n : Node S) → Faithful m r start n → Allowed m.settings start path → Through path n.settings →
        Any (Meets path) (children m r start n m.settings)
    child_met path n f ok (inl ([], e)) =
        let t = some_child n f in
        children_any (Meets path) n m.settings t.0 t.1 t.2
        (refl, inr (t.0 ∷ [], ap (λ (l : List ℕ). l ++ (t.0 ∷ [])) (sym (e ∙ append-nil n.settings))))
    child_met path n f ok (inl (a ∷ q, e)) =
        let e₁ : path ≡ (n.settings ++ (a ∷ [])) ++ q = e ∙ sym (append_assoc n.settings (a ∷ []) q) in
        let ok₁ = allowed_front m.settings start (n.settings ++ (a ∷ [])) q (subst (Allowed m.settings start) e₁ ok) in
        children_any (Meets path) n m.settings a (all_back (λ x. x < m.settings) n.settings (a ∷ []) ok₁.below_k).0 ok₁.within_limit
        (refl, inl (q, e₁))
    child_met path n f ok (inr (q, e)) =
        let t = some_child n f in
        children_any (Meets path) n m.settings t.0 t.1 t.2
        (refl, inr (q ++ (t.0 ∷ []), ap (λ (l : List ℕ). l ++ (t.0 ∷ [])) e ∙ append_assoc path q (t.0 ∷ [])))

    pub some_leaf : (tree : List (Node S)) → TreeKept m r start tree → Any Leaf tree
    some_leaf tree kept = any_map (λ k. Meets [] k) Leaf (λ k h. h.0) tree (kept.covers [] (nothing_allowed m.settings start))

    -- The expansion of a leaf of greatest high worth keeps all this.
    module _ (tree : List (Node S)) (kept : TreeKept m r start tree) (i : ℕ) (within : i < length tree)
        (leaf : Leaf (node start tree i)) (top : (node start tree i).high ≡ greatest high_of tree) where
      its_faith : Faithful m r start (node start tree i)
      its_faith = All-get_or (Faithful m r start) tree i (root 0 start) within kept.faithful

      -- the greatest high worth never rises
      top_falls : greatest high_of (expand m r start i tree) ≤ greatest high_of tree
      top_falls =
          let n = node start tree i in
          let P : Node S → Type 0 = λ k. Leaf k → k.high ≤ greatest high_of tree in
          greatest_least high_of (greatest high_of tree) (expand m r start i tree)
          (All-append P (set tree i (closed n)) (children m r start n m.settings)
          (All-set P tree i (closed n) (λ e. absurd (true≢false e)) (greatest_above high_of tree))
          (children_all P n m.settings (λ a l w e. let c = child_high n a its_faith l w in le_trans c (omega (arith, top)))))

      -- the promise never falls
      promise_rises : promise tree ≤ promise (expand m r start i tree)
      promise_rises =
          let n = node start tree i in
          let P : Node S → Type 0 = λ k. Leaf k × (promise tree ≤ k.low) in
          let met : Any P tree = any_map (λ k. Leaf k × (k.low ≡ promise tree)) P (λ k h. (h.0, let e = h.1 in omega arith)) tree (greatest_met low_of tree (inr (some_leaf tree kept))) in
          greatest_from low_of (promise tree) (expand m r start i tree)
          (⊎_elim
          (λ h. any_right P (set tree i (closed n)) (children m r start n m.settings)
          (let t = some_child n its_faith in
          children_any P n m.settings t.0 t.1 t.2 (refl, le_trans h.1 (child_low n t.0 its_faith t.1 t.2))))
          (λ h. any_left P (set tree i (closed n)) (children m r start n m.settings) h)
          (any_set P tree i (closed n) (root 0 start) met))

      expansion_kept : TreeKept m r start (expand m r start i tree)
      expansion_kept =
          let n = node start tree i in
          let P : Node S → Type 0 = λ k. k.expanded ≡ true → (greatest high_of (expand m r start i tree) ≤ k.high) × (k.low ≤ promise (expand m r start i tree)) in
          record {
            faithful = All-append (Faithful m r start) (set tree i (closed n)) (children m r start n m.settings)
                (All-set (Faithful m r start) tree i (closed n)
                (record { allowed = its_faith.allowed; marks_are = its_faith.marks_are; state_is = its_faith.state_is; low_is = its_faith.low_is; high_is = its_faith.high_is }) kept.faithful)
                (children_all (Faithful m r start) n m.settings (λ a l w. child_faithful n a its_faith l w));
            covers = λ path ok. ⊎_elim
                (λ h. any_right (Meets path) (set tree i (closed n)) (children m r start n m.settings) (child_met path n its_faith ok h.1))
                (λ h. any_left (Meets path) (set tree i (closed n)) (children m r start n m.settings) h)
                (any_set (Meets path) tree i (closed n) (root 0 start) (kept.covers path ok));
            passed = All-append P (set tree i (closed n)) (children m r start n m.settings)
                (All-set P tree i (closed n)
                (λ e. (le_trans top_falls (omega (arith, top)), le_trans (All-get_or (λ k. Leaf k → k.low ≤ promise tree) tree i (root 0 start) within (greatest_above low_of tree) leaf) promise_rises))
                (All-weaker (λ k. k.expanded ≡ true → (greatest high_of tree ≤ k.high) × (k.low ≤ promise tree)) P (λ k h e. (le_trans top_falls (h e).0, le_trans (h e).1 promise_rises)) tree kept.passed))
                (children_all P n m.settings (λ a l w e. absurd (false≢true e)));
          }

    -- so does the expansion of the leaf that is next
    pub next_kept : (tree : List (Node S)) → TreeKept m r start tree → TreeKept m r start (expand_next m r start tree)
    next_kept tree kept =
        let best = best_leaf_is high_of tree (root 0 start) (some_leaf tree kept) in
        expansion_kept tree kept (next_leaf tree) best.0 best.1 best.2

    -- the tree of node 0 alone
    pub first_kept : TreeKept m r start (root r.ceiling start ∷ [])
    first_kept = record {
      faithful = (record { allowed = nothing_allowed m.settings start; marks_are = refl; state_is = refl; low_is = refl; high_is = refl }, tt);
      covers = λ path ok. inl (refl, inl (path, refl));
      passed = ((λ e. absurd (false≢true e)), tt);
    }

    -- the exact worth of an allowed sequence that meets a node is at most the node's high worth
    worth_through : (path : List ℕ) (n : Node S) → Faithful m r start n → Allowed m.settings start path → Through path n.settings →
        exact_worth r (marks_along m start.state path) ≤ n.high * whole ^ length path
    worth_through path n f ok (inl (rest, e)) =
        let s = start.state in
        let ms = marks_along m s path in
        let ns = marks_along m (end_along m s n.settings) rest in
        let e₁ : ms ≡ n.marks ++ ns = ap (marks_along m s) e ∙ marks_append m s n.settings rest ∙ ap (λ (l : List ℕ). l ++ ns) (sym f.marks_are) in
        let are : AreMarks (n.marks ++ ns) = subst AreMarks e₁ (marks_along_are m law s path sound.known ok.below_k) in
        let b : exact_worth r ms ≤ high_worth r n.marks * whole ^ length ms =
        subst (λ (l : List ℕ). exact_worth r l ≤ high_worth r n.marks * whole ^ length l) (sym e₁) (continued_at_most_high r laws n.marks ns are) in
        rw f.high_is (rw (length_marks m s path) at b)
    worth_through path n f ok (inr (rest, e)) =
        let s = start.state in
        let ms = marks_along m s path in
        let ns = marks_along m (end_along m s path) rest in
        let e₁ : n.marks ≡ ms ++ ns = f.marks_are ∙ ap (marks_along m s) e ∙ marks_append m s path rest in
        let b : exact_worth r ms ≤ high_worth r n.marks * whole ^ length ms =
        subst (λ (l : List ℕ). exact_worth r ms ≤ high_worth r l * whole ^ length ms) (sym e₁) (front_at_most_high r laws ms ns (subst AreMarks e₁ (node_marks n f))) in
        rw f.high_is (rw (length_marks m s path) at b)

    max_either : (P : ℕ → Type 0) (a b : ℕ) → P a → P b → P (max a b)
    max_either P a b p q = ⊎_elim (λ (l : a < b). subst P (omega arith) q) (λ (l : b ≤ a). subst P (omega arith) p) (cases_lt a b)

    reach_width : (g : ℕ) (ns : List (Node S)) → g ≤ width r 0 → AllByRecursion (λ n. n.expanded ≡ true → g ≤ width r (depth n)) ns → g ≤ width r (reach ns)
    reach_width g [] z h = z
    reach_width g (n ∷ ns) z h =
        let rest = reach_width g ns z h.1 in
        cond_both n.expanded (max (depth n) (reach ns)) (reach ns) (λ d. g ≤ width r d)
        (λ e. max_either (λ d. g ≤ width r d) (depth n) (reach ns) (h.0 e) rest) (λ e. rest)

    node_width : (n : Node S) → Faithful m r start n → n.high ≤ n.low + width r (depth n)
    node_width n f =
        let e : length n.marks ≡ depth n = ap length f.marks_are ∙ length_marks m start.state n.settings in
        let w : high_worth r n.marks - low_worth r n.marks ≤ width r (depth n) = worths_within_width r laws (depth n) n.marks (node_marks n f) e in
        rw (f.high_is, f.low_is) (omega arith)

    pub tree_promises : (tree : List (Node S)) → TreeKept m r start tree → Promises m r start tree
    tree_promises tree kept =
        let best = best_leaf_is low_of tree (root 0 start) (some_leaf tree kept) in
        let p = plan start tree in
        let f : Faithful m r start p = All-get_or (Faithful m r start) tree (best_leaf low_of tree) (root 0 start) best.0 kept.faithful in
        let low : low_worth r p.marks ≡ promise tree = sym f.low_is ∙ best.2 in
        record {
          none_above = λ path ok.
              any_out (λ n. Faithful m r start n × ((Leaf n → n.high ≤ greatest high_of tree) × Meets path n))
              (exact_worth r (marks_along m start.state path) ≤ (promise tree + gap tree) * whole ^ length path)
              (λ n h. le_trans (worth_through path n h.0 ok h.1.1.1) (mul-le-mul_right (whole ^ length path) (let t = h.1.0 h.1.1.0 in omega arith)))
              tree
              (any_all (Faithful m r start) (λ n. (Leaf n → n.high ≤ greatest high_of tree) × Meets path n) tree kept.faithful
              (any_all (λ n. Leaf n → n.high ≤ greatest high_of tree) (Meets path) tree (greatest_above high_of tree) (kept.covers path ok)));
          plan_allowed = f.allowed;
          plan_marks = f.marks_are;
          plan_low = low;
          plan_worth = subst (λ (v : ℕ). v * whole ^ length p.marks ≤ exact_worth r p.marks) low (low_at_most_exact r laws p.marks (node_marks p f));
          gap_narrow = reach_width (gap tree) tree
              (let c = greatest_least high_of r.ceiling tree
              (All-weaker (Faithful m r start) (λ n. Leaf n → n.high ≤ r.ceiling) (λ n k e. rw k.high_is (high_below_ceiling r laws n.marks (node_marks n k))) tree kept.faithful) in
              omega arith)
              (all_both (Faithful m r start) (λ n. n.expanded ≡ true → (greatest high_of tree ≤ n.high) × (n.low ≤ promise tree)) (λ n. n.expanded ≡ true → gap tree ≤ width r (depth n))
              (λ n k h e. let t = h e in let w = node_width n k in omega arith) tree kept.faithful kept.passed);
        }
