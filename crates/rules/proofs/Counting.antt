-- Each expansion adds one expanded node, keeps every path within the limits, and leaves a leaf.
use Rattle.std.proofs.Common.{◌≡◌, ℕ, zero, suc, ◌+◌, ◌-◌, ◌<◌, ◌≤◌, Bool, true, false, cond, eqb, ltb, List, [], ◌∷◌, ◌++◌, length, get_or, set, Some, None, Ok, Option, Result, sym, refl, ap, ◌∙◌, inl, arith, length-append, length-set}
use Rattle.std.specs.List.{AllByRecursion}
use Rattle.std.proofs.lemmas.Bool.{cond_both, cond-true, cond-false, ne_eqb, true≢false}
use Rattle.std.proofs.ByRecursion.{All-append, All-set, All-get_or}
use Rattle.std.proofs.lemmas.List.{length_push}
use Rattle.model.specs.Meaning.{Meaning}
use Rattle.reckoning.specs.Meaning.{Meaning as Reckoning}
use Rattle.rules.specs.Limits.{greatest_depth}
use Rattle.rules.specs.Sequences.{Start, Allowed, Below}
use Rattle.rules.specs.Trees.{Node, depth, root, node, child, allows_child, children, closed, first_refusal}
use Rattle.rules.specs.Leaves.{Any, Leaf, next_leaf, high_of, expansions, expand_next, expanded_by}
use Rattle.rules.specs.Work.{is_near, refused_by, ending, ended_or, work, Worked, ExpandsAndCounts}
use Rattle.rules.specs.Mixed.{PathWithin, ExpansionsCounted}
use Rattle.rules.specs.declared.answers.Stop.{Stop}
use Rattle.rules.specs.declared.answers.Stop.TheVariants.{Near, Spent, Deep, Full}
use Rattle.rules.specs.declared.fault.StepFault.{StepFault}
use Rattle.rules.proofs.Sequences.{nothing_allowed, allowed_push, allowed_more}
use Rattle.rules.proofs.Leaves.{any_right, best_leaf_is}
use Rattle.rules.proofs.Trees.{children_all, children_any}

-- work with expansions left to it does not end as spent
not_spent : (near none deep full : Bool) (refusal : Option StepFault) (x : Result Stop StepFault) → none ≡ false →
    cond near (Some (Ok Near)) (cond none (Some (Ok Spent)) (cond deep (Some (Ok Deep)) (cond full (Some (Ok Full)) (refused_by refusal)))) ≡ Some x → x ≡ Ok Spent → ⊥
not_spent true none deep full refusal x e h s = cc
not_spent false true deep full refusal x e h s = true≢false e
not_spent false false true full refusal x e h s = cc
not_spent false false false true refusal x e h s = cc
not_spent false false false false None x e h s = cc
not_spent false false false false (Some f) x e h s = cc

module _ {S : Type 0} where
  expansions_append : (a b : List (Node S)) → expansions (a ++ b) ≡ expansions a + expansions b
  expansions_append [] b = let e : expansions b ≡ 0 + expansions b = omega arith in e
  expansions_append (n ∷ a) b =
      let ih = expansions_append a b in
      cond_both n.expanded (suc (expansions a)) (expansions a) (λ v. cond n.expanded (suc (expansions (a ++ b))) (expansions (a ++ b)) ≡ v + expansions b)
      (λ e. let c = cond-true n.expanded (suc (expansions (a ++ b))) (expansions (a ++ b)) e in omega arith)
      (λ e. let c = cond-false n.expanded (suc (expansions (a ++ b))) (expansions (a ++ b)) e in omega arith)

  none_expanded : (ns : List (Node S)) → AllByRecursion Leaf ns → expansions ns ≡ 0
  none_expanded [] h = refl
  none_expanded (n ∷ ns) h = cond-false n.expanded (suc (expansions ns)) (expansions ns) h.0 ∙ none_expanded ns h.1

  one_more_expanded : (ns : List (Node S)) (i : ℕ) (d c : Node S) → i < length ns → Leaf (get_or ns i d) → c.expanded ≡ true → expansions (set ns i c) ≡ suc (expansions ns)
  one_more_expanded [] i d c l leaf e = absurd (omega arith)
  one_more_expanded (n ∷ ns) zero d c l leaf e =
      cond-true c.expanded (suc (expansions ns)) (expansions ns) e ∙ ap suc (sym (cond-false n.expanded (suc (expansions ns)) (expansions ns) leaf))
  one_more_expanded (n ∷ ns) (suc i) d c l leaf e =
      let ih = one_more_expanded ns i d c (omega arith) leaf e in
      cond_both n.expanded (suc (expansions ns)) (expansions ns) (λ v. cond n.expanded (suc (expansions (set ns i c))) (expansions (set ns i c)) ≡ suc v)
      (λ t. let k = cond-true n.expanded (suc (expansions (set ns i c))) (expansions (set ns i c)) t in omega arith)
      (λ t. let k = cond-false n.expanded (suc (expansions (set ns i c))) (expansions (set ns i c)) t in omega arith)

module _ {S : Type 0} (m : Meaning S) (r : Reckoning) (start : Start S) where
  -- an expansion adds one expanded node
  pub expansion_adds_one : (tree : List (Node S)) → Any Leaf tree → expansions (expand_next m r start tree) ≡ suc (expansions tree)
  expansion_adds_one tree some =
      let i = next_leaf tree in
      let n = node start tree i in
      let best = best_leaf_is high_of tree (root 0 start) some in
      let a = expansions_append (set tree i (closed n)) (children m r start n m.settings) in
      let b = one_more_expanded tree i (root 0 start) (closed n) best.0 best.1 refl in
      let c = none_expanded (children m r start n m.settings) (children_all m r start Leaf n m.settings (λ k l w. refl)) in
      omega arith

  length_children : (n : Node S) (k : ℕ) → length (children m r start n k) ≤ k
  length_children n zero = omega arith
  length_children n (suc k) =
      let b = allows_child start n k in
      let l = length-append (children m r start n k) (cond b (child m r n k ∷ []) []) in
      let h = length_children n k in
      let o : length (cond b (child m r n k ∷ []) []) ≤ 1 = cond_both b (child m r n k ∷ []) [] (λ x. length x ≤ 1) (λ e. omega arith) (λ e. omega arith) in
      omega arith

  -- an expansion adds at most K nodes
  pub length_expanded : (tree : List (Node S)) → length (expand_next m r start tree) ≤ length tree + m.settings
  length_expanded tree =
      let i = next_leaf tree in
      let n = node start tree i in
      let a = length-append (set tree i (closed n)) (children m r start n m.settings) in
      let b = length-set tree i (closed n) in
      let c = length_children n m.settings in
      omega arith

  module _ (some : 1 ≤ m.settings) (below : Below start.before m.settings) where
    -- allowed paths stay allowed, and some leaf is left
    pub expansion_leaves_leaf : (tree : List (Node S)) → Any Leaf tree → AllByRecursion (λ n. Allowed m.settings start n.settings) tree → Any Leaf (expand_next m r start tree)
    expansion_leaves_leaf tree leaf allowed =
        let i = next_leaf tree in
        let n = node start tree i in
        let best = best_leaf_is high_of tree (root 0 start) leaf in
        let ok = All-get_or (λ k. Allowed m.settings start k.settings) tree i (root 0 start) best.0 allowed in
        let t = allowed_more m.settings start n.settings some below ok in
        any_right Leaf (set tree i (closed n)) (children m r start n m.settings) (children_any m r start Leaf n m.settings t.0 t.1 t.2 refl)

    pub expansion_allowed : (tree : List (Node S)) → Any Leaf tree → AllByRecursion (λ n. Allowed m.settings start n.settings) tree → AllByRecursion (λ n. Allowed m.settings start n.settings) (expand_next m r start tree)
    expansion_allowed tree leaf allowed =
        let P : Node S → Type 0 = λ n. Allowed m.settings start n.settings in
        let i = next_leaf tree in
        let n = node start tree i in
        let best = best_leaf_is high_of tree (root 0 start) leaf in
        let ok : Allowed m.settings start n.settings = All-get_or P tree i (root 0 start) best.0 allowed in
        All-append P (set tree i (closed n)) (children m r start n m.settings) (All-set P tree i (closed n) ok allowed)
        (children_all m r start P n m.settings (λ k l w. allowed_push m.settings start n.settings k ok l w))

    -- an expansion of a node that is not too deep makes no path too deep
    pub expansion_within : (tree : List (Node S)) → Any Leaf tree → (depth (node start tree (next_leaf tree)) ≡ greatest_depth → ⊥) → AllByRecursion (PathWithin m.settings start) tree → AllByRecursion (PathWithin m.settings start) (expand_next m r start tree)
    expansion_within tree leaf not_deep within =
        let P : Node S → Type 0 = PathWithin m.settings start in
        let i = next_leaf tree in
        let n = node start tree i in
        let best = best_leaf_is high_of tree (root 0 start) leaf in
        let ok : PathWithin m.settings start n = All-get_or P tree i (root 0 start) best.0 within in
        All-append P (set tree i (closed n)) (children m r start n m.settings)
        (All-set P tree i (closed n) (record { allowed = ok.allowed; not_too_deep = ok.not_too_deep; mark_for_each_setting = ok.mark_for_each_setting }) within)
        (children_all m r start P n m.settings (λ k l w. record {
          allowed = allowed_push m.settings start n.settings k ok.allowed l w;
          not_too_deep = let p = length_push n.settings k in let s = ok.not_too_deep in omega (arith, not_deep);
          mark_for_each_setting = let p = length_push n.settings k in let q = length_push n.marks (m.mark n.state k) in let b = ok.mark_for_each_setting in omega arith;
        }))

    counted_from : (n : ℕ) (tree : List (Node S)) → Any Leaf tree → AllByRecursion (λ k. Allowed m.settings start k.settings) tree → expansions (expanded_by m r start n tree) ≡ n + expansions tree
    counted_from zero tree leaf allowed = let e : expansions tree ≡ 0 + expansions tree = omega arith in e
    counted_from (suc n) tree leaf allowed =
        let ih = counted_from n (expand_next m r start tree) (expansion_leaves_leaf tree leaf allowed) (expansion_allowed tree leaf allowed) in
        let one = expansion_adds_one tree leaf in
        omega arith

    -- what ends work is not there before an expansion
    ended : (n : ℕ) (tree : List (Node S)) (e : Result Stop StepFault) → (e ≡ Ok Spent → n ≡ 0) → ExpandsAndCounts m r start n tree (record { end = e; tree = tree })
    ended n tree e spent = record {
      made = 0;
      at_most_number = omega arith;
      tree_left = refl;
      counted = let e : expansions tree ≡ 0 + expansions tree = omega arith in e;
      spent_made_all = λ h. sym (spent h);
    }

    pub work_counts : (cells : ℕ) (wanted : Option ℕ) (n : ℕ) (tree : List (Node S)) → Any Leaf tree → AllByRecursion (λ k. Allowed m.settings start k.settings) tree →
        ExpandsAndCounts m r start n tree (work m r start cells wanted n tree)
    work_counts cells wanted zero tree leaf allowed = by_end (ending m start cells wanted 0 tree)
      where
        by_end : (o : Option (Result Stop StepFault)) → ExpandsAndCounts m r start 0 tree (ended_or o tree (record { end = Ok Spent; tree = tree }))
        by_end None = ended 0 tree (Ok Spent) (λ h. refl)
        by_end (Some e) = ended 0 tree e (λ h. refl)
    work_counts cells wanted (suc n) tree leaf allowed =
        by_end (ending m start cells wanted (suc n) tree) refl (work m r start cells wanted n (expand_next m r start tree))
        (work_counts cells wanted n (expand_next m r start tree) (expansion_leaves_leaf tree leaf allowed) (expansion_allowed tree leaf allowed))
      where
        by_end : (o : Option (Result Stop StepFault)) → ending m start cells wanted (suc n) tree ≡ o → (w : Worked S) → ExpandsAndCounts m r start n (expand_next m r start tree) w →
            ExpandsAndCounts m r start (suc n) tree (ended_or o tree w)
        by_end None e w h = record {
          made = suc h.made;
          at_most_number = let a = h.at_most_number in omega arith;
          tree_left = h.tree_left;
          counted = let one = expansion_adds_one tree leaf in let c = h.counted in omega arith;
          spent_made_all = λ s. ap suc (h.spent_made_all s);
        }
        by_end (Some x) e w h =
            ended (suc n) tree x (λ spent. absurd (not_spent (is_near wanted tree) (eqb (suc n) 0) (eqb (depth (node start tree (next_leaf tree))) greatest_depth) (ltb (cells - length tree) m.settings)
            (first_refusal m start (next_leaf tree) (node start tree (next_leaf tree)) m.settings) x (ne_eqb (suc n) 0 (λ z. omega arith)) e spent))

pub expansions_counted : (S : Type 0) → ExpansionsCounted S
expansions_counted S m r start some below n =
    let c = counted_from m r start some below n (root r.ceiling start ∷ []) (inl refl) (nothing_allowed m.settings start, tt) in
    omega arith
