-- The greatest worth of a leaf, and where it stands.
use Rattle.std.proofs.Common.{◌≡◌, ℕ, zero, suc, ◌<◌, ◌≤◌, max, Bool, true, false, not, ◌&&◌, eqb, ◌⊎◌, List, [], ◌∷◌, ◌++◌, length, get_or, set, sym, ap, ◌∙◌, inl, inr, ⊎_elim, arith}
use Rattle.std.specs.List.{AllByRecursion}
use Rattle.std.proofs.lemmas.Bool.{eqb-true, eq-eqb, cond_both, both_ways, and_parts, and_from, not-true, not_from_false, cases_lt, cases_Bool, cond-true, cond-false}
use Rattle.std.proofs.ByRecursion.{All-weaker, All-get_or, All-from_get_or}
use Rattle.rules.specs.Trees.{Node}
use Rattle.rules.specs.Leaves.{Any, Leaf, greatest, first_leaf, best_leaf, Chosen, LeafChosen}

module _ {X : Type 0} where
  pub any_map : (P Q : X → Type 0) → ((x : X) → P x → Q x) → (xs : List X) → Any P xs → Any Q xs
  any_map P Q f [] h = h
  any_map P Q f (x ∷ xs) (inl p) = inl (f x p)
  any_map P Q f (x ∷ xs) (inr h) = inr (any_map P Q f xs h)

  pub any_left : (P : X → Type 0) (xs ys : List X) → Any P xs → Any P (xs ++ ys)
  any_left P [] ys h = absurd h
  any_left P (x ∷ xs) ys (inl p) = inl p
  any_left P (x ∷ xs) ys (inr h) = inr (any_left P xs ys h)

  pub any_right : (P : X → Type 0) (xs ys : List X) → Any P ys → Any P (xs ++ ys)
  any_right P [] ys h = h
  any_right P (x ∷ xs) ys h = inr (any_right P xs ys h)

  -- what some element is, the one at i is, or some element still is after a write at i
  pub any_set : (P : X → Type 0) (xs : List X) (i : ℕ) (y d : X) → Any P xs → P (get_or xs i d) ⊎ Any P (set xs i y)
  any_set P [] i y d h = absurd h
  any_set P (x ∷ xs) zero y d (inl p) = inl p
  any_set P (x ∷ xs) zero y d (inr h) = inr (inr h)
  any_set P (x ∷ xs) (suc i) y d (inl p) = inr (inl p)
  any_set P (x ∷ xs) (suc i) y d (inr h) = ⊎_elim (λ p. inl p) (λ k. inr (inr k)) (any_set P xs i y d h)

  -- what is written is there
  pub any_written : (P : X → Type 0) (xs : List X) (i : ℕ) (y : X) → i < length xs → P y → Any P (set xs i y)
  any_written P [] i y l p = absurd (omega arith)
  any_written P (x ∷ xs) zero y l p = inl p
  any_written P (x ∷ xs) (suc i) y l p = inr (any_written P xs i y (omega arith) p)

  -- what all are and some one is besides
  pub any_all : (P Q : X → Type 0) (xs : List X) → AllByRecursion P xs → Any Q xs → Any (λ x. P x × Q x) xs
  any_all P Q [] a h = h
  any_all P Q (x ∷ xs) a (inl q) = inl (a.0, q)
  any_all P Q (x ∷ xs) a (inr h) = inr (any_all P Q xs a.1 h)

  pub any_out : (P : X → Type 0) (C : Type 0) → ((x : X) → P x → C) → (xs : List X) → Any P xs → C
  any_out P C f [] h = absurd h
  any_out P C f (x ∷ xs) (inl p) = f x p
  any_out P C f (x ∷ xs) (inr h) = any_out P C f xs h

  -- each of a list is there
  pub all_there : (P : X → X → Type 0) → ((x : X) → P x x) → (xs : List X) → AllByRecursion (λ x. Any (P x) xs) xs
  all_there P same [] = tt
  all_there P same (x ∷ xs) = (inl (same x), All-weaker (λ y. Any (P y) xs) (λ y. Any (P y) (x ∷ xs)) (λ y h. inr h) xs (all_there P same xs))

module _ {S : Type 0} (worth : Node S → ℕ) where
  -- a bound of every leaf's worth bounds the greatest
  pub greatest_least : (w : ℕ) (ns : List (Node S)) → AllByRecursion (λ n. Leaf n → worth n ≤ w) ns → greatest worth ns ≤ w
  greatest_least w [] h = omega arith
  greatest_least w (n ∷ ns) h =
      let rest = greatest_least w ns h.1 in
      cond_both n.expanded (greatest worth ns) (max (worth n) (greatest worth ns)) (λ v. v ≤ w) (λ e. rest) (λ e. let k = h.0 e in omega arith)

  greatest_tail : (n : Node S) (ns : List (Node S)) → greatest worth ns ≤ greatest worth (n ∷ ns)
  greatest_tail n ns = cond_both n.expanded (greatest worth ns) (max (worth n) (greatest worth ns)) (λ v. greatest worth ns ≤ v) (λ e. omega arith) (λ e. omega arith)

  -- no leaf's worth is above the greatest
  pub greatest_above : (ns : List (Node S)) → AllByRecursion (λ n. Leaf n → worth n ≤ greatest worth ns) ns
  greatest_above [] = tt
  greatest_above (n ∷ ns) = (
    λ e. cond_both n.expanded (greatest worth ns) (max (worth n) (greatest worth ns)) (λ v. worth n ≤ v) (λ t. absurd (both_ways n.expanded e t)) (λ t. omega arith),
    All-weaker (λ k. Leaf k → worth k ≤ greatest worth ns) (λ k. Leaf k → worth k ≤ greatest worth (n ∷ ns)) (λ k h e. let l = h e in let t = greatest_tail n ns in omega arith) ns (greatest_above ns),
  )

  -- some leaf has it
  pub greatest_met : (ns : List (Node S)) → (0 < greatest worth ns) ⊎ Any Leaf ns → Any (λ n. Leaf n × (worth n ≡ greatest worth ns)) ns
  greatest_met [] (inl p) = omega arith
  greatest_met [] (inr h) = h
  greatest_met (n ∷ ns) h =
      cond_both n.expanded (greatest worth ns) (max (worth n) (greatest worth ns)) (λ v. ((0 < v) ⊎ (Leaf n ⊎ Any Leaf ns)) → Any (λ k. Leaf k × (worth k ≡ v)) (n ∷ ns))
      (λ e q. inr (greatest_met ns (⊎_elim (λ p. inl p) (λ k. ⊎_elim (λ l. absurd (both_ways n.expanded l e)) (λ a. inr a) k) q)))
      (λ e q. ⊎_elim
      (λ (l : worth n < greatest worth ns). inr (any_map (λ k. Leaf k × (worth k ≡ greatest worth ns)) (λ k. Leaf k × (worth k ≡ max (worth n) (greatest worth ns))) (λ k t. (t.0, let u = t.1 in omega arith)) ns (greatest_met ns (inl (omega arith)))))
      (λ (l : greatest worth ns ≤ worth n). inl (e, omega arith))
      (cases_lt (worth n) (greatest worth ns)))
      h

  -- a leaf worth at least w makes the greatest at least w
  pub greatest_from : (w : ℕ) (ns : List (Node S)) → Any (λ n. Leaf n × (w ≤ worth n)) ns → w ≤ greatest worth ns
  greatest_from w [] h = absurd h
  greatest_from w (n ∷ ns) (inl k) =
      cond_both n.expanded (greatest worth ns) (max (worth n) (greatest worth ns)) (λ v. w ≤ v) (λ t. absurd (both_ways n.expanded k.0 t)) (λ t. let l = k.1 in omega arith)
  greatest_from w (n ∷ ns) (inr h) = let l = greatest_from w ns h in let t = greatest_tail n ns in omega arith

  -- whether a node is a leaf of this worth
  counts : ℕ → Node S → Bool
  counts w n = not n.expanded && eqb (worth n) w

  counts_from : (w : ℕ) (n : Node S) → Leaf n → worth n ≡ w → counts w n ≡ true
  unfolding counts
  counts_from w n leaf e = and_from (not n.expanded) (eqb (worth n) w) (not_from_false n.expanded leaf) (eq-eqb (worth n) w e)

  counts_is : (w : ℕ) (n : Node S) → counts w n ≡ true → Leaf n × (worth n ≡ w)
  unfolding counts
  counts_is w n e =
      let p = and_parts (not n.expanded) (eqb (worth n) w) e in
      (not-true n.expanded p.0, eqb-true (worth n) w p.1)

  -- the first leaf of a worth that some leaf has
  first_leaf_is : (w : ℕ) (ns : List (Node S)) (d : Node S) → Any (λ n. Leaf n × (worth n ≡ w)) ns →
      (first_leaf worth w ns < length ns) × Leaf (get_or ns (first_leaf worth w ns) d) × (worth (get_or ns (first_leaf worth w ns) d) ≡ w)
  unfolding counts
  first_leaf_is w [] d h = absurd h
  first_leaf_is w (n ∷ ns) d h =
      cond_both (counts w n) 0 (suc (first_leaf worth w ns))
      (λ i. (i < length (n ∷ ns)) × Leaf (get_or (n ∷ ns) i d) × (worth (get_or (n ∷ ns) i d) ≡ w))
      (λ e. let p = counts_is w n e in (omega arith, p.0, p.1))
      (λ e. let t = first_leaf_is w ns d (⊎_elim (λ k. absurd (both_ways (counts w n) e (counts_from w n k.0 k.1))) (λ k. k) h) in
      let l = t.0 in
      (omega arith, t.1, t.2))

  -- no leaf before it has that worth
  first_leaf_first : (w : ℕ) (ns : List (Node S)) (d : Node S) (j : ℕ) → j < first_leaf worth w ns → j < length ns → Leaf (get_or ns j d) → worth (get_or ns j d) ≡ w → ⊥
  unfolding counts
  first_leaf_first w [] d j before there leaf e = omega arith
  first_leaf_first w (n ∷ ns) d zero before there leaf e =
      cond_both (counts w n) 0 (suc (first_leaf worth w ns)) (λ i. 0 < i → ⊥)
      (λ t l. omega arith)
      (λ t l. both_ways (counts w n) t (counts_from w n leaf e))
      before
  first_leaf_first w (n ∷ ns) d (suc j) before there leaf e =
      cond_both (counts w n) 0 (suc (first_leaf worth w ns)) (λ i. suc j < i → ⊥)
      (λ t l. omega arith)
      (λ t l. first_leaf_first w ns d j (omega arith) (omega arith) leaf e)
      before

  -- a leaf of this worth with none of it before is the first
  first_leaf_from : (w : ℕ) (ns : List (Node S)) (d : Node S) (i : ℕ) → i < length ns → Leaf (get_or ns i d) → worth (get_or ns i d) ≡ w →
      ((j : ℕ) → j < i → Leaf (get_or ns j d) → worth (get_or ns j d) ≡ w → ⊥) → i ≡ first_leaf worth w ns
  unfolding counts
  first_leaf_from w [] d i l f e none = absurd (omega arith)
  first_leaf_from w (n ∷ ns) d zero l f e none = sym (cond-true (counts w n) 0 (suc (first_leaf worth w ns)) (counts_from w n f e))
  first_leaf_from w (n ∷ ns) d (suc i) l f e none =
      let no : counts w n ≡ false =
      ⊎_elim (λ (t : counts w n ≡ true). let p = counts_is w n t in absurd (none 0 (omega arith) p.0 p.1)) (λ t. t) (cases_Bool (counts w n)) in
      ap suc (first_leaf_from w ns d i (omega arith) f e (λ j k g. none (suc j) (omega arith) g))
      ∙ sym (cond-false (counts w n) 0 (suc (first_leaf worth w ns)) no)

  pub best_leaf_is : (ns : List (Node S)) (d : Node S) → Any Leaf ns →
      (best_leaf worth ns < length ns) × Leaf (get_or ns (best_leaf worth ns) d) × (worth (get_or ns (best_leaf worth ns) d) ≡ greatest worth ns)
  best_leaf_is ns d h = first_leaf_is (greatest worth ns) ns d (greatest_met ns (inr h))

  -- what is chosen has the greatest worth
  chosen_greatest : (tree : List (Node S)) (i : ℕ) (d : Node S) → Chosen worth tree i → worth (get_or tree i d) ≡ greatest worth tree
  chosen_greatest tree i d c =
      let w = worth (get_or tree i d) in
      let up = greatest_least w tree (All-from_get_or (λ n. Leaf n → worth n ≤ w) tree d (λ j l. c.none_greater d j l)) in
      let down = All-get_or (λ n. Leaf n → worth n ≤ greatest worth tree) tree i d c.is_there (greatest_above tree) (c.is_leaf d) in
      omega arith

  pub leaf_chosen : LeafChosen worth
  leaf_chosen = record {
    chosen = λ tree some. record {
      is_there = go tree some;
      is_leaf = λ d. (best_leaf_is tree d some).1;
      none_greater = λ d j l leaf.
          let top = (best_leaf_is tree d some).2 in
          let h = All-get_or (λ n. Leaf n → worth n ≤ greatest worth tree) tree j d l (greatest_above tree) leaf in
          omega arith;
      none_same_before = λ d j l leaf e.
          let b = best_leaf_is tree d some in
          first_leaf_first (greatest worth tree) tree d j l (let t = b.0 in omega arith) leaf (e ∙ b.2);
    };
    no_other = λ tree i c. only tree i c;
    its_worth = λ tree d some. (best_leaf_is tree d some).2;
  }
    where
      go : (tree : List (Node S)) → Any Leaf tree → best_leaf worth tree < length tree
      go [] h = absurd h
      go (n ∷ ns) h = (best_leaf_is (n ∷ ns) n h).0

      only : (tree : List (Node S)) (i : ℕ) → Chosen worth tree i → i ≡ best_leaf worth tree
      only [] i c = let t = c.is_there in absurd (omega arith)
      only (n ∷ ns) i c =
          let top = chosen_greatest (n ∷ ns) i n c in
          first_leaf_from (greatest worth (n ∷ ns)) (n ∷ ns) n i c.is_there (c.is_leaf n) top
          (λ j l leaf e. c.none_same_before n j l leaf (e ∙ sym top))
