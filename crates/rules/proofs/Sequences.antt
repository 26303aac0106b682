-- Sequences of settings: their marks and ends, and the laws of what the limit allows.
use Rattle.std.proofs.Common.{◌≡◌, ℕ, suc, ◌+◌, ◌<◌, ◌≤◌, Bool, true, false, cond, eqb, ltb, leb, List, [], ◌∷◌, ◌++◌, length, Some, None, Ok, Err, Option, Result, sym, refl, ap, ◌∙◌, subst, arith}
use Rattle.std.specs.List.{AllByRecursion}
use Rattle.std.proofs.lemmas.Bool.{eq-eqb, cond-true, leb-true, le-leb, ltb-true}
use Rattle.std.proofs.ByRecursion.{All-append}
use Rattle.model.specs.Meaning.{Meaning, Laws, step}
use Rattle.model.specs.Walk.{walk_from, onward, at_place}
use Rattle.model.specs.declared.fault.ModelFault.{ModelFault}
use Rattle.model.specs.declared.walking.WalkFault.{WalkFault}
use Rattle.reckoning.specs.Worths.{AreMarks}
use Rattle.rules.specs.Sequences.{Start, switch, switches, allows, Allowed, Below, last_setting, marks_along, end_along, LimitLaws}

module _ {S : Type 0} (m : Meaning S) where
  pub marks_append : (s : S) (front rest : List ℕ) → marks_along m s (front ++ rest) ≡ marks_along m s front ++ marks_along m (end_along m s front) rest
  marks_append s [] rest = refl
  marks_append s (k ∷ front) rest = ap (λ (l : List ℕ). m.mark s k ∷ l) (marks_append (m.next s k) front rest)

  pub end_append : (s : S) (front rest : List ℕ) → end_along m s (front ++ rest) ≡ end_along m (end_along m s front) rest
  end_append s [] rest = refl
  end_append s (k ∷ front) rest = end_append (m.next s k) front rest

  pub length_marks : (s : S) (path : List ℕ) → length (marks_along m s path) ≡ length path
  length_marks s [] = refl
  length_marks s (k ∷ path) = ap suc (length_marks (m.next s k) path)

  pub marks_along_are : Laws S m → (s : S) (path : List ℕ) → m.known s ≡ true → AllByRecursion (λ k. k < m.settings) path → AreMarks (marks_along m s path)
  marks_along_are law s [] known below = tt
  marks_along_are law s (k ∷ path) known below =
      (law.small_marks s k known below.0, marks_along_are law (m.next s k) path (law.next_known s k known below.0) below.1)

  pub known_along : Laws S m → (s : S) (path : List ℕ) → m.known s ≡ true → AllByRecursion (λ k. k < m.settings) path → m.known (end_along m s path) ≡ true
  known_along law s [] known below = known
  known_along law s (k ∷ path) known below = known_along law (m.next s k) path (law.next_known s k known below.0) below.1

-- a step that is granted
pub step_granted : {A : Type 0} (known below : Bool) (x y : A) (f g : ModelFault) → ◌≡◌ {A = Result A ModelFault} (cond known (cond below (Ok x) (Err f)) (Err g)) (Ok y) → (below ≡ true) × (x ≡ y)
step_granted true true x y f g e = (refl, cc)
step_granted true false x y f g e = cc
step_granted false below x y f g e = cc

first_granted : {S : Type 0} (place : ℕ) (result : Result (ℕ × S) ModelFault) (then : S → Result S WalkFault) (end : S) → onward (at_place place result) then ≡ Ok end → (p : ℕ × S) × (result ≡ Ok p) × (then p.1 ≡ Ok end)
first_granted place (Ok p) then end e = (p, refl, e)
first_granted place (Err f) then end e = cc

-- a walk that is granted has only settings below K, and ends where they lead
pub walk_granted : {S : Type 0} (m : Meaning S) (place : ℕ) (s : S) (path : List ℕ) (end : S) → walk_from m place s path ≡ Ok end → AllByRecursion (λ k. k < m.settings) path × (end ≡ end_along m s path)
walk_granted m place s [] end e = (tt, let f : s ≡ end = cc in sym f)
walk_granted {S} m place s (k ∷ path) end e =
    let g = first_granted place (step m s k) (λ t. walk_from m (place + 1) t path) end e in
    let p = step_granted (m.known s) (ltb k m.settings) (m.mark s k, m.next s k) g.0 _ _ g.1 in
    let same : m.next s k ≡ g.0.1 = ap (λ (x : ℕ × S). x.1) p.1 in
    let rest = walk_granted m (place + 1) (m.next s k) path end (subst (λ (t : S). walk_from m (place + 1) t path ≡ Ok end) (sym same) g.2) in
    ((ltb-true k m.settings p.0, rest.0), rest.1)

-- fronts and backs of a list whose elements are all so
pub all_front : {X : Type 0} (P : X → Type 0) (front rest : List X) → AllByRecursion P (front ++ rest) → AllByRecursion P front
all_front P [] rest h = tt
all_front P (x ∷ front) rest h = (h.0, all_front P front rest h.1)

pub all_back : {X : Type 0} (P : X → Type 0) (front rest : List X) → AllByRecursion P (front ++ rest) → AllByRecursion P rest
all_back P [] rest h = h
all_back P (x ∷ front) rest h = all_back P front rest h.1

-- the laws of the limit
switches_front : (before : Option ℕ) (front rest : List ℕ) → switches before front ≤ switches before (front ++ rest)
switches_front before [] rest = omega arith
switches_front before (k ∷ front) rest = let ih = switches_front (Some k) front rest in omega arith

switches_repeated : (before : Option ℕ) (path : List ℕ) (k : ℕ) → last_setting before path ≡ Some k → switches before (path ++ (k ∷ [])) ≡ switches before path
switches_repeated None [] k e = cc
switches_repeated (Some b) [] k e =
    let same : b ≡ k = cc in
    let none : switch (Some b) k ≡ 0 = cond-true (eqb b k) 0 1 (eq-eqb b k same) in
    omega arith
switches_repeated before (x ∷ path) k e = ap (λ (n : ℕ). switch before x + n) (switches_repeated (Some x) path k e)

pub limit_laws : {S : Type 0} (start : Start S) → LimitLaws start
limit_laws start = record {
  nothing_is_allowed = le-leb 0 start.limit (omega arith);
  front_is_allowed = λ front rest h. le-leb (switches start.before front) start.limit
      (let f = switches_front start.before front rest in let w = leb-true (switches start.before (front ++ rest)) start.limit h in omega arith);
  setting_before_may_repeat = λ path k e h. ap (λ n. leb n start.limit) (switches_repeated start.before path k e) ∙ h;
  first_is_free_with_none_before = λ k e. ap (λ (before : Option ℕ). leb (switches before (k ∷ [])) start.limit) e ∙ le-leb 0 start.limit (omega arith);
}

-- from here on the test is used by its laws alone
pub last_below : (K : ℕ) (before : Option ℕ) (path : List ℕ) → Below before K → AllByRecursion (λ k. k < K) path → Below (last_setting before path) K
last_below K before [] b h = b
last_below K before (k ∷ path) b h = last_below K (Some k) path h.0 h.1

none_before : (before : Option ℕ) (path : List ℕ) → last_setting before path ≡ None → (path ≡ []) × (before ≡ None)
none_before before [] e = (refl, e)
none_before before (k ∷ path) e = absurd (never k path e)
  where
    never : (x : ℕ) (rest : List ℕ) → last_setting (Some x) rest ≡ None → ⊥
    never x [] e = cc
    never x (y ∷ rest) e = never y rest e

module _ {S : Type 0} (K : ℕ) (start : Start S) where
  pub nothing_allowed : Allowed K start []
  nothing_allowed = record { below_k = tt; within_limit = (limit_laws start).nothing_is_allowed }

  pub allowed_front : (front rest : List ℕ) → Allowed K start (front ++ rest) → Allowed K start front
  allowed_front front rest h = record {
    below_k = all_front (λ k. k < K) front rest h.below_k;
    within_limit = (limit_laws start).front_is_allowed front rest h.within_limit;
  }

  pub allowed_push : (path : List ℕ) (k : ℕ) → Allowed K start path → k < K → allows start (path ++ (k ∷ [])) ≡ true → Allowed K start (path ++ (k ∷ []))
  allowed_push path k h below within = record { below_k = All-append (λ k. k < K) path (k ∷ []) h.below_k (below, tt); within_limit = within }

  -- every allowed sequence can be gone on with
  pub allowed_more : (path : List ℕ) → 1 ≤ K → Below start.before K → Allowed K start path → (k : ℕ) × (k < K) × (allows start (path ++ (k ∷ [])) ≡ true)
  allowed_more path some below h = go (last_setting start.before path) refl
    where
      go : (last : Option ℕ) → last_setting start.before path ≡ last → (k : ℕ) × (k < K) × (allows start (path ++ (k ∷ [])) ≡ true)
      go (Some k) e = (
        k,
        subst (λ (o : Option ℕ). Below o K) e (last_below K start.before path below h.below_k),
        (limit_laws start).setting_before_may_repeat path k e h.within_limit,
      )
      go None e =
          let none = none_before start.before path e in
          (0, some, ap (λ (p : List ℕ). allows start (p ++ (0 ∷ []))) none.0 ∙ (limit_laws start).first_is_free_with_none_before 0 none.1)
