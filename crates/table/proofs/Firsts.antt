-- The first of a row of options that is there: step by step, and what its answer says of each.
use Rattle.std.proofs.Common.{◌≡◌, ℕ, zero, suc, ◌+◌, ◌-◌, ◌<◌, ◌≤◌, Some, None, Ok, Err, Option, sym, refl, ap, ◌∙◌, arith}
use Rattle.table.specs.Reading.{first_there, or_else, unless}
use Rattle.table.specs.declared.fault.TableFault.{TableFault}

-- where nothing is refused, no fault is there
pub none_if_allowed : {A : Type 0} (o : Option TableFault) (x y : A) → unless o x ≡ Ok y → o ≡ None
none_if_allowed (Some d) x y h = cc
none_if_allowed None x y h = refl

there_if_refused : {A : Type 0} (o : Option TableFault) (x : A) (e : TableFault) → unless o x ≡ Err e → o ≡ Some e
there_if_refused (Some d) x e h = cc
there_if_refused None x e h = cc

module _ (f : ℕ → Option TableFault) (i n : ℕ) (h : i < n) where
  first_step : first_there f i (n - i) ≡ or_else (f i) (first_there f (i + 1) (n - (i + 1)))
  first_step = let e : n - i ≡ suc (n - (i + 1)) = omega arith in ap (first_there f i) e

  -- where the one at i is refused, its fault is the first of what is left
  pub first_here : (e : TableFault) → unless {A = Unit {0}} (f i) tt ≡ Err e → first_there f i (n - i) ≡ Some e
  first_here e refused = first_step ∙ ap (λ o. or_else o (first_there f (i + 1) (n - (i + 1)))) (there_if_refused (f i) tt e refused)

  -- where it is not, the first is further on
  pub first_later : unless {A = Unit {0}} (f i) tt ≡ Ok tt → first_there f (i + 1) (n - (i + 1)) ≡ first_there f i (n - i)
  first_later allowed = sym (first_step ∙ ap (λ o. or_else o (first_there f (i + 1) (n - (i + 1)))) (none_if_allowed (f i) tt tt allowed))

neither : {A : Type 0} (o p : Option A) → or_else o p ≡ None → (o ≡ None) × (p ≡ None)
neither (Some x) p e = absurd cc
neither None p e = (refl, e)

-- where none is found, there is none
pub none_there : {A : Type 0} (f : ℕ → Option A) (a n : ℕ) → first_there f a n ≡ None → (j : ℕ) → a ≤ j → j < a + n → f j ≡ None
none_there f a zero e j l h = absurd (omega arith)
none_there f a (suc n) e j l h =
    let p = neither (f a) (first_there f (a + 1) n) e in
    let later = none_there f (a + 1) n p.1 j in
    grind arith

-- what was found is at some place, and nothing before it
pub record Found {A : Type 0} (f : ℕ → Option A) (a n : ℕ) (x : A) : Type 0 where
  pub place : ℕ
  pub from : a ≤ place
  pub within : place < a + n
  pub there : f place ≡ Some x
  pub before : (j : ℕ) → a ≤ j → j < place → f j ≡ None

found_by : {A : Type 0} (f : ℕ → Option A) (a n : ℕ) (x : A) (o : Option A) → f a ≡ o → or_else o (first_there f (a + 1) n) ≡ Some x → (first_there f (a + 1) n ≡ Some x → Found f (a + 1) n x) → Found f a (suc n) x
found_by f a n x (Some y) is same rest =
    record { place = a; from = omega arith; within = omega arith; there = is ∙ same; before = λ j l h. absurd (omega arith) }
found_by f a n x None is later rest =
    let found = rest later in
    record {
      place = found.place;
      from = omega (arith, found.from);
      within = omega (arith, found.within);
      there = found.there;
      before = λ j l h. let b = found.before j in grind arith;
    }

pub found_there : {A : Type 0} (f : ℕ → Option A) (a n : ℕ) (x : A) → first_there f a n ≡ Some x → Found f a n x
found_there f a zero x e = absurd cc
found_there f a (suc n) x e = found_by f a n x (f a) refl e (found_there f (a + 1) n x)
