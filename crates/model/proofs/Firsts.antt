-- The first test that fails: by its place in the list, and what it says of each test.
use Rattle.std.proofs.Common.{◌≡◌, ℕ, zero, suc, ◌+◌, ◌<◌, Bool, true, false, List, [], ◌∷◌, map, length, get_or, Some, None, Option, sym, refl, ap, ◌∙◌, arith}
use Rattle.std.specs.Prelude.{not, position}
use Rattle.std.specs.Option.{option_map}
use Rattle.model.specs.First.{first_false}

-- of tests numbered from n, the first that fails is that of the first item that does not pass
pub first_by_place : {A : Type 0} (ok : A → Bool) (n : ℕ) (xs : List A) → first_false n (map ok xs) ≡ option_map (λ i. n + i) (position (λ x. not (ok x)) xs)
first_by_place ok n [] = refl
first_by_place ok n (x ∷ xs) = grind (arith, first_by_place ok (n + 1) xs)

moved_by_0 : (o : Option ℕ) → option_map (λ i. 0 + i) o ≡ o
moved_by_0 None = refl
moved_by_0 (Some i) = ap Some (omega arith)

-- numbered from 0, its number is its place
pub place_is_first : {A : Type 0} (ok : A → Bool) (xs : List A) → position (λ x. not (ok x)) xs ≡ first_false 0 (map ok xs)
place_is_first ok xs = sym (first_by_place ok 0 xs ∙ moved_by_0 _)

-- where none fails, each passes
pub each_passes : (n : ℕ) (bs : List Bool) → first_false n bs ≡ None → (i : ℕ) → get_or bs i true ≡ true
each_passes n [] e i = refl
each_passes n (true ∷ bs) e zero = refl
each_passes n (true ∷ bs) e (suc i) = each_passes (n + 1) bs e i
each_passes n (false ∷ bs) e i = cc

-- the test at this place of the list fails, and each before it passes
pub record First (bs : List Bool) (place : ℕ) : Type 0 where
  pub inside : place < length bs
  pub fails : get_or bs place true ≡ false
  pub before : (i : ℕ) → i < place → get_or bs i true ≡ true

sooner : (bs : List Bool) (j : ℕ) → ((i : ℕ) → i < j → get_or bs i true ≡ true) → (i : ℕ) → i < suc j → get_or (true ∷ bs) i true ≡ true
sooner bs j before zero h = refl
sooner bs j before (suc i) h = before i (omega arith)

-- what is found is the first that fails
pub found_first : (n : ℕ) (bs : List Bool) (k : ℕ) → first_false n bs ≡ Some k → (j : ℕ) × (k ≡ n + j) × First bs j
found_first n [] k e = cc
found_first n (false ∷ bs) k e =
    let same : n ≡ k = cc in
    (0, omega arith, record { inside = omega arith; fails = refl; before = λ i h. absurd (omega arith) })
found_first n (true ∷ bs) k e =
    let (j, is, first) = found_first (n + 1) bs k e in
    (suc j, omega arith, record { inside = omega (arith, first.inside); fails = first.fails; before = sooner bs j first.before })
