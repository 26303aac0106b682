-- The first parameter of a basin that is out of range, and what acceptance and refusal say of the parameters.
use Rattle.std.proofs.Common.{◌≡◌, ℕ, ◌-◌, ◌<◌, ◌≤◌, Bool, true, false, List, length, get_or, Some, None, Option, Result, refl, subst, arith}
use Rattle.std.proofs.lemmas.Bool.{both_ways, false≢true}
use Rattle.model.specs.First.{first_false}
use Rattle.model.proofs.Firsts.{each_passes, found_first}
use Rattle.basin.specs.Ranges.{Parameters, ranges}
use Rattle.basin.specs.Making.{judged, made, AcceptedIfAllInRange, RefusedAtFirstOutOfRange}
use Rattle.basin.specs.declared.fault.BadParameter.{BadParameter}

-- the first failure stands one place before its number, and all before it pass
first_from_1 : (bs : List Bool) (n : ℕ) → first_false 1 bs ≡ Some n → (1 ≤ n) × (n ≤ length bs) × (get_or bs (n - 1) true ≡ false) × ((i : ℕ) → 1 ≤ i → i < n → get_or bs (i - 1) true ≡ true)
first_from_1 bs n e =
    let (j, is, first) = found_first 1 bs n e in
    let same : j ≡ n - 1 = omega arith in (
      omega arith,
      omega (arith, first.inside),
      subst (λ (i : ℕ). get_or bs i true ≡ false) same first.fails,
      λ i low h. first.before (i - 1) (omega arith),
    )

-- by the number of the first parameter out of range
module _ (p : Parameters) where
  judged_accepted : (o : Option ℕ) → first_false 1 (ranges p) ≡ o → AcceptedIfAllInRange p (judged o p)
  judged_accepted None e = (λ _. refl, λ _ i low high. each_passes 1 (ranges p) e (i - 1))
  judged_accepted (Some n) e =
      let (low, high, out, before) = first_from_1 (ranges p) n e in (
        λ all. absurd (both_ways _ out (all n low high)),
        λ ok. absurd (false≢true ok),
      )

  judged_refused : (o : Option ℕ) → first_false 1 (ranges p) ≡ o → RefusedAtFirstOutOfRange p (judged o p)
  judged_refused None e = tt
  judged_refused (Some n) e =
      let (low, high, out, before) = first_from_1 (ranges p) n e in
      (low, high, both_ways _ out, before)

  -- an answer that is made as the rules say
  pub accepted : (r : Result Parameters BadParameter) → r ≡ made p → AcceptedIfAllInRange p r
  accepted r e = rw e (judged_accepted _ refl)

  pub refused : (r : Result Parameters BadParameter) → r ≡ made p → RefusedAtFirstOutOfRange p r
  refused r e = rw e (judged_refused _ refl)
