-- Making a tariff decides whether every charge is in range.
use Rattle.std.proofs.Common.{◌≡◌, ℕ, zero, suc, ◌<◌, true, List, [], ◌∷◌, map, length, get_or, Some, None, Ok, Err, Option, Result, sym, refl, ap, ◌∙◌, subst, arith}
use Rattle.std.proofs.lemmas.List.{length-map}
use Rattle.std.proofs.lemmas.Bool.{leb-true, le-leb, both_ways, false≢true}
use Rattle.model.specs.TariffMaking.{ChargeInRange, charge_in_range, first_high_charge, refused_at, made_tariff, parts, Makes}
use Rattle.model.specs.declared.tariff.BadCharge.{BadCharge}
use Rattle.model.specs.declared.tariff.Tariff.{Tariff}
use Rattle.model.proofs.Firsts.{each_passes, found_first}

-- the test at an hour is the test of its charge
tested : (charges : List ℕ) (h : ℕ) → get_or (map charge_in_range charges) h true ≡ charge_in_range (get_or charges h 0)
tested [] h = refl
tested (c ∷ charges) zero = refl
tested (c ∷ charges) (suc h) = tested charges h

module _ (charges : List ℕ) where
  pub all_in_range : first_high_charge charges ≡ None → (h : ℕ) → ChargeInRange charges h
  all_in_range e h = leb-true _ _ (sym (tested charges h) ∙ each_passes 0 (map charge_in_range charges) e h)

  -- the charge of this hour is out of range, and those before it are in range
  pub record FirstHigh (hour : ℕ) : Type 0 where
    pub within : hour < length charges
    pub high_there : ChargeInRange charges hour → ⊥
    pub in_range_before : (h : ℕ) → h < hour → ChargeInRange charges h

  pub first_is_high : (hour : ℕ) → first_high_charge charges ≡ Some hour → FirstHigh hour
  first_is_high hour e =
      let (j, is, first) = found_first 0 (map charge_in_range charges) hour e in
      let same : j ≡ hour = omega arith in
      subst FirstHigh same (record {
        within = omega (arith, first.inside, length-map charges charge_in_range);
        high_there = λ f. both_ways _ first.fails (tested charges j ∙ le-leb _ _ f);
        in_range_before = λ h l. leb-true _ _ (sym (tested charges h) ∙ first.before h l);
      })

makes_by : {M : Type 0} (charges : List ℕ) (m : M) → (o : Option ℕ) → first_high_charge charges ≡ o → (r : Result (Tariff M) BadCharge) → parts r ≡ refused_at o (charges, m) → Makes charges m r
makes_by charges m None is (Ok t) e = record {
  value = e ∙ ap (λ x. refused_at x (charges, m)) (sym is);
  made_if_in_range = λ _. refl;
  in_range_if_made = λ _ h _. all_in_range charges is h;
  refused_at_first = tt;
}
makes_by charges m None is (Err f) e = cc
makes_by charges m (Some hour) is (Ok t) e = cc
makes_by charges m (Some hour) is (Err f) e =
    let same : hour ≡ f.hour = cc in
    let first = subst (FirstHigh charges) same (first_is_high charges hour is) in
    record {
      value = e ∙ ap (λ x. refused_at x (charges, m)) (sym is);
      made_if_in_range = λ each. absurd (first.high_there (each f.hour first.within));
      in_range_if_made = λ no. absurd (false≢true no);
      refused_at_first = (refl, first.within, first.high_there, first.in_range_before);
    }

pub makes : {M : Type 0} (charges : List ℕ) (m : M) → (r : Result (Tariff M) BadCharge) → parts r ≡ made_tariff charges m → Makes charges m r
makes charges m r e = makes_by charges m (first_high_charge charges) refl r e

-- what is not refused has no first
pub none_refused : {A : Type 0} (o : Option ℕ) (x : A) → refused_at o x ≡ Ok x → o ≡ None
none_refused None x e = refl
none_refused (Some h) x e = cc

-- what is refused is refused alike, whatever the answer would be
pub refused_alike : {A B : Type 0} (o : Option ℕ) (x : A) (y : B) (f : BadCharge) → refused_at o x ≡ Err f → refused_at o y ≡ Err f
refused_alike (Some h) x y f e = cc
refused_alike None x y f e = cc
