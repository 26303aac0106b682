-- When the charges of a tariff are in range.
use Rattle.std.specs.Prelude.{◌≡◌, ℕ, ◌<◌, ◌≤◌, Bool, true, List, map, length, is_ok, IfErr, Some, None, Ok, Err, Option, Result, nat_le, slice_index}
use Rattle.model.specs.First.{first_false}
use Rattle.model.specs.Tariffs.{highest_charge}
use Rattle.model.specs.declared.tariff.BadCharge.{BadCharge}
use Rattle.model.specs.declared.tariff.Tariff.{Tariff}

-- the refusal's number, and what is returned with it
abbrev pub charge_number : BadCharge → ℕ
charge_number f = 9

abbrev pub charge_hour : BadCharge → ℕ
charge_hour f = f.hour

-- a charge is in range up to 1,000
abbrev pub ChargeInRange : List ℕ → ℕ → Type 0
ChargeInRange charges hour = slice_index charges hour ≤ highest_charge

-- the same as a test of one charge
abbrev pub charge_in_range : ℕ → Bool
charge_in_range charge = nat_le charge highest_charge

-- the first hour whose charge is out of range
abbrev pub first_high_charge : List ℕ → Option ℕ
first_high_charge charges = first_false 0 (map charge_in_range charges)

-- refusal 9 with the hour, if there is one, else the answer
abbrev pub refused_at : {A : Type 0} → Option ℕ → A → Result A BadCharge
refused_at (Some hour) x = Err (record { hour = hour })
refused_at None x = Ok x

-- the charges with the model, or the refusal of the first charge above 1,000
abbrev pub made_tariff : {M : Type 0} → List ℕ → M → Result (List ℕ × M) BadCharge
made_tariff charges m = refused_at (first_high_charge charges) (charges, m)

-- the charges and the model that a tariff was made with
abbrev pub parts : {M : Type 0} → Result (Tariff M) BadCharge → Result (List ℕ × M) BadCharge
parts (Ok t) = Ok (t.charges, t.model)
parts (Err e) = Err e

-- What making a tariff answers.
pub record Makes {M : Type 0} (charges : List ℕ) (m : M) (r : Result (Tariff M) BadCharge) : Type 0 where
  -- a tariff with these charges over this model, or the refusal
  pub value : parts r ≡ made_tariff charges m
  -- it is made if and only if every charge is in range
  pub made_if_in_range : ((h : ℕ) → h < length charges → ChargeInRange charges h) → is_ok r ≡ true
  pub in_range_if_made : is_ok r ≡ true → (h : ℕ) → h < length charges → ChargeInRange charges h
  -- refusal 9 comes with the first hour whose charge is out of range
  pub refused_at_first : IfErr r (λ f. (charge_number f ≡ 9) × (charge_hour f < length charges) × (ChargeInRange charges (charge_hour f) → ⊥) × ((h : ℕ) → h < charge_hour f → ChargeInRange charges h))
