-- A tariff over a model: the hour is checked first, then the model below.
use Rattle.std.specs.Prelude.{ℕ, ◌+◌, ◌-◌, cond, ◌&&◌, List, ◌==◌, nat_lt, slice_index}
use Rattle.model.specs.Faults.{one_more}
use Rattle.model.specs.Meaning.{Meaning}

-- the hours of a day
abbrev pub hours : ℕ
hours = 24

-- the highest charge
abbrev pub highest_charge : ℕ
highest_charge = 1000

-- the hour after this one; after 23 comes 0
abbrev pub hour_after : ℕ → ℕ
hour_after hour = cond (hour == hours - 1) 0 (hour + 1)

-- the mark that is left: every setting but 0 pays the hour's charge, as far as the mark goes
abbrev pub charged : List ℕ → ℕ → ℕ → ℕ → ℕ
charged charges hour k mark = cond (k == 0) mark (mark - slice_index charges hour)

-- A state is an hour and the state below. An unknown hour is the tariff's own refusal;
-- every other comes from the model below, and has one layer more.
abbrev pub tariff : {S : Type 0} → List ℕ → Meaning S → Meaning (ℕ × S)
tariff charges m = record {
  settings = m.settings;
  known = λ s. nat_lt s.0 hours && m.known s.1;
  same = λ a b. (a.0 == b.0) && m.same a.1 b.1;
  mark = λ s k. charged charges s.0 k (m.mark s.1 k);
  next = λ s k. (hour_after s.0, m.next s.1 k);
  layers = λ s k. cond (nat_lt s.0 hours) (one_more (m.layers s.1 k)) 0;
}
