-- Two kinds of reckoning, which join the same two terms: the running sum adds them, the best moment takes the larger.
use Rattle.std.specs.Prelude.{ℕ, suc, ◌+◌, ◌-◌, ◌*◌, ◌/◌, ◌^◌, min, max}
use Rattle.model.specs.Meaning.{highest_mark}
use Rattle.reckoning.specs.Grains.{whole, counted, grains_of, rounded_up}
use Rattle.reckoning.specs.Meaning.{Meaning}

-- A reckoning that joins, by `join`, the grains of the mark and the discounted rest, rounded down or up or not at all.
abbrev pub joined_terms : (ℕ → ℕ → ℕ) → ℕ → ℕ → Meaning
joined_terms join g ceiling = record {
  discount = g;
  ceiling = ceiling;
  low = λ mark rest. join (grains_of (counted mark)) (g * min rest ceiling / whole);
  high = λ mark rest. join (grains_of (counted mark)) (rounded_up (g * min rest ceiling) whole);
  exact = λ n mark num. join (grains_of mark * whole ^ suc n) (g * num);
}

-- the highest mark at every step: its grains, divided by what the discount leaves of a whole
abbrev pub sum_ceiling : ℕ → ℕ
sum_ceiling g = rounded_up (grains_of highest_mark * whole) (whole - g)

-- the running sum: each mark counts, a later one less (in the field's terms: the discounted sum of rewards)
abbrev pub running_sum : ℕ → Meaning
running_sum g = joined_terms (λ a b. a + b) g (sum_ceiling g)

-- the best moment: only the mark that counts for most (in the field's terms: the discounted maximum of rewards)
abbrev pub best_moment : ℕ → Meaning
best_moment g = joined_terms (λ a b. max a b) g (grains_of highest_mark)
