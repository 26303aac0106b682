-- The running sum and the best moment meet the law: a sum and a larger of two join as asked, and both ceilings stay.
use Rattle.std.proofs.Common.{mul-add, arith}
use Rattle.std.specs.Prelude.{ℕ, ◌+◌, ◌-◌, ◌*◌, ◌<◌, ◌≤◌, max}
use Rattle.model.specs.Meaning.{highest_mark}
use Rattle.reckoning.specs.Grains.{whole, grains_of, rounded_up}
use Rattle.reckoning.specs.Meaning.{Laws}
use Rattle.reckoning.specs.Kinds.{running_sum, best_moment, sum_ceiling}
use Rattle.reckoning.specs.Joined.{Joins, joined_laws}
use Rattle.reckoning.specs.Roundings.{up_least, up_covers, up_at_most_itself}

-- adding joins as asked
sum_joins : Joins (λ a b. a + b)
sum_joins = grind arith

-- so does taking the larger
larger_joins : Joins (λ a b. max a b)
larger_joins = grind arith

-- the ceiling of the sum is reached by the highest mark joined with the ceiling, and not passed
sum_stays : (g : ℕ) → g < whole → (mark : ℕ) → mark ≤ highest_mark → grains_of mark + rounded_up (g * sum_ceiling g) whole ≤ sum_ceiling g
sum_stays g below mark s = grind (arith, mul-add (sum_ceiling g) (whole - g) g, up_covers (grains_of highest_mark * whole) (whole - g))

-- every running sum meets the law
pub sum_laws : (g : ℕ) → 0 < g → g < whole → Laws (running_sum g)
sum_laws g pos below = joined_laws (λ a b. a + b) g (sum_ceiling g) sum_joins pos below (grind (arith, up_at_most_itself (grains_of highest_mark * whole) (whole - g))) (sum_stays g below)

-- every best moment meets the law
pub moment_laws : (g : ℕ) → 0 < g → g < whole → Laws (best_moment g)
moment_laws g pos below = joined_laws (λ a b. max a b) g (grains_of highest_mark) larger_joins pos below (omega arith) (λ mark s. omega (arith, up_least (g * grains_of highest_mark) (grains_of highest_mark)))
