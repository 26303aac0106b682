-- Rounding down and up.
use Rattle.std.specs.Prelude.{ℕ, ◌+◌, ◌*◌, ◌/◌, ◌<◌, ◌≤◌}
use Rattle.std.proofs.Common.{arith}
use Rattle.reckoning.specs.Grains.{whole, rounded_up}

-- a greater number is not rounded to less
pub down_rises : (x y : ℕ) → x ≤ y → x / whole ≤ y / whole
down_rises x y h = omega arith

pub up_rises : (x y : ℕ) → x ≤ y → rounded_up x whole ≤ rounded_up y whole
up_rises x y h = omega arith

-- rounded down it is not above the quotient, rounded up not below it
pub down_below : (x : ℕ) → x / whole * whole ≤ x
down_below x = omega arith

pub up_above : (x : ℕ) → x ≤ rounded_up x whole * whole
up_above x = omega arith

-- nor above any whole number that covers what is rounded
pub up_least : (x q : ℕ) → x ≤ q * whole → rounded_up x whole ≤ q
up_least x q h = omega arith

-- rounding a sum up is at most rounding one part down and the other up, and one more
pub up_of_sum : (x y : ℕ) → rounded_up (x + y) whole ≤ x / whole + (rounded_up y whole + 1)
up_of_sum x y = omega arith

-- by any divisor: what is rounded up is not below the quotient, and not above the dividend
pub up_covers : (x b : ℕ) → 0 < b → x ≤ rounded_up x b * b
up_covers x b pos = grind arith

pub up_at_most_itself : (x b : ℕ) → 0 < b → rounded_up x b ≤ x
up_at_most_itself x b pos = grind arith
