-- The laws of every reckoning that joins the grains of the mark and the discounted rest, whatever joins them,
-- as long as it rises with the rest, commutes with products and adds no more than the rest grows.
use Rattle.std.specs.Prelude.{◌≡◌, ℕ, suc, ◌+◌, ◌-◌, ◌*◌, ◌/◌, ◌^◌, ◌<◌, ◌≤◌}
use Rattle.std.proofs.Common.{sym, ap, ◌∙◌, mul_assoc, mul-add, mul-le-mul_left, mul-le-mul_right, arith}
use Rattle.std.proofs.Math.Nat.{pow-succ'}
use Rattle.model.specs.Meaning.{highest_mark}
use Rattle.reckoning.specs.Grains.{whole, highest_ceiling, grains_of, rounded_up}
use Rattle.reckoning.specs.Meaning.{Laws}
use Rattle.reckoning.specs.Kinds.{joined_terms}
use Rattle.reckoning.specs.Roundings.{down_rises, up_rises, down_below, up_above, up_of_sum}

-- what is asked of the way that two terms are joined
pub record Joins (join : ℕ → ℕ → ℕ) : Type 0 where
  pub rises : (x a b : ℕ) → a ≤ b → join x a ≤ join x b
  pub scales : (x a k : ℕ) → join x a * k ≡ join (x * k) (a * k)
  pub grows_no_faster : (x a d : ℕ) → join x (a + d) ≤ join x a + d

-- one whole more under the power
one_whole_more : (q n : ℕ) → q * whole ^ suc n ≡ q * whole * whole ^ n
one_whole_more q n = ap (λ x. q * x) (pow-succ' whole n) ∙ sym (mul_assoc q whole (whole ^ n))

-- a discounted rest, rounded down and brought over whole ^ (n + 1), is at most the exact one
down_scaled : (g n a num : ℕ) → a * whole ^ n ≤ num → g * a / whole * whole ^ suc n ≤ g * num
down_scaled g n a num h = omega (arith, one_whole_more (g * a / whole) n, mul-le-mul_left g h, mul-le-mul_right (whole ^ n) (down_below (g * a)))

-- rounded up, it is at least the exact one
up_scaled : (g n a num : ℕ) → num ≤ a * whole ^ n → g * num ≤ rounded_up (g * a) whole * whole ^ suc n
up_scaled g n a num h = omega (arith, one_whole_more (rounded_up (g * a) whole) n, mul-le-mul_left g h, mul-le-mul_right (whole ^ n) (up_above (g * a)))

-- a greater rest, rounded up, is at most the smaller one rounded down and their difference rounded up, and one more
apart : (g a b : ℕ) → b ≤ a → rounded_up (g * a) whole ≤ g * b / whole + (rounded_up (g * (a - b)) whole + 1)
apart g a b h = grind (arith, mul-add g b (a - b), up_of_sum (g * b) (g * (a - b)))

-- Every such reckoning meets the law, if its ceiling is in range and stays under the high joining.
module _ (join : ℕ → ℕ → ℕ) (g ceiling : ℕ) (joins : Joins join) where
  pub joined_laws : 0 < g → g < whole → ceiling ≤ highest_ceiling →
      ((mark : ℕ) → mark ≤ highest_mark → join (grains_of mark) (rounded_up (g * ceiling) whole) ≤ ceiling) →
      Laws (joined_terms join g ceiling)
  joined_laws pos below range stays = record {
    discount_above_0 = pos;
    discount_below_whole = below;
    ceiling_in_range = range;
    low_counts = λ mark rest. grind arith;
    high_counts = λ mark rest. grind arith;
    low_rises = λ mark a b s c h. grind (arith, joins.rises, down_rises (g * a) (g * b));
    high_rises = λ mark a b s c h. grind (arith, joins.rises, up_rises (g * a) (g * b));
    low_below_exact = λ n mark a num s c _ h.
        let x = grains_of mark in
        let over = whole ^ suc n in
        grind (arith, joins.scales x (g * a / whole) over, joins.rises (x * over) (g * a / whole * over) (g * num), down_scaled g n a num);
    exact_below_high = λ n mark a num s c h.
        let x = grains_of mark in
        let over = whole ^ suc n in
        grind (arith, joins.scales x (rounded_up (g * a) whole) over, joins.rises (x * over) (g * num) (rounded_up (g * a) whole * over), up_scaled g n a num);
    ceiling_stays = λ mark s. grind (arith, stays mark);
    narrows = λ mark a b s c h.
        let x = grains_of mark in
        let d = rounded_up (g * (a - b)) whole + 1 in
        grind (arith, apart g a b, joins.rises x (rounded_up (g * a) whole) (g * b / whole + d), joins.grows_no_faster x (g * b / whole) d);
  }
