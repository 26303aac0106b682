-- What a reckoning means: how the worth of a list of marks is made, mark by mark, from the last to the first.
use Rattle.std.specs.Prelude.{◌≡◌, ℕ, suc, ◌+◌, ◌-◌, ◌*◌, ◌^◌, ◌<◌, ◌≤◌, min}
use Rattle.model.specs.Meaning.{highest_mark}
use Rattle.reckoning.specs.Grains.{whole, highest_ceiling, counted, rounded_up}

-- A reckoning of worth (in the field's terms: a discounted return, with a lower and an upper bound in whole grains).
pub record Meaning : Type 0 where
  -- the discount g, in thousandths: what a later step counts for, against the step before it
  pub discount : ℕ
  -- the most that any list of marks is worth, in grains
  pub ceiling : ℕ
  -- the low joining (lower bound): grains from a mark and the grains of the rest
  pub low : ℕ → ℕ → ℕ
  -- the high joining (upper bound): grains from a mark and the grains of the rest
  pub high : ℕ → ℕ → ℕ
  -- the exact joining: from n, a mark and the rest's numerator over whole ^ n, a numerator over whole ^ (n + 1), in grains
  pub exact : ℕ → ℕ → ℕ → ℕ

-- What every reckoning owes. The five laws are asked for marks up to the highest and for rests up to the ceiling:
-- grains a ≤ ceiling, and numerators num ≤ ceiling × whole ^ n (which in law 3 follows from the bound on a).
pub record Laws (r : Meaning) : Type 0 where
  pub discount_above_0 : 0 < r.discount
  pub discount_below_whole : r.discount < whole
  pub ceiling_in_range : r.ceiling ≤ highest_ceiling
  -- a mark above the highest counts as the highest, a rest above the ceiling as the ceiling
  pub low_counts : (mark rest : ℕ) → r.low mark rest ≡ r.low (counted mark) (min rest r.ceiling)
  pub high_counts : (mark rest : ℕ) → r.high mark rest ≡ r.high (counted mark) (min rest r.ceiling)
  -- 1: a greater rest never gives a smaller joining
  pub low_rises : (mark a b : ℕ) → mark ≤ highest_mark → b ≤ r.ceiling → a ≤ b → r.low mark a ≤ r.low mark b
  pub high_rises : (mark a b : ℕ) → mark ≤ highest_mark → b ≤ r.ceiling → a ≤ b → r.high mark a ≤ r.high mark b
  -- 2: the low joining of what is at most the rest is at most the exact joining
  pub low_below_exact : (n mark a num : ℕ) → mark ≤ highest_mark → a ≤ r.ceiling → num ≤ r.ceiling * whole ^ n →
      a * whole ^ n ≤ num → r.low mark a * whole ^ suc n ≤ r.exact n mark num
  -- 3: the exact joining is at most the high joining of what is at least the rest
  pub exact_below_high : (n mark a num : ℕ) → mark ≤ highest_mark → a ≤ r.ceiling →
      num ≤ a * whole ^ n → r.exact n mark num ≤ r.high mark a * whole ^ suc n
  -- 4: the high joining of the ceiling is at most the ceiling
  pub ceiling_stays : (mark : ℕ) → mark ≤ highest_mark → r.high mark r.ceiling ≤ r.ceiling
  -- 5: what two rests differ by is narrowed by the discount, and rounding adds at most 1
  pub narrows : (mark a b : ℕ) → mark ≤ highest_mark → a ≤ r.ceiling → b ≤ a →
      r.high mark a - r.low mark b ≤ rounded_up (r.discount * (a - b)) whole + 1
