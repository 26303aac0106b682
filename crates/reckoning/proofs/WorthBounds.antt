-- What the laws of a reckoning give of whole lists of marks.
use Rattle.std.proofs.Common.{ℕ, zero, suc, ◌-◌, ◌*◌, ◌^◌, ◌≤◌, min, List, [], ◌∷◌, ◌++◌, length, subst, le_trans, le_refl, mul-le-mul_right, mul-le-mul_left, arith}
use Rattle.model.specs.Meaning.{highest_mark}
use Rattle.reckoning.specs.Grains.{whole, highest_ceiling, counted}
use Rattle.reckoning.specs.Meaning.{Meaning, Laws}
use Rattle.reckoning.specs.Worths.{low_worth, high_worth, exact_worth, width, AreMarks, LowAtMostExact, ExactAtMostHigh, ContinuedAtMostHigh, ExactAtMostCeiling, WorthsWithinWidth}
use Rattle.reckoning.specs.Roundings.{up_rises}
use Rattle.reckoning.proofs.Backwards.{low_worth_as_fold, high_worth_as_fold}

-- the marks at the front of a list of marks are marks
pub front_marks : (marks more : List ℕ) → AreMarks (marks ++ more) → AreMarks marks
front_marks [] more s = tt
front_marks (mark ∷ marks) more s = (s.0, front_marks marks more s.1)

module _ (r : Meaning) (laws : Laws r) where
  -- one joining: low is at most high
  pub low_joined_below_high : (mark a : ℕ) → mark ≤ highest_mark → a ≤ r.ceiling → r.low mark a ≤ r.high mark a
  low_joined_below_high mark a s c = grind (arith, laws.low_below_exact 0 mark a a, laws.exact_below_high 0 mark a a)

  -- no joining is above the ceiling, whatever the mark and the rest
  pub high_within_ceiling : (mark rest : ℕ) → r.high mark rest ≤ r.ceiling
  high_within_ceiling mark rest = grind (arith, laws.high_counts mark rest, laws.high_rises (counted mark) (min rest r.ceiling) r.ceiling, laws.ceiling_stays (counted mark))

  pub low_within_ceiling : (mark rest : ℕ) → r.low mark rest ≤ r.ceiling
  low_within_ceiling mark rest =
      grind (arith, laws.low_counts mark rest, low_joined_below_high (counted mark) (min rest r.ceiling), high_within_ceiling (counted mark) (min rest r.ceiling))

  -- whole lists: both worths are up to the ceiling
  pub high_below_ceiling : (marks : List ℕ) → AreMarks marks → high_worth r marks ≤ r.ceiling
  high_below_ceiling [] s = le_refl r.ceiling
  high_below_ceiling (mark ∷ rest) s = high_within_ceiling mark (high_worth r rest)

  pub low_below_ceiling : (marks : List ℕ) → AreMarks marks → low_worth r marks ≤ r.ceiling
  low_below_ceiling [] s = omega arith
  low_below_ceiling (mark ∷ rest) s = low_within_ceiling mark (low_worth r rest)

  pub low_below_high : (marks : List ℕ) → AreMarks marks → low_worth r marks ≤ high_worth r marks
  low_below_high [] s = omega arith
  low_below_high (mark ∷ rest) s =
      let c = high_below_ceiling rest s.1 in
      le_trans (laws.low_rises mark (low_worth r rest) (high_worth r rest) s.0 c (low_below_high rest s.1)) (low_joined_below_high mark (high_worth r rest) s.0 c)

  -- the exact worth lies between the low and the high worth, and under the ceiling
  pub exact_at_most_high : (marks : List ℕ) → ExactAtMostHigh r marks
  exact_at_most_high [] s = omega arith
  exact_at_most_high (mark ∷ rest) s =
      laws.exact_below_high (length rest) mark (high_worth r rest) (exact_worth r rest) s.0 (high_below_ceiling rest s.1) (exact_at_most_high rest s.1)

  pub exact_at_most_ceiling : (marks : List ℕ) → ExactAtMostCeiling r marks
  exact_at_most_ceiling marks s = le_trans (exact_at_most_high marks s) (mul-le-mul_right (whole ^ length marks) (high_below_ceiling marks s))

  pub continued_at_most_high : (marks : List ℕ) → ContinuedAtMostHigh r marks
  continued_at_most_high [] more s = exact_at_most_ceiling more s
  continued_at_most_high (mark ∷ rest) more s =
      laws.exact_below_high (length (rest ++ more)) mark (high_worth r rest) (exact_worth r (rest ++ more)) s.0 (high_below_ceiling rest (front_marks rest more s.1)) (continued_at_most_high rest more s.1)

  pub low_at_most_exact : (marks : List ℕ) → LowAtMostExact r marks
  low_at_most_exact [] s = omega arith
  low_at_most_exact (mark ∷ rest) s =
      laws.low_below_exact (length rest) mark (low_worth r rest) (exact_worth r rest) s.0 (low_below_ceiling rest s.1) (exact_at_most_ceiling rest s.1) (low_at_most_exact rest s.1)

  -- one mark more narrows what the worths differ by as the width is narrowed
  within_width : (marks : List ℕ) → AreMarks marks → high_worth r marks - low_worth r marks ≤ width r (length marks)
  within_width [] s = omega arith
  within_width (mark ∷ rest) s =
      let high = high_worth r rest in
      let low = low_worth r rest in
      let narrowed = laws.narrows mark high low s.0 (high_below_ceiling rest s.1) (low_below_high rest s.1) in
      let wider = up_rises (r.discount * (high - low)) (r.discount * width r (length rest)) (mul-le-mul_left r.discount (within_width rest s.1)) in
      omega (arith, narrowed, wider)

  pub worths_within_width : (depth : ℕ) → WorthsWithinWidth r depth
  worths_within_width depth marks s long = subst (λ n. high_worth r marks - low_worth r marks ≤ width r n) long (within_width marks s)

  -- a width passes no ceiling's range
  pub width_in_range : (depth : ℕ) → width r depth ≤ highest_ceiling
  width_in_range zero = laws.ceiling_in_range
  width_in_range (suc depth) =
      let ih = width_in_range depth in
      let less = mul-le-mul_right (width r depth) laws.discount_below_whole in
      omega (arith, ih, less)

-- what the two worths and the width are, and all that is said of them
pub ruleset worth_bounds = (low_worth_as_fold, high_worth_as_fold, exact_at_most_high, continued_at_most_high, exact_at_most_ceiling, low_at_most_exact, width_in_range, worths_within_width)
