-- Worths of longer lists, from the laws of a reckoning.
use Rattle.std.proofs.Common.{ℕ, ◌*◌, ◌^◌, ◌≤◌, List, [], ◌∷◌, ◌++◌, length, arith}
use Rattle.std.proofs.ByRecursion.{All-append}
use Rattle.model.specs.Meaning.{highest_mark}
use Rattle.reckoning.specs.Grains.{whole}
use Rattle.reckoning.specs.Meaning.{Meaning as Reckoning, Laws}
use Rattle.reckoning.specs.Worths.{low_worth, high_worth, exact_worth, AreMarks}
use Rattle.reckoning.proofs.WorthBounds.{front_marks, high_below_ceiling, low_below_ceiling}

pub both_marks : (marks more : List ℕ) → AreMarks marks → AreMarks more → AreMarks (marks ++ more)
both_marks marks more s t = All-append (λ mark. mark ≤ highest_mark) marks more s t

module _ (r : Reckoning) (laws : Laws r) where
  -- a longer list has no greater high worth and no smaller low worth
  pub high_falls : (marks more : List ℕ) → AreMarks (marks ++ more) → high_worth r (marks ++ more) ≤ high_worth r marks
  high_falls [] more s = high_below_ceiling r laws more s
  high_falls (mark ∷ rest) more s =
      laws.high_rises mark (high_worth r (rest ++ more)) (high_worth r rest) s.0 (high_below_ceiling r laws rest (front_marks rest more s.1)) (high_falls rest more s.1)

  pub low_rises : (marks more : List ℕ) → AreMarks (marks ++ more) → low_worth r marks ≤ low_worth r (marks ++ more)
  low_rises [] more s = omega arith
  low_rises (mark ∷ rest) more s =
      laws.low_rises mark (low_worth r rest) (low_worth r (rest ++ more)) s.0 (low_below_ceiling r laws (rest ++ more) s.1) (low_rises rest more s.1)

  -- the high worth of a list is at least the exact worth of its front
  pub front_at_most_high : (marks more : List ℕ) → AreMarks (marks ++ more) → exact_worth r marks ≤ high_worth r (marks ++ more) * whole ^ length marks
  front_at_most_high [] more s = omega arith
  front_at_most_high (mark ∷ rest) more s =
      laws.exact_below_high (length rest) mark (high_worth r (rest ++ more)) (exact_worth r rest) s.0 (high_below_ceiling r laws (rest ++ more) s.1) (front_at_most_high rest more s.1)

  -- a tail of no smaller low worth makes a list of no smaller low worth
  pub low_by_tail : (front old new : List ℕ) → AreMarks front → AreMarks new → low_worth r old ≤ low_worth r new → low_worth r (front ++ old) ≤ low_worth r (front ++ new)
  low_by_tail [] old new s t h = h
  low_by_tail (mark ∷ front) old new s t h =
      laws.low_rises mark (low_worth r (front ++ old)) (low_worth r (front ++ new)) s.0 (low_below_ceiling r laws (front ++ new) (both_marks front new s.1 t)) (low_by_tail front old new s.1 t h)
