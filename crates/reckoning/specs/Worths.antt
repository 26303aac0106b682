-- The worths of a list of marks, joined from the last mark to the first, and the width at a depth.
use Rattle.std.specs.Prelude.{◌≡◌, ℕ, zero, suc, ◌+◌, ◌-◌, ◌*◌, ◌^◌, ◌≤◌, List, [], ◌∷◌, ◌++◌, length}
use Rattle.std.specs.List.{AllByRecursion}
use Rattle.model.specs.Meaning.{highest_mark}
use Rattle.reckoning.specs.Grains.{whole, rounded_up}
use Rattle.reckoning.specs.Meaning.{Meaning}

-- the marks joined from the last to the first, beginning with `start` behind the last
abbrev pub joined_from : (ℕ → ℕ → ℕ) → ℕ → List ℕ → ℕ
joined_from join start [] = start
joined_from join start (mark ∷ rest) = join mark (joined_from join start rest)

-- in whole grains, from below: what the marks are worth at least (in the field's terms: a lower bound)
abbrev pub low_worth : Meaning → List ℕ → ℕ
low_worth r marks = joined_from r.low 0 marks

-- in whole grains, from above: what the marks and all that could follow are worth at most (an upper bound)
abbrev pub high_worth : Meaning → List ℕ → ℕ
high_worth r marks = joined_from r.high r.ceiling marks

-- without rounding: a numerator over whole ^ length, in grains
abbrev pub exact_worth : Meaning → List ℕ → ℕ
exact_worth r [] = 0
exact_worth r (mark ∷ rest) = r.exact (length rest) mark (exact_worth r rest)

-- the width one deeper, under a discount
abbrev pub one_deeper : ℕ → ℕ → ℕ
one_deeper g width = rounded_up (g * width) whole + 1

-- the width at a depth: the most by which the high and the low worth of so many marks can differ
abbrev pub width : Meaning → ℕ → ℕ
width r zero = r.ceiling
width r (suc depth) = one_deeper r.discount (width r depth)

-- marks as models give them
abbrev pub AreMarks : List ℕ → Type 0
AreMarks marks = AllByRecursion (λ mark. mark ≤ highest_mark) marks

-- The low worth is at most the exact worth, the exact worth at most the high worth.
abbrev pub LowAtMostExact : Meaning → List ℕ → Type 0
LowAtMostExact r marks = AreMarks marks → low_worth r marks * whole ^ length marks ≤ exact_worth r marks

abbrev pub ExactAtMostHigh : Meaning → List ℕ → Type 0
ExactAtMostHigh r marks = AreMarks marks → exact_worth r marks ≤ high_worth r marks * whole ^ length marks

-- The high worth of marks is also at least the exact worth of whatever begins with them.
abbrev pub ContinuedAtMostHigh : Meaning → List ℕ → Type 0
ContinuedAtMostHigh r marks =
    (more : List ℕ) → AreMarks (marks ++ more) → exact_worth r (marks ++ more) ≤ high_worth r marks * whole ^ length (marks ++ more)

-- No marks are worth more than the ceiling.
abbrev pub ExactAtMostCeiling : Meaning → List ℕ → Type 0
ExactAtMostCeiling r marks = AreMarks marks → exact_worth r marks ≤ r.ceiling * whole ^ length marks

-- The high and the low worth of n marks differ by at most the width at n.
abbrev pub WorthsWithinWidth : Meaning → ℕ → Type 0
WorthsWithinWidth r depth = (marks : List ℕ) → AreMarks marks → length marks ≡ depth → high_worth r marks - low_worth r marks ≤ width r depth
