-- What worth is counted in, and how it is rounded.
use Rattle.std.specs.Prelude.{ℕ, ◌+◌, ◌*◌, ◌/◌, ◌%◌, min}
use Rattle.model.specs.Meaning.{highest_mark}

-- A point is one unit of mark. Worth is counted in grains, and so many make a point.
abbrev pub grains_in_point : ℕ
grains_in_point = 1000

-- A discount is in thousandths: so many make a whole.
abbrev pub whole : ℕ
whole = 1000

-- no ceiling has more grains
abbrev pub highest_ceiling : ℕ
highest_ceiling = 1000000000000

-- the mark that a joining counts: one above the highest mark counts as the highest
abbrev pub counted : ℕ → ℕ
counted mark = min mark highest_mark

-- the grains of a mark
abbrev pub grains_of : ℕ → ℕ
grains_of mark = grains_in_point * mark

-- a / b rounded up: one more than the whole quotient where there is a remainder
abbrev pub rounded_up : ℕ → ℕ → ℕ
rounded_up a b = a / b + min 1 (a % b)
