-- The first of a list of tests that fails.
use Rattle.std.specs.Prelude.{ℕ, ◌+◌, Bool, cond, List, [], ◌∷◌, Some, None, Option}

-- its number, where the first test of the list has the number n
abbrev pub first_false : ℕ → List Bool → Option ℕ
first_false n [] = None
first_false n (b ∷ bs) = cond b (first_false (n + 1) bs) (Some n)
