use Rattle.std.proofs.Common.{◌≡◌, ℕ, ◌+◌, ◌-◌, List, take, ap, ◌∙◌, arith}
use Rattle.table.specs.Listing.{most_bytes}
use Rattle.table.proofs.listing.looked_at.Goals as goal

-- The first n are the first m, where n is m. What is said of the lengths a and b tells n.
-- Written out, since the search alone would refuse another cut only by a limit and not by its number.
taken : (n m a b : ℕ) (xs ys : List ℕ) → a + (b - n) ≡ b → ys ≡ take n xs → n ≡ m → ys ≡ take m xs
taken n m a b xs ys l e h = e ∙ ap (λ (k : ℕ). take k xs) h

pub returns : goal.returns
returns c = taken _ (most_bytes + 1) _ _ _ _ c.truncate.ensures.len c.truncate.ensures.items (omega arith)
