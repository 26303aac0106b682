-- Where a record stands in its table.
use Rattle.std.proofs.Common.{◌≡◌, ℕ, ◌+◌, ◌*◌, ◌<◌, ◌≤◌, ltb, arith}
use Rattle.std.proofs.lemmas.Bool.Decides.{nat_tests}
use Rattle.std.proofs.Math.Nat.{mul-le-mul_right}
use Rattle.table.specs.Lawful.{within}

-- the place of a state and a setting below K lies in the table if and only if the state is below N
pub in_table : (n w s k : ℕ) → k < w → ltb (s * w + k) (n * w) ≡ ltb s n
in_table n w s k h =
    let inside = within n w s k in
    let outside : n ≤ s → n * w ≤ s * w = λ l. mul-le-mul_right w l in
    grind (arith, nat_tests)
