-- What a discount is counted in.
use Rattle.std.specs.Prelude.{ℕ}
use Rattle.reckoning.specs.declared.discounts.Discount.{Discount}

-- the thousandths of a discount
abbrev pub thousandths_of : Discount → ℕ
thousandths_of d = d.thousandths
