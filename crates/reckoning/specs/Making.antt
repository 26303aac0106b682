-- Making a discount, and a reckoning with it.
use Rattle.std.specs.Prelude.{ℕ, Bool, cond, ◌&&◌, Ok, Err, Result, nat_lt}
use Rattle.reckoning.specs.Grains.{whole}
use Rattle.reckoning.specs.declared.fault.BadDiscount.{BadDiscount}
use Rattle.reckoning.specs.Discounts.{thousandths_of}
use Rattle.reckoning.specs.declared.discounts.Discount.{Discount}
use Rattle.reckoning.specs.declared.kinds.Discounted.{Discounted}

-- the refusal's number, and what is returned with it
abbrev pub discount_number : BadDiscount → ℕ
discount_number f = 10

abbrev pub refused_discount : BadDiscount → ℕ
refused_discount f = f.discount

-- a discount is in range from 1 to 999
abbrev pub discount_in_range : ℕ → Bool
discount_in_range g = nat_lt 0 g && nat_lt g whole

-- the discount, or its refusal
abbrev pub made_with : ℕ → Result ℕ BadDiscount
made_with g = cond (discount_in_range g) (Ok g) (Err (record { discount = g }))

-- the thousandths of the discount that was made
abbrev pub thousandths_made : Result Discount BadDiscount → Result ℕ BadDiscount
thousandths_made (Ok d) = Ok (thousandths_of d)
thousandths_made (Err f) = Err f

-- the discount of a reckoning, in thousandths; with its kind it says all that the reckoning means
abbrev pub discount_of : {K : _} {kind : _} → Discounted K kind → ℕ
discount_of r = thousandths_of r.discount

-- the discount that a reckoning was made with
abbrev pub discount_made : {K : _} {kind : _} → Result (Discounted K kind) BadDiscount → Result ℕ BadDiscount
discount_made (Ok r) = Ok (discount_of r)
discount_made (Err f) = Err f
