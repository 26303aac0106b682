-- The doubles that the rules of a basin name, each by its bits.
use Rattle.std.specs.Prelude.{◌≡◌, pos, refl, Float}
use Rattle.std.specs.Float.{binary64}
use Rattle.std.specs.Float.Ieee.{of_bits, of_int}

abbrev pub zero : Float
zero = of_bits binary64 0

abbrev pub one : Float
one = of_bits binary64 0x3ff0_0000_0000_0000

abbrev pub two : Float
two = of_bits binary64 0x4000_0000_0000_0000

abbrev pub ten : Float
ten = of_bits binary64 0x4024_0000_0000_0000

abbrev pub hundred : Float
hundred = of_bits binary64 0x4059_0000_0000_0000

-- they are the whole numbers that their names say
pub named : (zero ≡ of_int binary64 (pos 0)) × (one ≡ of_int binary64 (pos 1)) × (two ≡ of_int binary64 (pos 2)) × (ten ≡ of_int binary64 (pos 10)) × (hundred ≡ of_int binary64 (pos 100))
unfolding of_bits of_int
named = (refl, refl, refl, refl, refl)
