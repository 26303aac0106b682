-- A level and an inflow, and their bits.
use Rattle.std.specs.Prelude.{from_bits, to_bits}
use Rattle.std.specs.Float.{binary64}
use Rattle.basin.specs.declared.metres.Water.{Water}
use Rattle.basin.specs.declared.metres.WaterBits.{WaterBits}

-- the doubles that have these bits
abbrev pub water_of : WaterBits → Water
water_of s = record { level = from_bits binary64 s.level; inflow = from_bits binary64 s.inflow }

-- the bits of these doubles; every not-a-number has the same
abbrev pub bits_of : Water → WaterBits
bits_of w = record { level = to_bits binary64 w.level; inflow = to_bits binary64 w.inflow }
