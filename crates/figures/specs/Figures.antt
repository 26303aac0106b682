-- The worked figures, as facts about the definitions that the contracts of the calls cite.
use Rattle.std.specs.Prelude.{◌≡◌, ℕ, ◌+◌, ◌*◌, ◌/◌, ◌^◌, ◌≤◌, max, List, [], ◌∷◌, ◌++◌, replicate, pos, Some, None, Ok, Err, Float}
use Rattle.std.specs.Float.{binary64}
use Rattle.std.specs.Float.Ieee.{of_int, div}
use Rattle.model.specs.Faults.{refusal}
use Rattle.model.specs.Meaning.{Meaning, step}
use Rattle.model.specs.TariffMaking.{first_high_charge}
use Rattle.model.specs.Tariffs.{tariff}
use Rattle.table.specs.Reading.{File, read}
use Rattle.table.specs.Tables.{table}
use Rattle.basin.specs.Ranges.{Parameters}
use Rattle.basin.specs.Making.{made}
use Rattle.basin.specs.Stepping.{water}
use Rattle.basin.specs.declared.metres.Setting.TheVariants.{Rest, Pump, Gate}
use Rattle.basin.specs.declared.metres.Water.{Water}
use Rattle.reckoning.specs.Grains.{whole, highest_ceiling}
use Rattle.reckoning.specs.Kinds.{running_sum, best_moment}
use Rattle.reckoning.specs.Making.{made_with, discount_number}
use Rattle.reckoning.specs.declared.fault.BadDiscount.{BadDiscount}
use Rattle.reckoning.specs.Worths.{low_worth, high_worth, exact_worth, width}

-- the pond table: 2 states and 2 settings
abbrev pub pond_bytes : List ℕ
pond_bytes =
    0x00 ∷ 0x00 ∷ 0x00 ∷ 0x00 ∷ 0x00 ∷ 0x00 ∷ 0xC8 ∷ 0x00
    ∷ 0x00 ∷ 0x00 ∷ 0x01 ∷ 0x00 ∷ 0x01 ∷ 0x00 ∷ 0x00 ∷ 0x00
    ∷ 0x01 ∷ 0x00 ∷ 0x00 ∷ 0x00 ∷ 0x01 ∷ 0x00 ∷ 0xE8 ∷ 0x03
    ∷ 0x01 ∷ 0x00 ∷ 0x01 ∷ 0x00 ∷ 0x00 ∷ 0x00 ∷ 0x2C ∷ 0x01
    ∷ []

abbrev pub pond : File
pond = record { bytes = pond_bytes; states = 2; settings = 2 }

-- it is read with 2 states and 2 settings, and steps as it says
pub record PondFigures : Type 0 where
  pub reads : read pond_bytes ≡ Ok pond
  pub state_0_setting_0 : step (table pond) 0 0 ≡ Ok (200, 0)
  pub state_0_setting_1 : step (table pond) 0 1 ≡ Ok (0, 1)
  pub state_1_setting_0 : step (table pond) 1 0 ≡ Ok (1000, 1)
  pub state_1_setting_1 : step (table pond) 1 1 ≡ Ok (300, 0)
  pub state_2_unknown : step (table pond) 2 2 ≡ Err (refusal 1 0)
  pub setting_2_unknown : step (table pond) 1 2 ≡ Err (refusal 2 0)

-- charges of 150, but 400 at the hour 23
abbrev pub charges : List ℕ
charges = replicate 23 150 ++ (400 ∷ [])

-- a tariff over the pond, and one over that
abbrev pub pond_tariff : Meaning (ℕ × ℕ)
pond_tariff = tariff charges (table pond)

abbrev pub two_tariffs : Meaning (ℕ × (ℕ × ℕ))
two_tariffs = tariff charges pond_tariff

pub record TariffFigures : Type 0 where
  -- setting 0 is never charged, another setting is, not below 0; the hour moves on, 23 to 0
  pub setting_0_free : step pond_tariff (0, 0) 0 ≡ Ok (200, (1, 0))
  pub setting_1_charged : step pond_tariff (0, 1) 1 ≡ Ok (150, (1, 0))
  pub not_below_0 : step pond_tariff (23, 1) 1 ≡ Ok (0, (0, 0))
  pub setting_0_free_at_23 : step pond_tariff (23, 1) 0 ≡ Ok (1000, (0, 1))
  -- the hour is checked first; a refusal from below has a layer more
  pub hour_first : step pond_tariff (24, 7) 9 ≡ Err (refusal 1 0)
  pub state_below : step pond_tariff (23, 7) 9 ≡ Err (refusal 1 1)
  pub setting_below : step pond_tariff (23, 1) 2 ≡ Err (refusal 2 1)
  pub hour_below : step two_tariffs (0, (24, 7)) 9 ≡ Err (refusal 1 1)
  pub state_two_below : step two_tariffs (0, (0, 7)) 9 ≡ Err (refusal 1 2)
  -- both tariffs charge: 300 less 150 less 150
  pub charged_twice : step two_tariffs (0, (0, 1)) 1 ≡ Ok (0, (1, (1, 0)))
  -- 1,000 is in range, and the first charge above it is the one refused
  pub in_range : first_high_charge (replicate 24 1000) ≡ None
  pub first_high : first_high_charge (replicate 4 1000 ++ replicate 20 1001) ≡ Some 4

-- the double of n / d
abbrev double : ℕ → ℕ → Float
double n d = div binary64 (of_int binary64 (pos n)) (of_int binary64 (pos d))

-- depth 4, target 2, band 0.5, fade 0.5; rest at no cost, a pump of 1 at 300, a gate of 0.5 at 100
abbrev pub small_basin : Parameters
small_basin = record {
  depth = double 4 1;
  target = double 2 1;
  band = double 1 2;
  fade = double 1 2;
  settings =
      record { setting = Rest; cost = 0 }
      ∷ record { setting = Pump (double 1 1); cost = 300 }
      ∷ record { setting = Gate (double 1 2); cost = 100 }
      ∷ [];
}

-- level 2.25, inflow 0.5
abbrev pub high_water : Water
high_water = record { level = double 9 4; inflow = double 1 2 }

pub record BasinFigures : Type 0 where
  pub in_range : made small_basin ≡ Ok small_basin
  pub rest_earns : (water small_basin).mark high_water 0 ≡ 500
  pub pump_earns : (water small_basin).mark high_water 1 ≡ 700
  pub gate_earns : (water small_basin).mark high_water 2 ≡ 900

-- Reckonings. The definitions are written over named numbers; here they stand in the figures of the rules.
pub record SumFigures : Type 0 where
  -- 10^9 / (1000 − g) rounded up
  pub ceiling_1 : (running_sum 1).ceiling ≡ 1001002
  pub ceiling_333 : (running_sum 333).ceiling ≡ 1499251
  pub ceiling_999 : (running_sum 999).ceiling ≡ 1000000000
  -- the marks 1, 1, 1: exact over 10^9
  pub low_ones : low_worth (running_sum 333) (1 ∷ 1 ∷ 1 ∷ []) ≡ 1443
  pub exact_ones : exact_worth (running_sum 333) (1 ∷ 1 ∷ 1 ∷ []) ≡ 1443889000000
  pub ones_over : whole ^ 3 ≡ 1000000000
  -- the first mark counts in full, a later one less: 1,000 + 333 × 2,000 / 1000, against 2,000 + 333
  pub first_in_full : low_worth (running_sum 333) (1 ∷ 2 ∷ []) ≡ 1666
  pub later_less : low_worth (running_sum 333) (2 ∷ 1 ∷ []) ≡ 2333
  -- the high worth begins with the ceiling and rounds up: 333 × 1,499,251 / 1000 is 499,250.583
  pub high_none : high_worth (running_sum 333) [] ≡ 1499251
  pub high_one : high_worth (running_sum 333) (1 ∷ []) ≡ 500251
  -- a mark above 1,000 counts as 1,000, a rest above the ceiling as the ceiling: 1,000,000 and 1,001.002
  pub low_above : (running_sum 1).low 65535 18446744073709551615 ≡ 1001001
  pub high_above : (running_sum 1).high 65535 18446744073709551615 ≡ 1001002
  pub width_2 : width (running_sum 500) 2 ≡ 500002
  -- the joinings, for marks up to 1,000 and rests up to the ceiling
  pub low_joining : (g mark rest : ℕ) → mark ≤ 1000 → rest ≤ (running_sum g).ceiling → (running_sum g).low mark rest ≡ 1000 * mark + g * rest / 1000
  pub high_joining : (g mark rest : ℕ) → mark ≤ 1000 → rest ≤ (running_sum g).ceiling → (running_sum g).high mark rest ≡ 1000 * mark + (g * rest + 999) / 1000
  pub exact_joining : (g n mark num : ℕ) → (running_sum g).exact n mark num ≡ 1000 ^ (n + 2) * mark + g * num

pub record MomentFigures : Type 0 where
  pub ceiling_any : (g : ℕ) → (best_moment g).ceiling ≡ 1000000
  -- 500 now, or 900 at the next step, which counts for 450 at g 500 and for 810 at g 900
  pub low_now : low_worth (best_moment 500) (500 ∷ 900 ∷ []) ≡ 500000
  pub low_later : low_worth (best_moment 900) (500 ∷ 900 ∷ []) ≡ 810000
  pub exact_later : exact_worth (best_moment 900) (500 ∷ 900 ∷ []) ≡ 810000000000
  -- after a mark of 0, what could follow: 333 × 1,000,000 / 1000, then 333 × 333,000 / 1000
  pub high_after : high_worth (best_moment 333) (0 ∷ 0 ∷ []) ≡ 110889
  -- 333 × 110,889 / 1000 is 36,926.037
  pub high_rounded : high_worth (best_moment 333) (0 ∷ 0 ∷ 0 ∷ []) ≡ 36927
  -- the same limits: 999 × 1,000,000 / 1000, and the grains of 1,000
  pub low_above : (best_moment 999).low 0 18446744073709551615 ≡ 999000
  pub high_above : (best_moment 999).high 65535 18446744073709551615 ≡ 1000000
  pub width_2 : width (best_moment 500) 2 ≡ 250002
  pub low_joining : (g mark rest : ℕ) → mark ≤ 1000 → rest ≤ 1000000 → (best_moment g).low mark rest ≡ max (1000 * mark) (g * rest / 1000)
  pub high_joining : (g mark rest : ℕ) → mark ≤ 1000 → rest ≤ 1000000 → (best_moment g).high mark rest ≡ max (1000 * mark) ((g * rest + 999) / 1000)
  pub exact_joining : (g n mark num : ℕ) → (best_moment g).exact n mark num ≡ max (1000 ^ (n + 2) * mark) (g * num)

-- discounts are in range from 1 to 999, ceilings up to 10^12
pub record RangeFigures : Type 0 where
  pub discount_0 : made_with 0 ≡ Err (record { discount = 0 })
  pub discount_1 : made_with 1 ≡ Ok 1
  pub discount_999 : made_with 999 ≡ Ok 999
  pub discount_1000 : made_with 1000 ≡ Err (record { discount = 1000 })
  pub refused_by_10 : (f : BadDiscount) → discount_number f ≡ 10
  pub ceilings : highest_ceiling ≡ 10 ^ 12

-- all worked figures
pub record Figures : Type 0 where
  pub pond_figures : PondFigures
  pub tariff_figures : TariffFigures
  pub basin_figures : BasinFigures
  pub sum_figures : SumFigures
  pub moment_figures : MomentFigures
  pub range_figures : RangeFigures
