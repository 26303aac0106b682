-- The parameters of a basin, and when each is in range.
use Rattle.std.specs.Prelude.{◌≡◌, ℕ, ◌-◌, Bool, true, ◌&&◌, List, [], ◌∷◌, ◌++◌, map, length, nat_le, slice_index_or, Float}
use Rattle.std.specs.Float.Ieee.{lt, le}
use Rattle.basin.specs.Numbers.{zero, one, ten, hundred}
use Rattle.basin.specs.declared.metres.CostedSetting.{CostedSetting}
use Rattle.basin.specs.declared.metres.Measures.{Measures}
use Rattle.basin.specs.declared.metres.Setting.{Setting}
use Rattle.basin.specs.declared.metres.Setting.TheVariants.{Rest, Pump, Gate}

-- from low to high; not-a-number lies nowhere
abbrev pub within : Float → Float → Float → Bool
within low high x = le low x && le x high

-- above low, to high
abbrev pub above_to : Float → Float → Float → Bool
above_to low high x = lt low x && le x high

-- The parameters of a basin, in their order.
pub record Parameters : Type 0 where
  -- metres
  pub depth : Float
  -- the level to be kept, metres
  pub target : Float
  -- how far from the target the level may be for the full mark, metres
  pub band : Float
  -- the part of the inflow that is left after a step
  pub fade : Float
  -- what the basin can be set to, each with its cost
  pub settings : List CostedSetting

-- the drop of a pump is 0 to 10, the share of a gate 0 to 1
abbrev pub strength_in_range : Setting → Bool
strength_in_range Rest = true
strength_in_range (Pump drop) = within zero ten drop
strength_in_range (Gate share) = within zero one share

-- a setting is in range with its cost, which is 0 to 500
abbrev pub setting_in_range : CostedSetting → Bool
setting_in_range c = strength_in_range c.setting && nat_le c.cost 500

-- depth is above 0, to 100
abbrev pub depth_in_range : Float → Bool
depth_in_range depth = above_to zero hundred depth

-- target is 0 to depth
abbrev pub target_in_range : Float → Float → Bool
target_in_range depth target = within zero depth target

-- band is above 0, to depth
abbrev pub band_in_range : Float → Float → Bool
band_in_range depth band = above_to zero depth band

-- fade is 0 to 1
abbrev pub fade_in_range : Float → Bool
fade_in_range fade = within zero one fade

-- K is 1 to 8
abbrev pub count_in_range : ℕ → Bool
count_in_range count = nat_le 1 count && nat_le count 8

-- of each measure in order, whether it is in range
abbrev pub measure_ranges : Measures → List Bool
measure_ranges m = depth_in_range m.depth ∷ target_in_range m.depth m.target ∷ band_in_range m.depth m.band ∷ fade_in_range m.fade ∷ []

-- whether K is in range, and then of each setting in order, whether it is
abbrev pub settings_ranges : List CostedSetting → List Bool
settings_ranges settings = count_in_range (length settings) ∷ map setting_in_range settings

-- the first four parameters
abbrev pub measures_of : Parameters → Measures
measures_of p = record { depth = p.depth; target = p.target; band = p.band; fade = p.fade }

-- of each parameter in order, whether it is in range; the first has the number 1
abbrev pub ranges : Parameters → List Bool
ranges p = measure_ranges (measures_of p) ++ settings_ranges p.settings

-- the parameter with the number i is in range (1 depth, 2 target, 3 band, 4 fade, 5 K, 6 the first setting)
abbrev pub ParameterInRange : Parameters → ℕ → Type 0
ParameterInRange p i = slice_index_or (ranges p) (i - 1) true ≡ true
