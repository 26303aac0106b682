-- What a basin does with a level and an inflow. All arithmetic is that of doubles, each operation rounded.
use Rattle.std.specs.Prelude.{ℕ, ◌-◌, false, cond, ◌&&◌, length, Some, None, Option, nat_lt, slice_index_or, Float}
use Rattle.std.specs.Float.Ieee.{add, sub, mul, lt, le, eq}
use Rattle.std.specs.Float.{float_with_sign, binary64}
use Rattle.model.specs.Meaning.{Meaning}
use Rattle.basin.specs.Bits.{water_of, bits_of}
use Rattle.basin.specs.Numbers.{zero, two, ten}
use Rattle.basin.specs.Ranges.{Parameters, within}
use Rattle.basin.specs.declared.metres.CostedSetting.{CostedSetting}
use Rattle.basin.specs.declared.metres.Setting.{Setting}
use Rattle.basin.specs.declared.metres.Setting.TheVariants.{Rest, Pump, Gate}
use Rattle.basin.specs.declared.metres.Water.{Water}
use Rattle.basin.specs.declared.metres.WaterBits.{WaterBits}

-- what flows out at a level
abbrev pub outflow_of : Setting → Float → Float
outflow_of Rest level = zero
outflow_of (Pump drop) level = drop
outflow_of (Gate share) level = mul binary64 share level

-- (level + inflow) − outflow, in that order
abbrev pub raw_level : Setting → Water → Float
raw_level s w = sub binary64 (add binary64 w.level w.inflow) (outflow_of s w.level)

-- the raw level if it is within 0 to the depth, the depth if it is above that, else 0
abbrev pub next_level : Float → Float → Float
next_level depth raw = cond (within zero depth raw) raw (cond (lt depth raw) depth zero)

-- inflow × fade if it is within 0 to 10, else 0
abbrev pub next_inflow : Float → Float → Float
next_inflow fade inflow = let faded = mul binary64 inflow fade in cond (within zero ten faded) faded zero

-- 1,000 if the level is at most a band off the target, 500 if at most two, else 0
abbrev pub grade : Float → Float → Float → ℕ
grade target band level =
    let off = float_with_sign false (sub binary64 level target) in
    cond (le off band) 1000 (cond (le off (mul binary64 two band)) 500 0)

-- the setting with the number k, with its cost
abbrev pub setting_at : Parameters → ℕ → CostedSetting
setting_at p k = slice_index_or p.settings k (record { setting = Rest; cost = 0 })

-- the same, if there is one: k is below K
abbrev pub setting_numbered : Parameters → ℕ → Option CostedSetting
setting_numbered p k = cond (nat_lt k (length p.settings)) (Some (setting_at p k)) None

-- the state after a step under the setting k
abbrev pub next : Parameters → Water → ℕ → Water
next p w k = record {
  level = next_level p.depth (raw_level (setting_at p k).setting w);
  inflow = next_inflow p.fade w.inflow;
}

-- the mark of that step: what its next level earns less the cost, not below 0
abbrev pub mark : Parameters → Water → ℕ → ℕ
mark p w k = grade p.target p.band (next p w k).level - (setting_at p k).cost

-- the basin on the doubles themselves
abbrev pub water : Parameters → Meaning Water
water p = record {
  settings = length p.settings;
  known = λ w. within zero p.depth w.level && within zero ten w.inflow;
  same = λ present measured. eq present.level measured.level && eq present.inflow measured.inflow;
  mark = mark p;
  next = next p;
  layers = λ w k. 0;
}

-- the basin on the bits of its doubles
abbrev pub basin : Parameters → Meaning WaterBits
basin p = record {
  settings = (water p).settings;
  known = λ s. (water p).known (water_of s);
  same = λ present measured. (water p).same (water_of present) (water_of measured);
  mark = λ s k. (water p).mark (water_of s) k;
  next = λ s k. bits_of ((water p).next (water_of s) k);
  layers = λ s k. (water p).layers (water_of s) k;
}
