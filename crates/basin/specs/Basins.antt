-- The laws of a basin: by its comparisons the next level and inflow are known, whatever the rounding.
use Rattle.std.specs.Prelude.{◌≡◌, ℕ, ◌<◌, ◌≤◌, true, length, Some, None, slice_index_or, refl, Float}
use Rattle.std.proofs.Common.{ap, ◌∙◌, arith}
use Rattle.std.specs.Float.{binary64}
use Rattle.std.specs.Float.Ieee.{fits, add, le, of_bits}
use Rattle.std.specs.Float.Ieee.Fits.{sub-fits, mul-fits}
use Rattle.std.specs.Float.Ieee.Bits.{of_bits-to_bits, of_bits-fits, is_true}
use Rattle.std.proofs.lemmas.Float.{T_from_true}
use Rattle.std.proofs.lemmas.List.{length-take-le, get_or-take}
use Rattle.std.proofs.lemmas.Bool.{cond-true, cond-false, lt-ltb, le-ltb}
use Rattle.model.specs.Meaning.{Laws}
use Rattle.basin.specs.Bits.{water_of, bits_of}
use Rattle.basin.specs.Making.{parameters}
use Rattle.basin.specs.Numbers.{zero, ten}
use Rattle.basin.specs.Ranges.{Parameters, within}
use Rattle.basin.specs.Stepping.{water, basin, setting_at, setting_numbered, next, outflow_of}
use Rattle.basin.specs.Floats.{le_itself, eq_itself, le_number}
use Rattle.basin.specs.declared.metres.Basin.{Basin}
use Rattle.basin.specs.declared.metres.Setting.TheVariants.{Rest}
use Rattle.basin.specs.declared.metres.Water.{Water}
use Rattle.basin.specs.declared.metres.WaterBits.{WaterBits}

-- 0 lies within any range from 0
zero_in : (high : Float) → le zero high ≡ true → within zero high zero ≡ true
unfolding le of_bits
zero_in high e = e

zero_in_inflows : within zero ten zero ≡ true
unfolding le of_bits
zero_in_inflows = refl

-- The next level passed the comparison with 0 and the depth, or is the depth, or 0; the next inflow
-- passed that with 0 and 10, or is 0. So the next state is known.
next_known : (p : Parameters) → le zero p.depth ≡ true → (w : Water) (k : ℕ) → (water p).known (next p w k) ≡ true
next_known p above w k = grind (arith, zero_in p.depth above, le_itself p.depth (le_number zero p.depth above), zero_in_inflows)

-- Both are doubles, so the bits of the next state are read as that state.
bits_and_back : (p : Parameters) → fits binary64 p.depth ≡ true → (w : Water) (k : ℕ) → water_of (bits_of (next p w k)) ≡ next p w k
bits_and_back p held w k =
    let raw = sub-fits binary64 (add binary64 w.level w.inflow) (outflow_of (setting_at p k).setting w.level) in
    let faded = mul-fits binary64 w.inflow p.fade in
    let none = of_bits-fits binary64 0 in
    let level : fits binary64 (next p w k).level ≡ true = grind (arith, is_true _ raw, is_true _ none) in
    let inflow : fits binary64 (next p w k).inflow ≡ true = grind (arith, is_true _ faded, is_true _ none) in
    rw (of_bits-to_bits binary64 (next p w k).level (T_from_true _ level), of_bits-to_bits binary64 (next p w k).inflow (T_from_true _ inflow)) refl

-- a known state has no not-a-number, so it is the same as itself
itself : (p : Parameters) (w : Water) → (water p).known w ≡ true → (water p).same w w ≡ true
itself p w e = grind (arith, le_number zero w.level, eq_itself w.level, le_number zero w.inflow, eq_itself w.inflow)

-- a basin has as many settings as it counts
pub settings_counted : (b : Basin) → length (parameters b).settings ≡ b.count
settings_counted b = length-take-le b.count b.settings (omega arith)

-- the setting with a number below the count is the one at that place, and there is none behind
pub numbered : (b : Basin) (k : ℕ) → k < b.count → setting_numbered (parameters b) k ≡ Some (slice_index_or b.settings k (record { setting = Rest; cost = 0 }))
numbered b k h = let counted = settings_counted b in cond-true _ _ _ (lt-ltb k _ (omega arith)) ∙ ap Some (get_or-take b.count b.settings k _ h)

pub none_numbered : (b : Basin) (k : ℕ) → b.count ≤ k → setting_numbered (parameters b) k ≡ None
none_numbered b k h = let counted = settings_counted b in cond-false _ _ _ (le-ltb k _ (omega arith))

-- what every model owes, of a basin
pub basin_laws : (b : Basin) → Laws WaterBits (basin (parameters b))
basin_laws b =
    let p = parameters b in
    let counted = settings_counted b in
    record {
      one_setting = omega arith;
      few_settings = omega arith;
      small_marks = λ s k _ _. grind arith;
      next_known = λ s k _ _. ap (water p).known (bits_and_back p b.depth_is_double (water_of s) k) ∙ next_known p b.depth_above_0 (water_of s) k;
      same_itself = λ s e. itself p (water_of s) e;
      few_layers = λ s k. omega arith;
    }
