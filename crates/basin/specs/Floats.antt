-- Which doubles equal themselves, and what the comparisons say of not-a-number.
use Rattle.std.specs.Prelude.{◌≡◌, true, false, Float}
use Rattle.std.proofs.Common.{inl, inr}
use Rattle.std.specs.Float.Ieee.{eq, le, is_nan}
use Rattle.std.specs.Float.Ieee.Bits.{is_true}
use Rattle.std.proofs.lemmas.Bool.{not-true}
use Rattle.std.proofs.lemmas.Float.{T_from_true, T_from_false, le_refl, le_right, lt-or-eq, lt_irrefl}

-- every double but not-a-number is at most itself, and equals itself
pub le_itself : (x : Float) → is_nan x ≡ false → le x x ≡ true
le_itself x e = is_true _ (le_refl x (T_from_false _ e))

pub eq_itself : (x : Float) → is_nan x ≡ false → eq x x ≡ true
eq_itself x e = elim (lt-or-eq x x (le_refl x (T_from_false _ e))) [ inl l ↦ absurd (lt_irrefl x l) | inr same ↦ is_true _ same ]

-- what passes a comparison is a number
pub le_number : (x y : Float) → le x y ≡ true → is_nan y ≡ false
le_number x y e = not-true _ (is_true _ (le_right x y (T_from_true _ e)))
