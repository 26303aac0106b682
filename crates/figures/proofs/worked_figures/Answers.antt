use Rattle.std.proofs.Common.{◌≡◌, ℕ, suc, ◌+◌, ◌*◌, ◌^◌, sym, refl, ap, ◌∙◌, mul_assoc, mul_comm, rules, arith}
use native.Mathlib.Nat.{pow-succ'}
use lib.Ieee.{add, sub, mul, div, lt, le, of_bits, of_int}
use Rattle.std.specs.Float.{float_with_sign}
use Rattle.figures.specs.Figures.{BasinFigures, SumFigures, MomentFigures}
use Rattle.figures.proofs.worked_figures.Goals as goal

basin : BasinFigures
unfolding add sub mul div lt le of_bits of_int float_with_sign
basin = record { in_range = refl; rest_earns = refl; pump_earns = refl; gate_earns = refl }

-- the grains of a mark over one power more are the mark over two powers more
two_powers : (n mark : ℕ) → 1000 * mark * 1000 ^ suc n ≡ 1000 ^ (n + 2) * mark
two_powers n mark =
    let power = 1000 ^ suc n in
    let places : suc (suc n) ≡ n + 2 = omega arith in
    let one_more : 1000 * power ≡ 1000 ^ (n + 2) = sym (pow-succ' 1000 (suc n)) ∙ ap (λ k. 1000 ^ k) places in
    mul_assoc 1000 mark power ∙ ap (λ x. 1000 * x) (mul_comm mark power) ∙ sym (mul_assoc 1000 power mark) ∙ ap (λ x. x * mark) one_more

sum : SumFigures
sum = grind (arith, two_powers)

moment : MomentFigures
moment = grind (arith, two_powers)

pub returns : goal.returns
returns c = record {
  pond_figures = search rules;
  tariff_figures = search rules;
  basin_figures = basin;
  sum_figures = sum;
  moment_figures = moment;
  range_figures = search rules;
}
