use Rattle.std.proofs.Common.{Err, sym, ap, ◌∙◌}
use Rattle.std.proofs.lemmas.Result.{err_from_is_err_and}
use Rattle.model.specs.TariffMaking.{first_high_charge, parts}
use Rattle.model.proofs.Charges.{all_in_range, makes, none_refused, refused_alike}
use Rattle.model.proofs.tariff.Tariff.new.Goals as goal

pub invariant_of-result : goal.invariant_of-result
invariant_of-result g c =
    let none = none_refused (first_high_charge c.args.charges) tt (sym c.check.ensures ∙ c.in_ok-check.was) in
    record { charges_in_range = λ h _. all_in_range c.args.charges none h }

pub returns-in_err-check : goal.returns-in_err-check
returns-in_err-check g c =
    let p = err_from_is_err_and c.from_residual.result c.from_residual.ensures.1 in
    let refused = refused_alike (first_high_charge c.args.charges) tt (c.args.charges, c.args.model) _ (sym c.check.ensures ∙ c.in_err-check.was) in
    makes c.args.charges c.args.model _ (ap parts p.1 ∙ ap Err p.2 ∙ sym refused)
