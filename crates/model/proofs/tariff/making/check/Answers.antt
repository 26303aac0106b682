use Rattle.std.proofs.Common.{ap, ◌∙◌}
use Rattle.model.specs.TariffMaking.{charge_in_range, refused_at}
use Rattle.model.proofs.Firsts.{place_is_first}
use Rattle.model.proofs.tariff.making.check.Goals as goal

pub returns-in-Some : goal.returns-in-Some
returns-in-Some c = ap (λ o. refused_at o tt) (c.in-Some.ensures ∙ place_is_first charge_in_range c.args.charges.now)

pub returns-in-None : goal.returns-in-None
returns-in-None c = ap (λ o. refused_at o tt) (c.in-None.ensures ∙ place_is_first charge_in_range c.args.charges.now)
