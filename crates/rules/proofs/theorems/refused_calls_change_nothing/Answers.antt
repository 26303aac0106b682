use Rattle.rules.proofs.Refused.{refusals_change_nothing}
use Rattle.rules.proofs.theorems.refused_calls_change_nothing.Goals as goal

pub returns : goal.returns
returns g c = refusals_change_nothing _
