use Rattle.rules.proofs.Sequences.{limit_laws}
use Rattle.rules.proofs.theorems.limit_allows_fronts_and_repeats.Goals as goal

pub returns : goal.returns
returns g c start = limit_laws start
