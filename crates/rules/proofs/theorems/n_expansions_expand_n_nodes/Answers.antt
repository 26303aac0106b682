use Rattle.rules.proofs.Counting.{expansions_counted}
use Rattle.rules.proofs.Mixed.{work_counted}
use Rattle.rules.proofs.theorems.n_expansions_expand_n_nodes.Goals as goal

pub returns : goal.returns
returns g c = record { from_a_start = expansions_counted _; by_every_work = work_counted }
