use Rattle.std.proofs.Common.{◌≡◌}
use Rattle.reckoning.specs.Worths.{width}
use Rattle.reckoning.proofs.worths.width.Given as goal

abbrev pub invariant-loop : goal.invariant-loop
invariant-loop g l = l.width ≡ width (g.R.Reckoning.meaning l.reckoning) l.counter
