use Rattle.rules.proofs.Mixed.{within_limits, paths_grown, worths_of_own_marks}
use Rattle.rules.proofs.theorems.every_mix_keeps_limits_paths_and_worths.Goals as goal

pub returns : goal.returns
returns g c = record {
  sizes_within_limits = within_limits;
  paths_are_their_parents_and_one_step_more = paths_grown;
  worths_are_of_own_marks = worths_of_own_marks;
}
