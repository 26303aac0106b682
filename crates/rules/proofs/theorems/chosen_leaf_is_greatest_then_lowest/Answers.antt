use Rattle.rules.specs.Leaves.{low_of, high_of}
use Rattle.rules.proofs.Leaves.{leaf_chosen}
use Rattle.rules.proofs.theorems.chosen_leaf_is_greatest_then_lowest.Goals as goal

pub returns : goal.returns
returns g c = record { for_the_plan = leaf_chosen low_of; to_expand_next = leaf_chosen high_of }
