use Rattle.std.proofs.Common.{◌≡◌, drop}
use Rattle.model.specs.Walk.{walk, walk_from}
use Rattle.model.proofs.walking.walk.Given as goal

abbrev pub invariant-loop-place : goal.invariant-loop-place
invariant-loop-place g l = walk_from (g.M.Model.meaning l.model) l.place l.state (drop l.place l.settings) ≡ walk (g.M.Model.meaning l.model) l.initial.state l.settings
