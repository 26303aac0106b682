use Rattle.std.proofs.Common.{◌≡◌, ◌-◌}
use Rattle.table.specs.Layout.{count}
use Rattle.table.specs.Reading.{first_there, record_fault}
use Rattle.table.proofs.records.shape.Shape.check_records.Given as goal

abbrev pub invariant-loop-i : goal.invariant-loop-i
invariant-loop-i l =
    let f = record_fault l.bytes l.self.states l.self.settings in
    first_there f l.i (count l.bytes - l.i) ≡ first_there f 0 (count l.bytes)
