use Rattle.std.specs.Fmt.{HasWritten, IsPlainFormatter}
use Rattle.table.specs.Listing.{record_lines}
use Rattle.table.specs.Tables.{file}
use Rattle.table.proofs.records.telling.TableDisplay.fmt.Given as goal

abbrev pub invariant-loop-chunk : goal.invariant-loop-chunk
invariant-loop-chunk g l =
    IsPlainFormatter l.initial.f → HasWritten g.W.Write.write_str_gives l.initial.f (record_lines (file l.self).bytes l.chunk-index) l.f
