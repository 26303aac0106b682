use Rattle.std.proofs.Common.{◌++◌, ◌<◌, ap, sym, ◌∙◌, add-one, arith, rules}
use Rattle.std.proofs.Output.{has_written_append, has_written_of_eq}
use Rattle.table.specs.Listing.{record_line, record_lines}
use Rattle.table.specs.Tables.{file, record_count}
use Rattle.table.proofs.records.telling.TableDisplay.fmt.Goals as goal

pub loop-chunk-preserved : goal.loop-chunk-preserved
loop-chunk-preserved g c = λ p.
    let f = file c.args.self.now in
    let i = c.loop-chunk.chunk-index in
    let within : i < record_count f = omega (arith, c.chunks-records.ensures.number) in
    let at = c.from.ensures ∙ c.chunks-records.ensures.each i _ within in
    has_written_of_eq _ _ _ _ _ (ap (λ r. record_lines f.bytes i ++ record_line r) at ∙ sym (ap (record_lines f.bytes) (add-one i))) (has_written_append _ _ _ _ _ _ (c.loop-chunk.invariant p) (search rules))
