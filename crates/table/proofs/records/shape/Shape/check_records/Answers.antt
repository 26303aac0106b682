use Rattle.std.proofs.Common.{◌<◌, ap, sym, ◌∙◌, arith}
use Rattle.std.proofs.lemmas.Result.{err_from_is_err_and}
use Rattle.table.specs.Layout.{count}
use Rattle.table.specs.Reading.{fault_in, record_fault, unless}
use Rattle.table.proofs.Firsts.{first_here}
use Rattle.table.proofs.records.shape.Shape.check_records.Goals as goal

pub returns-in_err-check : goal.returns-in_err-check
returns-in_err-check c =
    let s = c.args.self in
    let i = c.loop-i.i in
    let n = count c.args.bytes.now in
    let within : i < n = omega (arith, c.chunks-records.ensures.number) in
    let at = c.from.ensures ∙ c.chunks-records.ensures.each i _ within in
    let refused = ap (λ r. unless (fault_in s.states s.settings i r) tt) (sym at) ∙ sym c.check.ensures ∙ c.in_err-check.was in
    let first = first_here (record_fault c.args.bytes.now s.states s.settings) i n within _ refused in
    let p = err_from_is_err_and c.from_residual.result c.from_residual.ensures.1 in
    rw (p.1, p.2) (ap (λ o. unless o tt) (sym first ∙ c.loop-i.invariant))
