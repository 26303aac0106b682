use Rattle.std.proofs.Common.{sym, ap, ◌∙◌, refl}
use Rattle.std.proofs.lemmas.Result.{err_from_is_err_and}
use Rattle.table.specs.Reading.{checked}
use Rattle.table.proofs.Decisions.{keeps, reads_accepted, reads_refused}
use Rattle.table.proofs.records.Table.read.Goals as goal

pub returns-in_err-shape : goal.returns-in_err-shape
returns-in_err-shape c =
    let p = err_from_is_err_and c.from_residual.result c.from_residual.ensures.1 in
    rw (p.1, p.2) (reads_refused _ _ (ap checked (sym c.as_slice.ensures.value) ∙ c.in_err-shape.ensures))

pub invariant_of-result : goal.invariant_of-result
invariant_of-result c =
    let k = keeps _ _ (ap checked (sym c.as_slice.ensures.value) ∙ c.in_ok-shape.ensures) in
    record { complete = c.args.bytes.ok.0 ∙ k.complete; next_known = k.next_known; small_marks = k.small_marks }

pub returns : goal.returns
returns c = reads_accepted _ _ _ (ap checked (sym c.as_slice.ensures.value) ∙ c.in_ok-shape.ensures) refl
