use Rattle.std.proofs.lemmas.Result.{err_from_is_err_and}
use Rattle.tsdb_streams.proofs.Reasons.{reason_memory, reason_ok, same_reason}
use Rattle.tsdb_pins.proofs.Selected.{columns_read}
use Rattle.tsdb_pins.proofs.selecting.select.Goals as goal

pub returns-clause-rows : goal.returns-clause-rows
returns-clause-rows g c = λ pages truth told shown world tells is stands.
    c.in_ok-rows_of.ensures.rows _ (columns_read g.F.Right.ReadRight.file pages told c.args.pin.now _ (c.in_ok-columns.ensures.read pages truth) shown world tells is stands)

pub returns-clause-reason : goal.returns-clause-reason
returns-clause-reason g c = λ pages truth. reason_ok _ _ _ _ c.in_ok-columns.ensures.later

pub returns-in_err-columns-clause-reason : goal.returns-in_err-columns-clause-reason
returns-in_err-columns-clause-reason g c = λ pages truth.
    let p = err_from_is_err_and c.from_residual.result c.from_residual.ensures.1 in
    rw (p.1, p.2) (same_reason _ _ _ c.in_err-columns.field-0.0 (c.in_err-columns.ensures.reason pages truth))

pub returns-in_err-rows_of-clause-reason : goal.returns-in_err-rows_of-clause-reason
returns-in_err-rows_of-clause-reason g c = λ pages truth.
    let p = err_from_is_err_and c.from_residual-in_err-rows_of.result c.from_residual-in_err-rows_of.ensures.1 in
    rw p.1 (reason_memory _ _ _ _ c.in_ok-columns.ensures.later p.2)
