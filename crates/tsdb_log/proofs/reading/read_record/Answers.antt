use Rattle.std.proofs.Common.{◌≡◌, ◌<◌, length, rules}
use Rattle.std.proofs.lemmas.Result.{err_from_is_err_and}
use Rattle.tsdb_log.specs.declared.fault.LogFault.TheVariants.{Bad}
use Rattle.tsdb_log.specs.Steps.{log_fault}
use Rattle.tsdb_log.proofs.Exits.{bad_field, memory_alone, bytes_behind, bytes_behind_none, read_as}
use Rattle.tsdb_log.proofs.reading.read_record.Goals as goal

pub returns-in_err-item-clause-bad : goal.returns-in_err-item-clause-bad
returns-in_err-item-clause-bad c = λ at is_bad.
    let p = err_from_is_err_and c.from_residual.result c.from_residual.ensures.1 in
    let passed_on = rw (p.1, p.2) at is_bad in
    let same : log_fault c.in_err-item.field-0.0 ≡ Bad at = cc in
    bad_field c.args.payload.now c.in_err-item.field-0.0 at c.in_err-item.ensures.exact same

pub returns-in_err-item-clause-good : goal.returns-in_err-item-clause-good
returns-in_err-item-clause-good c = λ item is e.
    let p = err_from_is_err_and c.from_residual.result c.from_residual.ensures.1 in
    rw (p.1, p.2) (memory_alone c.args.payload.now c.in_err-item.field-0.0 item c.in_err-item.ensures.exact is e)

pub returns-then-not-is_empty-clause-bad : goal.returns-then-not-is_empty-clause-bad
returns-then-not-is_empty-clause-bad c = λ at is_bad.
    let some : 0 < length c.in_ok-item.rest.bytes.now = search rules in
    let same : c.in_ok-item.rest.at ≡ at = cc in
    rw (← same) (bytes_behind c.args.payload.now c.in_ok-item.item c.in_ok-item.rest c.in_ok-item.ensures.exact some)

pub returns-then-not-is_empty-clause-good : goal.returns-then-not-is_empty-clause-good
returns-then-not-is_empty-clause-good c = λ item is e.
    let some : 0 < length c.in_ok-item.rest.bytes.now = search rules in
    absurd (bytes_behind_none c.args.payload.now c.in_ok-item.item c.in_ok-item.rest item c.in_ok-item.ensures.exact some is e)

pub returns-clause-good : goal.returns-clause-good
returns-clause-good c = λ item is e. read_as c.args.payload.now c.in_ok-item.item c.in_ok-item.rest item c.in_ok-item.ensures.exact is e
