use Rattle.std.proofs.Common.{◌≡◌, ◌-◌, arith, length, ltb-false, ltb-true, rules}
use Rattle.tsdb_log.proofs.ShortFields.{bad_near, no_beginning, whole_near}
use Rattle.tsdb_log.proofs.reading.may_begin.Goals as goal

pub returns-then-size-lt-MAX_FIELD_BYTES-clause-near : goal.returns-then-size-lt-MAX_FIELD_BYTES-clause-near
returns-then-size-lt-MAX_FIELD_BYTES-clause-near c = λ may at furthest. omega arith

pub returns-in-Ok-clause-near : goal.returns-in-Ok-clause-near
returns-in-Ok-clause-near c = λ may. whole_near c.args.bytes.now c.in-Ok.item c.in-Ok.ensures.record c.in-Ok.ensures.found

pub returns-in-Err-Bad-clause-none : goal.returns-in-Err-Bad-clause-none
returns-in-Err-Bad-clause-none c = λ may.
    let bytes = c.args.bytes.now in
    let at = c.in-Err-Bad.at in
    let far = ltb-false (length bytes - 65537) at may in
    no_beginning bytes at (c.in-Err-Bad.ensures.bad at (search rules)).place (omega (arith, far, c.if-size-lt-MAX_FIELD_BYTES.false))

pub returns-in-Err-Bad-clause-near : goal.returns-in-Err-Bad-clause-near
returns-in-Err-Bad-clause-near c = λ may.
    let bytes = c.args.bytes.now in
    let at = c.in-Err-Bad.at in
    let near = ltb-true (length bytes - 65537) at may in
    bad_near bytes at (c.in-Err-Bad.ensures.bad at (search rules)).place (omega (arith, near, c.if-size-lt-MAX_FIELD_BYTES.false))
