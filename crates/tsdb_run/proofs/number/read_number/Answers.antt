use Rattle.tsdb_run.proofs.NumberLemmas.{no_text, not_parsed, text_is}
use Rattle.tsdb_run.proofs.number.read_number.Goals as goal

pub returns-in_err-ok-clause-none : goal.returns-in_err-ok-clause-none
returns-in_err-ok-clause-none c =
    rw c.from_residual.ensures
    (no_text c.args.bytes.now c.from_utf8.result c.ok.result c.from_utf8.ensures.cases c.in_err-ok.was c.ok.ensures.value)

pub returns-clause-none : goal.returns-clause-none
returns-clause-none c =
    let bytes = c.args.bytes.now in
    not_parsed bytes c.in_ok-ok.field-0.now c.parse.result c.ok-2.result c.has_plus.result
    (text_is bytes c.from_utf8.result c.ok.result c.in_ok-ok.field-0 c.from_utf8.ensures.cases c.in_ok-ok.was c.ok.ensures.value)
    c.parse.ensures.value.0 c.has_plus.ensures c.if-has_plus.false c.ok-2.ensures.value
