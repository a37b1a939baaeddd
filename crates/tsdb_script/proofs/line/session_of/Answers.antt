use Rattle.std.proofs.Common.{sym, ◌∙◌}
use Rattle.tsdb_script.proofs.IntegerLemmas.{no_text}
use Rattle.tsdb_script.proofs.SessionLemmas.{not_parsed, text_is, IsUtf8-session}
use Rattle.tsdb_script.proofs.line.session_of.Goals as goal

pub returns-in_err-ok-clause-none : goal.returns-in_err-ok-clause-none
returns-in_err-ok-clause-none c =
    rw (c.from_residual.ensures, sym c.bytes-bytes.ensures)
    (λ session is. no_text _ _ _ c.from_utf8.ensures.cases c.in_err-ok.was c.ok.ensures.value (IsUtf8-session _ session is))

pub returns-clause-none : goal.returns-clause-none
returns-clause-none c =
    let bytes = c.bytes-bytes.result.now in
    rw (sym c.bytes-bytes.ensures)
    (not_parsed bytes c.in_ok-ok.field-0.now c.parse.result c.ok-2.result
    (text_is bytes c.from_utf8.result c.ok.result c.in_ok-ok.field-0 c.from_utf8.ensures.cases c.in_ok-ok.was c.ok.ensures.value)
    c.parse.ensures.value.0 (sym c.begins_with-else-begins_with.ensures ∙ c.if-begins_with-2.false) c.ok-2.ensures.value)
