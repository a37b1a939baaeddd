use Rattle.tsdb_script.proofs.IntegerLemmas.{no_text, IsUtf8-integer}
use Rattle.tsdb_script.proofs.words.integer_of.Goals as goal

pub returns-in_err-ok-clause-none : goal.returns-in_err-ok-clause-none
returns-in_err-ok-clause-none c = rw c.from_residual.ensures
    (λ number is. no_text _ _ _ c.from_utf8.ensures.cases c.in_err-ok.was c.ok.ensures.value (IsUtf8-integer _ number is))
