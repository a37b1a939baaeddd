use Rattle.tsdb_run.proofs.PartLemmas.{no_number}
use Rattle.tsdb_run.proofs.part.option.Goals as goal

pub returns-in_err-digits-clause-none : goal.returns-in_err-digits-clause-none
returns-in_err-digits-clause-none c = rw c.from_residual.ensures (λ number rest is. c.in_err-digits.ensures.none is.0 rest is.2)

pub returns-in_err-number-clause-none : goal.returns-in_err-number-clause-none
returns-in_err-number-clause-none c =
    rw c.from_residual-in_err-number.ensures
    (no_number c.args.name.now c.in_ok-digits.digits.now c.args.words.now c.in_ok-digits.rest.now c.in_ok-digits.ensures.found c.in_err-number.ensures.none)
