use Rattle.tsdb_run.proofs.part.workers.Goals as goal

pub returns-in_err-number-clause-none : goal.returns-in_err-number-clause-none
returns-in_err-number-clause-none c = rw c.from_residual.ensures (λ number rest is. c.in_err-number.ensures.none number rest is.0)
