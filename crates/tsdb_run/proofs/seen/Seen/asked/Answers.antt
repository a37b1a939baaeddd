use Rattle.std.proofs.Common.{rules}
use Rattle.tsdb_run.proofs.SeenLemmas.{asked_is, no_directory}
use Rattle.tsdb_run.proofs.seen.Seen.asked.Goals as goal

pub returns-clause-found : goal.returns-clause-found
returns-clause-found c =
    asked_is c.args.self.now c.in_ok-directory.directory c.unwrap_or.result c.unwrap_or-2.result c.of.result (search rules) (search rules) (search rules)
    c.of.ensures

pub returns-in_err-directory-clause-none : goal.returns-in_err-directory-clause-none
returns-in_err-directory-clause-none c = rw c.from_residual.ensures (λ asked. no_directory c.args.self.now asked (search rules))
