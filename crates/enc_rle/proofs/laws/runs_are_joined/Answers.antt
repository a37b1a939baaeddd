use Rattle.enc_rle.proofs.Runs.{expand_runs-runs_of, joined-runs_of, runs_of-expand_runs}
use Rattle.enc_rle.proofs.laws.runs_are_joined.Goals as goal

pub returns-clause-expand : goal.returns-clause-expand
returns-clause-expand c = expand_runs-runs_of

pub returns-clause-neighbours : goal.returns-clause-neighbours
returns-clause-neighbours c = joined-runs_of

pub returns-clause-only : goal.returns-clause-only
returns-clause-only c = runs_of-expand_runs
