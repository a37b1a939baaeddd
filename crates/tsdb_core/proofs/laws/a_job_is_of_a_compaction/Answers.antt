use Rattle.tsdb_core.proofs.LoansJobs.{on_inputs}
use Rattle.tsdb_core.proofs.LoansOut.{has_compaction}
use Rattle.tsdb_core.proofs.laws.a_job_is_of_a_compaction.Goals as goal

pub returns-clause-compaction : goal.returns-clause-compaction
returns-clause-compaction g c = has_compaction c.args._job.now

pub returns-clause-rights : goal.returns-clause-rights
returns-clause-rights g c = on_inputs g.F.Right.ReadRight.file c.args._job.now
