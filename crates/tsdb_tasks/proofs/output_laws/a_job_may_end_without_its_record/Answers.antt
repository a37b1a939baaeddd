use Rattle.tsdb_tasks.proofs.OutputEnds.{ended_with, ended_without, ends_with}
use Rattle.tsdb_tasks.proofs.output_laws.a_job_may_end_without_its_record.Goals as goal

pub returns-clause-ends : goal.returns-clause-ends
returns-clause-ends c outside engine job others content file out is =
    ends_with outside engine job others out content file is

pub returns-clause-stored : goal.returns-clause-stored
returns-clause-stored c outside engine job others content file stored out is =
    ended_with outside engine job others out stored content file is

pub returns-clause-none : goal.returns-clause-none
returns-clause-none c outside engine job others stored out = ended_without outside engine job others out stored
