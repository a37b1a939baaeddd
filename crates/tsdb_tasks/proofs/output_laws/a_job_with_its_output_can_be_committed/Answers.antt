use Rattle.tsdb_tasks.proofs.OutputEnds.{none_can, output_can}
use Rattle.tsdb_tasks.proofs.output_laws.a_job_with_its_output_can_be_committed.Goals as goal

pub returns-clause-output : goal.returns-clause-output
returns-clause-output c outside engine job others content file place listed stored out is at least =
    output_can outside engine job others out stored content file is place listed at least

pub returns-clause-none : goal.returns-clause-none
returns-clause-none c outside engine job others place listed out none at least =
    none_can outside engine job others out place listed none at least
