use Rattle.tsdb_tasks.proofs.Committing.{ended_stored, ends}
use Rattle.tsdb_tasks.proofs.flush_laws.a_flush_may_end_without_its_record.Goals as goal

pub returns-clause-ends : goal.returns-clause-ends
returns-clause-ends c store job files engine flush others out of_job = ends store job files flush others engine out
    of_job

pub returns-clause-stored : goal.returns-clause-stored
returns-clause-stored c store job files outside engine flush others stored out of_job tells =
    ended_stored store job files flush others engine out of_job outside stored tells
