use Rattle.tsdb_tasks.proofs.Coming.{sent_out, stand_last, tell_on}
use Rattle.tsdb_tasks.proofs.Committing.{all_there}
use Rattle.tsdb_tasks.proofs.flush_laws.the_files_of_a_flush_join_those_of_the_state.Goals as goal

pub returns-clause-listed : goal.returns-clause-listed
returns-clause-listed c store job files old new outside engine flush others oldest newer stored are out of_job all frozen
    born come last =
    stand_last store job files old new outside engine flush others stored out of_job come are all oldest newer frozen born
    last

pub returns-clause-sent_out : goal.returns-clause-sent_out
returns-clause-sent_out c store job files old new outside engine flush others stored are out of_job come sent =
    sent_out store job files old new outside engine flush others stored out of_job come are sent

pub returns-clause-told : goal.returns-clause-told
returns-clause-told c store job files old new outside engine flush others stored out of_job tells told come =
    tell_on store job files old new outside engine flush others stored out of_job come tells told

pub returns-clause-all : goal.returns-clause-all
returns-clause-all c store job files flush others engine out of_job all =
    all_there store job files flush others engine out of_job all
