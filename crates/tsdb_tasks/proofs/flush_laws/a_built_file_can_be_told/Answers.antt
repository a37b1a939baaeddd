use Rattle.tsdb_tasks.proofs.Stored.{new_kept, stored_with, worlds_with}
use Rattle.tsdb_tasks.proofs.flush_laws.a_built_file_can_be_told.Goals as goal

pub returns-clause-stored : goal.returns-clause-stored
returns-clause-stored c store job files outside engine flush others stored out of_job =
    stored_with job outside engine flush others stored out store files of_job

pub returns-clause-kept : goal.returns-clause-kept
returns-clause-kept c store job files outside engine flush others stored out of_job tells =
    new_kept job outside engine flush others stored out store files of_job tells

pub returns-clause-worlds : goal.returns-clause-worlds
returns-clause-worlds c store job files outside engine flush others world stored out of_job =
    worlds_with job outside engine flush others stored out store files of_job world
