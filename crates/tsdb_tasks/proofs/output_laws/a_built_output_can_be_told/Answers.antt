use Rattle.tsdb_tasks.proofs.OutputsTold.{output_kept, stored_with, worlds_with}
use Rattle.tsdb_tasks.proofs.output_laws.a_built_output_can_be_told.Goals as goal

pub returns-clause-stored : goal.returns-clause-stored
returns-clause-stored c outside engine job others content file stored out is =
    stored_with outside engine job others stored out content file is

pub returns-clause-kept : goal.returns-clause-kept
returns-clause-kept c outside engine job others content file stored out is =
    output_kept outside engine job others stored out content file is

pub returns-clause-worlds : goal.returns-clause-worlds
returns-clause-worlds c outside engine job others content file world stored out is =
    worlds_with outside engine job others stored out content file is world
