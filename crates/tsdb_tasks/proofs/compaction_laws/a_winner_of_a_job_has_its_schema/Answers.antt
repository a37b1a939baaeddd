use Rattle.tsdb_tasks.proofs.Moments.{has_schema}
use Rattle.tsdb_tasks.proofs.compaction_laws.a_winner_of_a_job_has_its_schema.Goals as goal

pub returns : goal.returns
returns c = λ told known named engine files runs store series marks place value order are kept sequence unsequence memory
    of wins.
    has_schema files known engine are told named runs store series marks place value order kept sequence unsequence
    memory of wins
