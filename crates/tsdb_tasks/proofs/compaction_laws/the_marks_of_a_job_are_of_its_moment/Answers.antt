use Rattle.tsdb_tasks.proofs.Moments.{of_moment}
use Rattle.tsdb_tasks.proofs.compaction_laws.the_marks_of_a_job_are_of_its_moment.Goals as goal

pub returns : goal.returns
returns c = λ files runs store series known engine job are kept sequence unsequence memory of inputs marks born output left.
    of_moment files known engine are kept runs store series job sequence unsequence memory of inputs marks born output
    left
