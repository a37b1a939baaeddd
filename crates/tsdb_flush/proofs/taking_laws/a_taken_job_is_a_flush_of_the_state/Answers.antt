use Rattle.tsdb_flush.proofs.States.{taken_flush}
use Rattle.tsdb_flush.proofs.taking_laws.a_taken_job_is_a_flush_of_the_state.Goals as goal

pub returns : goal.returns
returns c = taken_flush
