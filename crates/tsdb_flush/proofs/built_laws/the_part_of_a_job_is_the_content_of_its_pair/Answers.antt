use Rattle.tsdb_flush.proofs.Memory.{content_of_part}
use Rattle.tsdb_flush.proofs.built_laws.the_part_of_a_job_is_the_content_of_its_pair.Goals as goal

pub returns : goal.returns
returns c = content_of_part
