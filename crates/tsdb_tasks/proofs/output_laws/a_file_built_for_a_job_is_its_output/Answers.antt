use Rattle.tsdb_tasks.proofs.OutputsBuilt.{new_output}
use Rattle.tsdb_tasks.proofs.output_laws.a_file_built_for_a_job_is_its_output.Goals as goal

pub returns : goal.returns
returns g c told compaction of is tells some =
    new_output _ _ _ told c.args._job.now c.args._built.now compaction of is tells some
