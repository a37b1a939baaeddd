use Rattle.tsdb_compactions.proofs.Outputs.{no_output}
use Rattle.tsdb_compactions.proofs.laws.a_job_without_a_point_has_no_output.Goals as goal

pub returns : goal.returns
returns g c told compaction is none tells =
    no_output g.F.Right.ReadRight.file told c.args._job.now compaction is none tells
