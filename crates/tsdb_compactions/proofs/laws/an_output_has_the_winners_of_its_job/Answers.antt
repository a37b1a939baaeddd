use Rattle.tsdb_compactions.proofs.Outputs.{has_output}
use Rattle.tsdb_compactions.proofs.laws.an_output_has_the_winners_of_its_job.Goals as goal

pub returns : goal.returns
returns g c told is tells some = has_output _ _ _ told c.args._job.now c.args._built.now is tells some
