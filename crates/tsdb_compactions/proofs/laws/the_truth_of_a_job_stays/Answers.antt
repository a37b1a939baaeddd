use Rattle.tsdb_compactions.proofs.Staying.{inputs_stay, truth_stays}
use Rattle.tsdb_compactions.proofs.laws.the_truth_of_a_job_stays.Goals as goal

pub returns-clause-truth : goal.returns-clause-truth
returns-clause-truth g c told later same truth =
    truth_stays told later g.F.Right.ReadRight.file c.args._job.now same truth

pub returns-clause-inputs : goal.returns-clause-inputs
returns-clause-inputs g c told later same tells =
    inputs_stay told later g.F.Right.ReadRight.file c.args._job.now same tells
