use Rattle.tsdb_script.proofs.ReadingLemmas.{well_formed, within_limits}
use Rattle.tsdb_script.proofs.laws.good_script.Goals as goal

pub returns-clause-limits : goal.returns-clause-limits
returns-clause-limits c = within_limits

pub returns-clause-well_formed : goal.returns-clause-well_formed
returns-clause-well_formed c = well_formed
