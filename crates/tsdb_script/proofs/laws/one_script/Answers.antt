use Rattle.tsdb_script.proofs.ReadingLemmas.{same_script, same_first_bad, not_both}
use Rattle.tsdb_script.proofs.laws.one_script.Goals as goal

pub returns-clause-commands : goal.returns-clause-commands
returns-clause-commands c = same_script

pub returns-clause-bad : goal.returns-clause-bad
returns-clause-bad c = same_first_bad

pub returns-clause-either : goal.returns-clause-either
returns-clause-either c = not_both
