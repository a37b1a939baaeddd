use Rattle.tsdb_script.proofs.ReadingLemmas.{cut_bad, cut_long}
use Rattle.tsdb_script.proofs.laws.cut_script.Goals as goal

pub returns-clause-bad : goal.returns-clause-bad
returns-clause-bad c = cut_bad

pub returns-clause-long : goal.returns-clause-long
returns-clause-long c = cut_long
