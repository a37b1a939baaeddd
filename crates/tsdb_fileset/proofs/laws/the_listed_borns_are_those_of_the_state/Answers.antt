use Rattle.tsdb_fileset.proofs.StateSweeps.{borns_are}
use Rattle.tsdb_fileset.proofs.laws.the_listed_borns_are_those_of_the_state.Goals as goal

pub returns : goal.returns
returns c = borns_are
