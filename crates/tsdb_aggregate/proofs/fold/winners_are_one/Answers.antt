use Rattle.tsdb_aggregate.proofs.WinnerLemmas.{winners_are_one}
use Rattle.tsdb_aggregate.proofs.fold.winners_are_one.Goals as goal

pub returns : goal.returns
returns c = winners_are_one
