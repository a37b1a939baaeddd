use Rattle.tsdb_fileset.proofs.PlaceFacts.{one_taken}
use Rattle.tsdb_fileset.proofs.sweeping.take_file.Goals as goal

pub returns-clause-places : goal.returns-clause-places
returns-clause-places g c = one_taken c.args.number.0 _ _ c.remove.ensures.updates.0
