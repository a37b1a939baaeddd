use Rattle.tsdb_fileset.proofs.Joining.{only_places}
use Rattle.tsdb_fileset.proofs.laws.places_alone_change_no_file.Goals as goal

pub returns : goal.returns
returns c = only_places
