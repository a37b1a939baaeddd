use Rattle.tsdb_flush.proofs.Contents.{tree_of_part}
use Rattle.tsdb_flush.proofs.built_laws.a_built_file_has_the_points_of_its_part.Goals as goal

pub returns : goal.returns
returns c = tree_of_part
