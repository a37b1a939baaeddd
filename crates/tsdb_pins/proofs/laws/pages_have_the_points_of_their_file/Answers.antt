use Rattle.tsdb_pins.proofs.Told.{told_points}
use Rattle.tsdb_pins.proofs.laws.pages_have_the_points_of_their_file.Goals as goal

pub returns : goal.returns
returns c = told_points
