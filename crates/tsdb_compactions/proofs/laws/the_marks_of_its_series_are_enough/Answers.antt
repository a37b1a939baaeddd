use Rattle.tsdb_compactions.proofs.Marks.{marks_suffice}
use Rattle.tsdb_compactions.proofs.laws.the_marks_of_its_series_are_enough.Goals as goal

pub returns : goal.returns
returns c = marks_suffice
