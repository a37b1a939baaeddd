use Rattle.std.proofs.Common.{rules}
use Rattle.tsdb_marks.proofs.marks.Marks.drop_all.Goals as goal

pub returns-clause-marks : goal.returns-clause-marks
returns-clause-marks c = search rules
