use Rattle.std.proofs.Common.{arith}
use Rattle.std.proofs.lemmas.Grind.{common_steps}
use Rattle.tsdb_marks.proofs.marks.Marks.purge.Goals as goal

pub has_old-requires : goal.has_old-requires
has_old-requires c = grind (arith, common_steps)
