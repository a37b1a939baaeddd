use Rattle.std.proofs.Common.{rules}
use Rattle.tsdb_turn.proofs.turn.marks_of.Goals as goal

pub loop-init : goal.loop-init
loop-init c = search rules
