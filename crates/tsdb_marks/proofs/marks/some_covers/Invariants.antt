use Rattle.std.proofs.Common.{take}
use Rattle.tsdb_marks.specs.Model.{IsUncovered}
use Rattle.tsdb_marks.proofs.marks.some_covers.Given as goal

abbrev pub invariant-loop-mark : goal.invariant-loop-mark
invariant-loop-mark l = IsUncovered (take l.mark-index l.marks) l.series l.low l.high l.born
