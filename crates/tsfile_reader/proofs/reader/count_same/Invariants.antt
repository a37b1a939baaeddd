use Rattle.tsfile_reader.proofs.Alike.{SameUpTo}
use Rattle.tsfile_reader.proofs.reader.count_same.Given as goal

abbrev pub invariant-loop-i : goal.invariant-loop-i
invariant-loop-i l = SameUpTo l.entries l.said l.i
