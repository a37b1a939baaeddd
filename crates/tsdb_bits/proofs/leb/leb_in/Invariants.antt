use Rattle.tsdb_bits.proofs.Reading.{Groups}
use Rattle.tsdb_bits.proofs.leb.leb_in.Given as goal

abbrev pub invariant-loop-i : goal.invariant-loop-i
invariant-loop-i l = Groups l.bytes l.i l.low
