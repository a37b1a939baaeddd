use Rattle.std.proofs.Common.{◌≡◌, ◌+◌, length}
use Rattle.tsdb_pin.proofs.Gathered.{AreColumnsReturned}
use Rattle.tsdb_pin.proofs.returning.give_back_columns.Given as goal

abbrev pub invariant-loop : goal.invariant-loop
invariant-loop g l = (l.counter + length l.columns.items ≡ l.end)
    × AreColumnsReturned g.F.Right.ReadRight.file l.initial.columns.items l.columns.items l.initial.files l.files
