use Rattle.std.proofs.Common.{◌≡◌, ◌+◌, length}
use Rattle.tsdb_pin.proofs.Gathered.{AreReturned}
use Rattle.tsdb_pin.proofs.returning.give_back_sources.Given as goal

abbrev pub invariant-loop : goal.invariant-loop
invariant-loop g l = (l.counter + length l.sources.items ≡ l.end)
    × AreReturned g.F.Right.ReadRight.file l.initial.sources.items l.sources.items l.initial.files l.files
