use Rattle.std.proofs.Common.{◌≡◌, ◌+◌, length}
use Rattle.tsdb_tasks.proofs.Taken.{AreReturned}
use Rattle.tsdb_tasks.proofs.inputs.give_back_inputs.Given as goal

abbrev pub invariant-loop : goal.invariant-loop
invariant-loop g l = (l.counter + length l.inputs.items ≡ l.end)
    × AreReturned g.F.Right.ReadRight.file l.initial.inputs.items l.inputs.items l.initial.files l.files
