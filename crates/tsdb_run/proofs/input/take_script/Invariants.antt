use Rattle.std.proofs.Common.{◌≡◌, ◌-◌, ◌≤◌, length}
use Rattle.std.specs.Io.KnownBytes.{Consumes}
use Rattle.tsdb_run.proofs.input.take_script.Given as goal

abbrev pub invariant-loop-piece : goal.invariant-loop-piece
invariant-loop-piece g l = record {
  taken : Consumes (g.S.Source.left l.fn.script) (g.S.Source.left l.script) l.bytes.items;
  short : length l.bytes.items ≤ 67108865;
  same : g.S.Counted.faults l.script ≡ g.S.Counted.faults l.fn.script;
}

abbrev pub decreases-loop-piece : goal.decreases-loop-piece
decreases-loop-piece g l = 67108865 - length l.bytes.items
