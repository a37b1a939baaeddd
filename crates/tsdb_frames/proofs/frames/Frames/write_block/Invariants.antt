use Rattle.std.proofs.Common.{◌≤◌}
use Rattle.tsdb_frames.specs.Calls.{Lengthens}
use Rattle.tsdb_frames.proofs.frames.Frames.write_block.Given as goal

abbrev pub invariant-loop : goal.invariant-loop
invariant-loop g l = record {
  lengthens : Lengthens l.fn.self l.self;
  later : g.J.Counted.faults l.fn.self.journal ≤ g.J.Counted.faults l.self.journal;
}
