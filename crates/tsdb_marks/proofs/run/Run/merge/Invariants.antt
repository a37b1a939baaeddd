use Rattle.std.proofs.Common.{◌≡◌, ◌+◌, ◌-◌, length}
use Rattle.tsdb_marks.specs.Merging.{IsMerged}
use Rattle.tsdb_marks.proofs.run.Run.merge.Given as goal

abbrev pub invariant-loop-start : goal.invariant-loop-start
invariant-loop-start l = record {
  one : l.first.steps.now ≡ l.fn.self.steps.items;
  two : l.second.steps.now ≡ l.fn.other.steps.items;
  merged : IsMerged l.first l.second l.steps.items l.version l.newest;
}

abbrev pub decreases-loop-start : goal.decreases-loop-start
decreases-loop-start l = length l.first.steps.now - l.first.read + (length l.second.steps.now - l.second.read)
