use Rattle.std.proofs.Common.{length}
use Rattle.std.specs.Prelude.{◌↔◌}
use Rattle.tsdb_run.specs.WordSteps.{FollowsSeen, nothing}
use Rattle.tsdb_run.specs.Words as model
use Rattle.tsdb_run.proofs.read.parts_of.Given as goal

abbrev pub invariant-loop-rest : goal.invariant-loop-rest
invariant-loop-rest l = (asked : model.Asked) → FollowsSeen nothing l.words asked ↔ FollowsSeen l.seen l.rest asked

abbrev pub decreases-loop-rest : goal.decreases-loop-rest
decreases-loop-rest l = length l.rest
