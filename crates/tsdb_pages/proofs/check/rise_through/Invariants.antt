use Rattle.std.proofs.Common.{take}
use Rattle.tsdb_base.specs.Points.{IsRising}
use Rattle.tsdb_pages.specs.Trees.{page_points}
use Rattle.tsdb_pages.proofs.check.rise_through.Given as goal

abbrev pub invariant-loop-i : goal.invariant-loop-i
invariant-loop-i l = IsRising (page_points (take l.i l.pages))
