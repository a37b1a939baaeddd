use Rattle.std.proofs.Common.{take}
use Rattle.std.specs.Prelude.{All}
use Rattle.tsdb_pages.specs.Pages.{IsInRange}
use Rattle.tsfile_writer.proofs.tree_facts.tell_points.Given as goal

abbrev pub invariant-loop-point : goal.invariant-loop-point
invariant-loop-point l = All IsInRange (take l.point-index l.points)
