use Rattle.std.proofs.Common.{refl, rules}
use Rattle.std.proofs.lemmas.List.Elements.{All-nil}
use Rattle.tsdb_pages.specs.Pages.{IsInRange}
use Rattle.tsfile_writer.proofs.Made.{all_of_taken, one_more_of}
use Rattle.tsfile_writer.proofs.tree_facts.tell_points.Goals as goal

pub loop-point-init : goal.loop-point-init
loop-point-init c = All-nil IsInRange

pub loop-point-preserved : goal.loop-point-preserved
loop-point-preserved c = one_more_of IsInRange c.args.points.now c.args.points.now c.loop-point.point-index c.point-item.result refl c.loop-point-test.true c.point-item.is c.loop-point.invariant c.tell_point.ensures

pub returns : goal.returns
returns c = all_of_taken IsInRange c.args.points.now c.loop-point.point-index (search rules) c.loop-point.invariant
