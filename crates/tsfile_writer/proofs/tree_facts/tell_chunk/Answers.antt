use Rattle.std.proofs.Common.{List, subst, rules}
use Rattle.std.specs.Prelude.{All}
use Rattle.std.proofs.lemmas.List.Elements.{All-nil}
use Rattle.tsdb_base.specs.declared.point.Point.{Point}
use Rattle.tsdb_pages.specs.declared.tree.Page.{Page}
use Rattle.tsdb_pages.specs.Pages.{IsInRange}
use Rattle.tsfile_writer.proofs.Made.{all_in_range, all_of_taken, one_more_of}
use Rattle.tsfile_writer.proofs.tree_facts.tell_chunk.Goals as goal

pub loop-page-init : goal.loop-page-init
loop-page-init c = All-nil (λ (page : Page). All IsInRange page.points)

pub loop-page-preserved : goal.loop-page-preserved
loop-page-preserved c =
    one_more_of (λ (page : Page). All IsInRange page.points) c.args.chunk.now.pages c.items-page-items.result.now c.loop-page.page-index c.page-item.result c.items-page-items.ensures c.loop-page-test.true c.page-item.is c.loop-page.invariant
    (subst (λ (points : List Point). All IsInRange points) c.items.ensures c.tell_points.ensures)

pub returns : goal.returns
returns c = record {
  measurement = c.sound.ensures;
  points = all_in_range c.args.chunk.now.pages (all_of_taken (λ (page : Page). All IsInRange page.points) c.args.chunk.now.pages c.loop-page.page-index (search rules) c.loop-page.invariant);
}
