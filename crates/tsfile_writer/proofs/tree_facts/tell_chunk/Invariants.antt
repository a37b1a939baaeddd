use Rattle.std.proofs.Common.{take}
use Rattle.std.specs.Prelude.{All}
use Rattle.tsdb_pages.specs.Pages.{IsInRange}
use Rattle.tsfile_writer.proofs.tree_facts.tell_chunk.Given as goal

abbrev pub invariant-loop-page : goal.invariant-loop-page
invariant-loop-page l = All (λ page. All IsInRange page.points) (take l.page-index l.chunk.pages)
