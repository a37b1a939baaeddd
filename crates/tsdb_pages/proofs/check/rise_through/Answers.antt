use Rattle.std.proofs.Common.{List, refl, subst, arith}
use Rattle.std.proofs.lemmas.Bool.{false≢true}
use Rattle.std.proofs.lemmas.Int.{ints}
use Rattle.std.proofs.lemmas.List.{take_all}
use Rattle.tsdb_pages.specs.declared.tree.Page.{Page}
use Rattle.tsdb_base.specs.Points.{IsRising}
use Rattle.tsdb_pages.specs.Trees.{page_points}
use Rattle.tsdb_pages.proofs.Order.{first_page, meets, page_more, pages_fall}
use Rattle.tsdb_pages.proofs.check.rise_through.Goals as goal

pub loop-i-init : goal.loop-i-init
loop-i-init c = first_page c.args.pages.now c.requires.rising

pub returns-then-next-before : goal.returns-then-next-before
returns-then-next-before c =
    let pages = c.args.pages.now in
    let last = c.index-before-before in
    let first = c.index-next-0 in
    let m = meets pages c.loop-i.i c.index-pages-i.result c.index-pages-i-in-loop-i.result last.result first.result c.items-before.result.now c.items-next.result.now (omega arith) (omega arith)
    c.index-pages-i.is c.index-pages-i-in-loop-i.is c.items-before.ensures c.items-next.ensures last.is first.is in
    (λ e. absurd (false≢true e), λ rising. absurd (pages_fall pages c.loop-i.i last.result first.result m c.requires.some (grind (arith, ints)) rising))

pub loop-i-preserved : goal.loop-i-preserved
loop-i-preserved c =
    let pages = c.args.pages.now in
    let last = c.index-before-before in
    let first = c.index-next-0 in
    let m = meets pages c.loop-i.i c.index-pages-i.result c.index-pages-i-in-loop-i.result last.result first.result c.items-before.result.now c.items-next.result.now (omega arith) (omega arith)
    c.index-pages-i.is c.index-pages-i-in-loop-i.is c.items-before.ensures c.items-next.ensures last.is first.is in
    page_more pages c.loop-i.i last.result first.result m c.requires.some c.requires.rising (grind (arith, ints)) c.loop-i.invariant

pub returns : goal.returns
returns c = (λ _. subst (λ (ps : List Page). IsRising (page_points ps)) (take_all c.loop-i.i c.args.pages.now (omega arith)) c.loop-i.invariant, λ _. refl)
