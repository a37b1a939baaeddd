use Rattle.std.proofs.lemmas.Grind.{elements}
use Rattle.std.proofs.Common.{◌≡◌, List, get_or, refl, sym, ap, subst, ◌∙◌, take, rules, arith}
use Rattle.tsdb_pages.specs.declared.tree.Page.{Page}
use Rattle.tsfile_writer.specs.Steps.{ArePages}
use Rattle.tsfile_writer.proofs.Appending.{all_taken, chunk_begun, chunk_ended, first_taken, more_taken, page_added}
use Rattle.tsfile_writer.proofs.tree.write_chunk.Goals as goal

pub loop-page-init : goal.loop-page-init
loop-page-init c = λ groups chunks layout.
    let chunk = c.args.chunk.now in
    let page = c.index-pages-0.result in
    let first = subst (λ (pages : List Page). c.index-pages-0.result ≡ get_or pages 0 c.index-pages-0.result) c.items-pages.ensures c.index-pages-0.is in
    let points = ap (λ (p : Page). p.points) c.index-pages-0.is ∙ sym c.items.ensures in
    subst (λ (pages : List Page). ArePages groups c.args.device.now chunks chunk.measurement chunk.data_type chunk.encoding pages c.append_chunk.new.into.items c.args.entries.now.items c.in_ok-open.open)
    (first_taken chunk.pages page c.requires.some first)
    (chunk_begun groups c.args.device.now chunks chunk.measurement chunk.data_type chunk.encoding page c.items.result.now c.args.into.now.items c.append_chunk.new.into.items c.args.entries.now.items c.in_ok-open.open
    layout points c.in_ok-open.ensures.bytes c.in_ok-open.ensures.chunk c.in_ok-open.ensures.sums)

pub loop-page-preserved : goal.loop-page-preserved
loop-page-preserved c = λ groups chunks layout.
    let chunk = c.args.chunk.now in
    subst (λ (pages : List Page). ArePages groups c.args.device.now chunks chunk.measurement chunk.data_type chunk.encoding pages c.put_page.new.into.items c.args.entries.now.items c.put_page.new.self)
    (more_taken (take 1 chunk.pages) _ _ c.loop-page.page-index c.page-item.result refl c.loop-page-test.true c.page-item.is)
    (page_added groups c.args.device.now chunks chunk.measurement chunk.data_type chunk.encoding _ c.page-item.result c.items-in-loop-page.result.now c.loop-page.into.items c.put_page.new.into.items c.args.entries.now.items c.loop-page.open c.put_page.new.self
    (c.loop-page.invariant groups chunks layout) (sym c.items-in-loop-page.ensures) c.in_ok-put_page.ensures.bytes c.in_ok-put_page.ensures.chunk c.in_ok-put_page.ensures.sums)

pub returns : goal.returns
returns c = record {
  ok = λ groups chunks layout.
      let chunk = c.args.chunk.now in
      let said = c.into_entry-entry.ensures in
      chunk_ended groups c.args.device.now chunks chunk c.loop-page.into.items c.args.entries.now.items c.push.new.self.items c.loop-page.open c.into_entry-entry.result
      (subst (λ (pages : List Page). ArePages groups c.args.device.now chunks chunk.measurement chunk.data_type chunk.encoding pages c.loop-page.into.items c.args.entries.now.items c.loop-page.open)
      (all_taken chunk.pages c.items-pages.result.now c.loop-page.page-index c.items-pages.ensures (search rules))
      (c.loop-page.invariant groups chunks layout))
      (record {
        device_is = said.device ∙ c.in_ok-copy.ensures;
        measurement_is = said.measurement ∙ c.in_ok-copy-2.ensures;
        type_is = said.data_type;
        encoding_is = said.encoding;
        place_is = said.place;
        stats = said.stats;
        pages_are = said.pages;
      })
      c.in_ok-push.ensures.items;
}

pub put_page-requires-clause-points : goal.put_page-requires-clause-points
put_page-requires-clause-points c = grind (arith, elements)
