use Rattle.std.proofs.Common.{◌≡◌, List, ◌++◌, sym, subst}
use Rattle.std.specs.List.{flat_map}
use Rattle.std.proofs.lemmas.List.{append-nil, take_all}
use Rattle.tsdb_index.specs.declared.index.PageEntry.{PageEntry}
use Rattle.tsdb_index.specs.Spelling.{page_entry_field}
use Rattle.tsdb_index.proofs.Leaves.{item_more}
use Rattle.tsdb_index.proofs.writing.write_pages.Goals as goal

pub loop-page-preserved : goal.loop-page-preserved
loop-page-preserved c = item_more page_entry_field c.args.pages.now c.loop-page.page-index c.page-item.result c.args.into.now.items c.loop-page.into.items c.write_page.new.into.items
    c.loop-page-test.true c.page-item.is c.loop-page.invariant c.in_ok-write_page.ensures.ok

pub loop-page-init : goal.loop-page-init
loop-page-init c = sym (append-nil c.args.into.now.items)

pub returns : goal.returns
returns c = record {
  ok = subst (λ (items : List PageEntry). c.loop-page.into.items ≡ c.args.into.now.items ++ flat_map page_entry_field items)
      (take_all c.loop-page.page-index c.args.pages.now c.loop-page-test.false) c.loop-page.invariant;
}
