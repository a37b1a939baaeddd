use Rattle.std.proofs.Common.{◌≡◌, List, ◌++◌, sym, subst}
use Rattle.std.specs.List.{flat_map}
use Rattle.std.proofs.lemmas.List.{append-nil, take_all}
use Rattle.tsdb_index.specs.declared.index.IndexEntry.{IndexEntry}
use Rattle.tsdb_index.specs.Spelling.{entry_field}
use Rattle.tsdb_index.proofs.Leaves.{item_more}
use Rattle.tsdb_index.proofs.writing.write_entries.Goals as goal

pub loop-entry-preserved : goal.loop-entry-preserved
loop-entry-preserved c = item_more entry_field c.args.entries.now c.loop-entry.entry-index c.entry-item.result c.args.into.now.items c.loop-entry.into.items c.write_entry.new.into.items
    c.loop-entry-test.true c.entry-item.is c.loop-entry.invariant c.in_ok-write_entry.ensures.ok

pub loop-entry-init : goal.loop-entry-init
loop-entry-init c = sym (append-nil c.args.into.now.items)

pub returns : goal.returns
returns c = record {
  ok = subst (λ (items : List IndexEntry). c.loop-entry.into.items ≡ c.args.into.now.items ++ flat_map entry_field items)
      (take_all c.loop-entry.entry-index c.args.entries.now c.loop-entry-test.false) c.loop-entry.invariant;
}
