use Rattle.std.proofs.Common.{rules}
use Rattle.std.proofs.lemmas.Fn.{always_returns_same}
use Rattle.tsdb_index.specs.declared.index.IndexEntry.{IndexEntry}
use Rattle.tsdb_index.specs.Entries.{names_of}
use Rattle.tsdb_fields.specs.Order.{names_cmp}
use Rattle.tsdb_index.proofs.Found.{entry_absent, entry_there}
use Rattle.tsdb_index.proofs.finding.entry_for.Goals as goal

pub returns-in-Ok : goal.returns-in-Ok
returns-in-Ok c =
    entry_there c.args.device.now c.args.measurement.now c.args.entries.items c.deref.result.now c.in-Ok.at c.swap_remove.result c.deref.ensures.value c.in-Ok.ensures.bound
    (c.in-Ok.ensures.position (λ (e : IndexEntry). names_cmp (names_of e) (c.args.device.now, c.args.measurement.now)) (always_returns_same _ _ _ (λ a r q k. search rules))) c.swap_remove.ensures.value

pub returns : goal.returns
returns c =
    entry_absent c.args.device.now c.args.measurement.now c.args.entries.items c.deref.result.now c.in-Err.field-0 c.deref.ensures.value c.requires
    (c.in-Err.ensures.position (λ (e : IndexEntry). names_cmp (names_of e) (c.args.device.now, c.args.measurement.now)) (always_returns_same _ _ _ (λ a r q k. search rules)))
