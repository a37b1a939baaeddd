use Rattle.std.proofs.Common.{refl, rules}
use Rattle.std.proofs.lemmas.Fn.{always_returns_same}
use Rattle.tsdb_index.proofs.Found.{entry_absent, entry_there}
use Rattle.tsdb_index.specs.Entries.{names_of}
use Rattle.tsdb_path.specs.Order.{names_cmp}
use Rattle.tsdb_index.specs.declared.index.IndexEntry.{IndexEntry}
use Rattle.tsdb_streams.proofs.indexed_files.entry_in.Goals as goal

pub returns-in-Ok : goal.returns-in-Ok
returns-in-Ok c = λ order.
    entry_there c.args.device.now c.args.measurement.now c.args.entries.now c.args.entries.now c.in-Ok.at c.index-entries-at.result refl c.in-Ok.ensures.bound
    (c.in-Ok.ensures.position (λ (e : IndexEntry). names_cmp (names_of e) (c.args.device.now, c.args.measurement.now)) (always_returns_same _ _ _ (λ a r q k. search rules))) c.index-entries-at.is

pub returns-in-Err : goal.returns-in-Err
returns-in-Err c = λ order.
    entry_absent c.args.device.now c.args.measurement.now c.args.entries.now c.args.entries.now c.in-Err.field-0 refl order
    (c.in-Err.ensures.position (λ (e : IndexEntry). names_cmp (names_of e) (c.args.device.now, c.args.measurement.now)) (always_returns_same _ _ _ (λ a r q k. search rules)))
