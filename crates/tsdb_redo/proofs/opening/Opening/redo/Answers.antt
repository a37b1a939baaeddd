use Rattle.std.proofs.Common.{◌∙◌, ap, of_z, rules, sym, to_z}
use Rattle.std.proofs.lemmas.Int.{to_z-of_z}
use Rattle.std.specs.Int.{w64}
use Rattle.tsdb_log.specs.declared.record.LogRecord.TheVariants.{Create, Delete, Flushed, Freeze, Insert, Replaced}
use Rattle.tsdb_redo.proofs.Following.{says}
use Rattle.tsdb_redo.proofs.opening.Opening.redo.Goals as goal

pub returns-in-Create : goal.returns-in-Create
returns-in-Create c =
    let all = says c.args.self.now c.redo_create.new.self c.args.item
    (Create c.in-Create.path c.in-Create.data_type c.in-Create.encoding) c.redo_create.result
    (sym c.in-Create.is) c.redo_create.ensures in
    record { replayed = all.replayed; no_replay = all.no_replay; unchanged = all.unchanged; same = all.same }

pub returns-in-Insert : goal.returns-in-Insert
returns-in-Insert c =
    let all = says c.args.self.now c.redo_insert.new.self c.args.item
    (Insert (to_z w64 (of_z w64 c.in-Insert.time)) c.in-Insert.cells) c.redo_insert.result
    (ap (λ t. Insert t c.in-Insert.cells) (to_z-of_z w64 c.in-Insert.time (search rules)) ∙ sym c.in-Insert.is) c.redo_insert.ensures in
    record { replayed = all.replayed; no_replay = all.no_replay; unchanged = all.unchanged; same = all.same }

pub returns-in-Delete : goal.returns-in-Delete
returns-in-Delete c =
    let all = says c.args.self.now c.redo_delete.new.self c.args.item (Delete c.in-Delete.path c.in-Delete.range)
    c.redo_delete.result (sym c.in-Delete.is) c.redo_delete.ensures in
    record { replayed = all.replayed; no_replay = all.no_replay; unchanged = all.unchanged; same = all.same }

pub returns-in-Freeze : goal.returns-in-Freeze
returns-in-Freeze c =
    let all = says c.args.self.now c.redo_freeze.new.self c.args.item
    (Freeze) c.redo_freeze.result
    (sym c.in-Freeze.is) c.redo_freeze.ensures in
    record { replayed = all.replayed; no_replay = all.no_replay; unchanged = all.unchanged; same = all.same }

pub returns-in-Flushed : goal.returns-in-Flushed
returns-in-Flushed c =
    let all = says c.args.self.now c.redo_flushed.new.self c.args.item
    (Flushed c.in-Flushed.sequence c.in-Flushed.unsequence) c.redo_flushed.result
    (sym c.in-Flushed.is) c.redo_flushed.ensures in
    record { replayed = all.replayed; no_replay = all.no_replay; unchanged = all.unchanged; same = all.same }

pub returns-in-Replaced : goal.returns-in-Replaced
returns-in-Replaced c =
    let all = says c.args.self.now c.redo_replaced.new.self c.args.item
    (Replaced c.in-Replaced.born c.in-Replaced.space c.in-Replaced.place c.in-Replaced.output
    c.in-Replaced.sequence c.in-Replaced.unsequence) c.redo_replaced.result
    (sym c.in-Replaced.is) c.redo_replaced.ensures in
    record { replayed = all.replayed; no_replay = all.no_replay; unchanged = all.unchanged; same = all.same }
