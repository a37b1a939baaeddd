use Rattle.std.proofs.Common.{◌≡◌, ℤ, ◌∙◌, List, Ok, ap, of_z, rules, subst, to_z}
use Rattle.std.proofs.lemmas.Int.{to_z-of_z}
use Rattle.std.proofs.lemmas.Result.{err_from_is_err_and}
use Rattle.std.specs.Int.{w64}
use Rattle.tsdb_log.specs.Spelling.{IsRecord}
use Rattle.tsdb_log.specs.declared.record.CellRecord.{CellRecord}
use Rattle.tsdb_log.specs.declared.record.LogRecord.{LogRecord}
use Rattle.tsdb_log.specs.declared.record.LogRecord.TheVariants.{Insert}
use Rattle.tsdb_memory.proofs.LogLemmas.Changed.{inserted_after, over_append, unchanged}
use Rattle.tsdb_memory.proofs.LogLemmas.Commanding.{logs_insert, stops, takes_effect}
use Rattle.tsdb_memory.proofs.LogLemmas.Steps.{out_of_memory}
use Rattle.tsdb_memory.specs.Appends.{HasStopped, IsAppended}
use Rattle.tsdb_memory.specs.Changes.{HasInserted}
use Rattle.tsdb_memory.specs.Commands.{CanPut}
use Rattle.tsdb_memory.specs.LogState.{memory_of}
use Rattle.tsdb_memory.specs.StateOfMemory.{IsMemoryOf}
use Rattle.tsdb_state.specs.Records.{after}
use Rattle.tsdb_memory.proofs.logged_memory.LoggedMemory.write_insert.Goals as goal

pub returns-in_err-item-clause-command : goal.returns-in_err-item-clause-command
returns-in_err-item-clause-command g c =
    let p = err_from_is_err_and c.from_residual.result c.from_residual.ensures.1 in
    rw (p.1, p.2) (out_of_memory c.args.self.now c.prepare_insert.new.self (Insert c.args.time c.args.cells)
    (CanPut c.args.time c.args.cells) c.in_err-item.ensures.kept)

pub returns-in_err-item-2-clause-command : goal.returns-in_err-item-2-clause-command
returns-in_err-item-2-clause-command g c =
    let p = err_from_is_err_and c.from_residual-in_err-item-2.result c.from_residual-in_err-item-2.ensures.1 in
    let time : to_z w64 (of_z w64 c.args.time) ≡ c.args.time = to_z-of_z w64 c.args.time (search rules) in
    let is : c.in_ok-item.item ≡ Insert c.args.time c.args.cells =
    c.in_ok-item.ensures.item ∙ ap (λ (t : ℤ). Insert t c.args.cells) time in
    rw (p.1, p.2) (stops c.args.self.now c.prepare_insert.new.self c.log_record.new.self
    (Insert c.args.time c.args.cells) (CanPut c.args.time c.args.cells)
    (logs_insert c.args.self.now c.args.time c.args.cells)
    c.in_ok-item.ensures.kept c.in_err-item-2.ensures.capacity c.in_err-item-2.ensures.memory
    c.in_err-item-2.field-0.0
    (subst (λ (item : LogRecord). HasStopped c.prepare_insert.new.self c.log_record.new.self item
    c.in_err-item-2.field-0.0) is c.in_err-item-2.ensures.end))

pub returns-clause-command : goal.returns-clause-command
returns-clause-command g c =
    let time : to_z w64 (of_z w64 c.args.time) ≡ c.args.time = to_z-of_z w64 c.args.time (search rules) in
    let is : c.in_ok-item.item ≡ Insert c.args.time c.args.cells =
    c.in_ok-item.ensures.item ∙ ap (λ (t : ℤ). Insert t c.args.cells) time in
    let cells : c.inserted_by.result ≡ c.args.cells =
    c.inserted_by.ensures c.args.time c.args.cells (c.in_ok-item-2.ensures.item ∙ is) in
    takes_effect c.args.self.now c.prepare_insert.new.self c.log_record.new.self (Insert c.args.time c.args.cells)
    (CanPut c.args.time c.args.cells) (logs_insert c.args.self.now c.args.time c.args.cells)
    c.in_ok-item.ensures.kept c.in_ok-item-2.ensures.capacity c.in_ok-item-2.ensures.memory c.finish_insert.new.self
    (subst (λ (item : LogRecord). IsRecord item × IsAppended c.prepare_insert.new.self c.log_record.new.self item (Ok tt))
    is c.in_ok-item-2.ensures.end)
    (λ state shown needs. subst (λ (cells : List CellRecord). IsMemoryOf c.finish_insert.new.self
    (after (Insert c.args.time cells) state.store)) cells
    (subst (λ (t : ℤ). IsMemoryOf c.finish_insert.new.self (after (Insert t c.inserted_by.result) state.store)) time
    (c.finish_insert.ensures.effect state.store shown)))

-- what is in memory

pub returns-in_err-item-clause-memory : goal.returns-in_err-item-clause-memory
returns-in_err-item-clause-memory g c = unchanged (HasInserted c.args.device.now c.args.time c.args.cells) (memory_of c.args.self.now)
    (memory_of c.prepare_insert.new.self) c.from_residual.result c.from_residual.ensures.0 c.in_err-item.ensures.kept.room

pub returns-in_err-item-2-clause-memory : goal.returns-in_err-item-2-clause-memory
returns-in_err-item-2-clause-memory g c = unchanged (HasInserted c.args.device.now c.args.time c.args.cells) (memory_of c.args.self.now)
    (memory_of c.log_record.new.self) c.from_residual-in_err-item-2.result
    c.from_residual-in_err-item-2.ensures.0
    (over_append (memory_of c.args.self.now) (memory_of c.prepare_insert.new.self) (memory_of c.log_record.new.self)
    c.in_err-item-2.ensures.memory c.in_ok-item.ensures.kept.room)

pub returns-clause-memory : goal.returns-clause-memory
returns-clause-memory g c =
    let time : to_z w64 (of_z w64 c.args.time) ≡ c.args.time = to_z-of_z w64 c.args.time (search rules) in
    let is : c.in_ok-item.item ≡ Insert c.args.time c.args.cells =
    c.in_ok-item.ensures.item ∙ ap (λ (t : ℤ). Insert t c.args.cells) time in
    let cells : c.inserted_by.result ≡ c.args.cells =
    c.inserted_by.ensures c.args.time c.args.cells (c.in_ok-item-2.ensures.item ∙ is) in
    let room = over_append (memory_of c.args.self.now) (memory_of c.prepare_insert.new.self)
    (memory_of c.log_record.new.self) c.in_ok-item-2.ensures.memory c.in_ok-item.ensures.kept.room in
    inserted_after (memory_of c.args.self.now) (memory_of c.log_record.new.self) c.finish_insert.new.self
    c.args.device.now c.args.time c.args.cells room
    (subst (λ (cells : List CellRecord). HasInserted c.args.device.now c.args.time cells
    (memory_of c.log_record.new.self) c.finish_insert.new.self) cells
    (subst (λ (t : ℤ). HasInserted c.args.device.now t c.inserted_by.result
    (memory_of c.log_record.new.self) c.finish_insert.new.self) time c.finish_insert.ensures.made))
