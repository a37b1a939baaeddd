use Rattle.std.proofs.Common.{◌≡◌, ℕ, ◌∙◌, List, Ok, subst}
use Rattle.std.proofs.lemmas.Result.{err_from_is_err_and}
use Rattle.tsdb_log.specs.Spelling.{IsRecord}
use Rattle.tsdb_log.specs.declared.record.LogRecord.{LogRecord}
use Rattle.tsdb_log.specs.declared.record.LogRecord.TheVariants.{Delete}
use Rattle.tsdb_memory.proofs.LogLemmas.Changed.{deleted_after, over_append, unchanged}
use Rattle.tsdb_memory.proofs.LogLemmas.Commanding.{logs_delete, stops, takes_effect}
use Rattle.tsdb_memory.proofs.LogLemmas.Steps.{out_of_memory}
use Rattle.tsdb_memory.specs.Appends.{HasStopped, IsAppended}
use Rattle.tsdb_memory.specs.Changes.{HasDeleted}
use Rattle.tsdb_memory.specs.Commands.{HasLeast}
use Rattle.tsdb_memory.specs.LogState.{memory_of}
use Rattle.tsdb_memory.specs.StateOfMemory.{IsMemoryOf}
use Rattle.tsdb_state.specs.Records.{after}
use Rattle.tsdb_memory.proofs.logged_memory.LoggedMemory.write_delete.Goals as goal

pub returns-in_err-item-clause-command : goal.returns-in_err-item-clause-command
returns-in_err-item-clause-command g c =
    let p = err_from_is_err_and c.from_residual.result c.from_residual.ensures.1 in
    rw (p.1, p.2) (out_of_memory c.args.self.now c.prepare_delete.new.self (Delete c.args.series.now c.args.range.now)
    (HasLeast c.args.listed) c.in_err-item.ensures.kept)

pub returns-in_err-item-2-clause-command : goal.returns-in_err-item-2-clause-command
returns-in_err-item-2-clause-command g c =
    let p = err_from_is_err_and c.from_residual-in_err-item-2.result c.from_residual-in_err-item-2.ensures.1 in
    rw (p.1, p.2) (stops c.args.self.now c.prepare_delete.new.self c.log_record.new.self
    (Delete c.args.series.now c.args.range.now) (HasLeast c.args.listed)
    (logs_delete c.args.self.now c.args.series.now c.args.range.now (HasLeast c.args.listed) c.requires.there
    c.requires.stamp)
    c.in_ok-item.ensures.kept c.in_err-item-2.ensures.capacity c.in_err-item-2.ensures.memory
    c.in_err-item-2.field-0.0
    (subst (λ (item : LogRecord). HasStopped c.prepare_delete.new.self c.log_record.new.self item
    c.in_err-item-2.field-0.0) c.in_ok-item.ensures.item c.in_err-item-2.ensures.end))

pub returns-clause-command : goal.returns-clause-command
returns-clause-command g c =
    let path : c.deleted_by.result ≡ c.args.series.now =
    c.deleted_by.ensures c.args.range.now c.args.series.now (c.in_ok-item-2.ensures.item ∙ c.in_ok-item.ensures.item) in
    takes_effect c.args.self.now c.prepare_delete.new.self c.log_record.new.self
    (Delete c.args.series.now c.args.range.now) (HasLeast c.args.listed)
    (logs_delete c.args.self.now c.args.series.now c.args.range.now (HasLeast c.args.listed) c.requires.there
    c.requires.stamp)
    c.in_ok-item.ensures.kept c.in_ok-item-2.ensures.capacity c.in_ok-item-2.ensures.memory c.finish_delete.new.self
    (subst (λ (item : LogRecord). IsRecord item × IsAppended c.prepare_delete.new.self c.log_record.new.self item (Ok tt))
    c.in_ok-item.ensures.item c.in_ok-item-2.ensures.end)
    (λ state is needs. subst (λ (path : List ℕ). IsMemoryOf c.finish_delete.new.self
    (after (Delete path c.args.range.now) state.store)) path (c.finish_delete.ensures.effect state.store is needs))

-- what is in memory

pub returns-in_err-item-clause-memory : goal.returns-in_err-item-clause-memory
returns-in_err-item-clause-memory g c = unchanged (HasDeleted c.args.series.now c.args.range.now c.args.listed) (memory_of c.args.self.now)
    (memory_of c.prepare_delete.new.self) c.from_residual.result c.from_residual.ensures.0 c.in_err-item.ensures.kept.room

pub returns-in_err-item-2-clause-memory : goal.returns-in_err-item-2-clause-memory
returns-in_err-item-2-clause-memory g c = unchanged (HasDeleted c.args.series.now c.args.range.now c.args.listed) (memory_of c.args.self.now)
    (memory_of c.log_record.new.self) c.from_residual-in_err-item-2.result
    c.from_residual-in_err-item-2.ensures.0
    (over_append (memory_of c.args.self.now) (memory_of c.prepare_delete.new.self) (memory_of c.log_record.new.self)
    c.in_err-item-2.ensures.memory c.in_ok-item.ensures.kept.room)

pub returns-clause-memory : goal.returns-clause-memory
returns-clause-memory g c =
    let path : c.deleted_by.result ≡ c.args.series.now =
    c.deleted_by.ensures c.args.range.now c.args.series.now (c.in_ok-item-2.ensures.item ∙ c.in_ok-item.ensures.item) in
    let room = over_append (memory_of c.args.self.now) (memory_of c.prepare_delete.new.self)
    (memory_of c.log_record.new.self) c.in_ok-item-2.ensures.memory c.in_ok-item.ensures.kept.room in
    deleted_after (memory_of c.args.self.now) (memory_of c.log_record.new.self) c.finish_delete.new.self
    c.args.series.now c.args.range.now c.args.listed room
    (subst (λ (path : List ℕ). HasDeleted path c.args.range.now c.args.listed (memory_of c.log_record.new.self)
    c.finish_delete.new.self) path c.finish_delete.ensures.made)
