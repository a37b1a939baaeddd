use Rattle.std.proofs.Common.{◌≡◌, ◌∙◌, Ok, subst}
use Rattle.std.proofs.lemmas.Result.{err_from_is_err_and}
use Rattle.tsdb_log.specs.Spelling.{IsRecord}
use Rattle.tsdb_log.specs.declared.record.LogRecord.{LogRecord}
use Rattle.tsdb_memory.proofs.LogLemmas.Changed.{created_after, over_append, unchanged}
use Rattle.tsdb_memory.proofs.LogLemmas.Commanding.{logs_create, stops, takes_effect}
use Rattle.tsdb_memory.proofs.LogLemmas.Steps.{out_of_memory}
use Rattle.tsdb_memory.specs.Appends.{HasStopped, IsAppended}
use Rattle.tsdb_memory.specs.Changes.{HasCreated}
use Rattle.tsdb_memory.specs.Commands.{NeedsNothing, create_record}
use Rattle.tsdb_memory.specs.LogState.{memory_of}
use Rattle.tsdb_memory.specs.StateOfMemory.{IsMemoryOf}
use Rattle.tsdb_state.specs.Records.{after}
use Rattle.tsdb_memory.proofs.logged_memory.LoggedMemory.write_create.Goals as goal

pub returns-in_err-item-clause-command : goal.returns-in_err-item-clause-command
returns-in_err-item-clause-command g c =
    let p = err_from_is_err_and c.from_residual.result c.from_residual.ensures.1 in
    rw (p.1, p.2) (out_of_memory c.args.self.now c.prepare_create.new.self (create_record c.args.schema.now) NeedsNothing
    c.in_err-item.ensures.kept)

pub returns-in_err-item-2-clause-command : goal.returns-in_err-item-2-clause-command
returns-in_err-item-2-clause-command g c =
    let p = err_from_is_err_and c.from_residual-in_err-item-2.result c.from_residual-in_err-item-2.ensures.1 in
    rw (p.1, p.2) (stops c.args.self.now c.prepare_create.new.self c.log_record.new.self
    (create_record c.args.schema.now) NeedsNothing
    (logs_create c.args.self.now c.args.schema.now NeedsNothing c.requires.formed c.requires.free c.requires.stamp)
    c.in_ok-item.ensures.kept c.in_err-item-2.ensures.capacity c.in_err-item-2.ensures.memory
    c.in_err-item-2.field-0.0
    (subst (λ (item : LogRecord). HasStopped c.prepare_create.new.self c.log_record.new.self item
    c.in_err-item-2.field-0.0) c.in_ok-item.ensures.item c.in_err-item-2.ensures.end))

pub returns-clause-command : goal.returns-clause-command
returns-clause-command g c =
    let chain : create_record c.created_by.result ≡ create_record c.args.schema.now =
    c.created_by.ensures ∙ (c.in_ok-item-2.ensures.item ∙ c.in_ok-item.ensures.item) in
    takes_effect c.args.self.now c.prepare_create.new.self c.log_record.new.self (create_record c.args.schema.now) NeedsNothing
    (logs_create c.args.self.now c.args.schema.now NeedsNothing c.requires.formed c.requires.free c.requires.stamp)
    c.in_ok-item.ensures.kept c.in_ok-item-2.ensures.capacity c.in_ok-item-2.ensures.memory c.finish_create.new.self
    (subst (λ (item : LogRecord). IsRecord item × IsAppended c.prepare_create.new.self c.log_record.new.self item (Ok tt))
    c.in_ok-item.ensures.item c.in_ok-item-2.ensures.end)
    (λ state is needs. subst (λ (item : LogRecord). IsMemoryOf c.finish_create.new.self (after item state.store)) chain
    (c.finish_create.ensures.effect state.store is))

-- what is in memory

pub returns-in_err-item-clause-memory : goal.returns-in_err-item-clause-memory
returns-in_err-item-clause-memory g c = unchanged (HasCreated c.args.schema.now) (memory_of c.args.self.now)
    (memory_of c.prepare_create.new.self) c.from_residual.result c.from_residual.ensures.0 c.in_err-item.ensures.kept.room

pub returns-in_err-item-2-clause-memory : goal.returns-in_err-item-2-clause-memory
returns-in_err-item-2-clause-memory g c = unchanged (HasCreated c.args.schema.now) (memory_of c.args.self.now)
    (memory_of c.log_record.new.self) c.from_residual-in_err-item-2.result
    c.from_residual-in_err-item-2.ensures.0
    (over_append (memory_of c.args.self.now) (memory_of c.prepare_create.new.self) (memory_of c.log_record.new.self)
    c.in_err-item-2.ensures.memory c.in_ok-item.ensures.kept.room)

pub returns-clause-memory : goal.returns-clause-memory
returns-clause-memory g c =
    let room = over_append (memory_of c.args.self.now) (memory_of c.prepare_create.new.self)
    (memory_of c.log_record.new.self) c.in_ok-item-2.ensures.memory c.in_ok-item.ensures.kept.room in
    created_after (memory_of c.args.self.now) (memory_of c.log_record.new.self) c.finish_create.new.self
    c.created_by.result c.args.schema.now
    (c.created_by.ensures ∙ (c.in_ok-item-2.ensures.item ∙ c.in_ok-item.ensures.item)) room c.finish_create.ensures.made
