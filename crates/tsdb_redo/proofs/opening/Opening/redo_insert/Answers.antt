use Rattle.std.proofs.Common.{Err, ap, of_z, rules, subst, to_z}
use Rattle.std.proofs.lemmas.Int.{to_z-of_z}
use Rattle.std.proofs.lemmas.Result.{err_from_is_err_and}
use Rattle.std.specs.Int.{w64}
use Rattle.std.specs.Prelude.{true}
use Rattle.tsdb_log.specs.declared.record.LogRecord.TheVariants.{Insert}
use Rattle.tsdb_memory.specs.StateOfMemory.{IsMemoryOf}
use Rattle.tsdb_redo.proofs.Following.{names_nothing, passed_on, shows_after, without_replay}
use Rattle.tsdb_redo.proofs.RowFacts.{can_insert, row_differs}
use Rattle.tsdb_redo.specs.Rows.{HasNoInsert, TellsRoomFor, IsRowOf}
use Rattle.tsdb_redo.specs.declared.opening.Opening.{Opening}
use Rattle.tsdb_state.specs.Records.{inserted}
use Rattle.tsdb_redo.proofs.opening.Opening.redo_insert.Goals as goal

pub returns-in_err-device : goal.returns-in_err-device
returns-in_err-device c =
    let fault = err_from_is_err_and c.from_residual.result c.from_residual.ensures.1 in
    passed_on c.args.self.now (Insert c.args.time c.args.cells) c.from_residual.result fault.0 c.in_err-device.field-0.0
    fault.1 fault.2
    (λ none. without_replay c.args.self.now (Insert c.args.time c.args.cells)
    (λ recorded is. (subst (λ t. HasNoInsert c.args.self.now.memory t c.args.cells) (to_z-of_z w64 c.args.time (search rules))
    (subst (λ l. HasNoInsert c.args.self.now.memory (to_z w64 (of_z w64 c.args.time)) l) c.items.ensures
    (c.in_err-device.ensures.no_replay (ap Err none)))) recorded.store is.memory))

pub finish_insert-requires-clause-differ : goal.finish_insert-requires-clause-differ
finish_insert-requires-clause-differ c = row_differs c.args.self.now.memory c.in_ok-device.device c.args.cells
    (subst (λ l. IsRowOf c.args.self.now.memory c.in_ok-device.device l) c.items.ensures c.in_ok-device.ensures.row)

pub returns : goal.returns
returns c =
    let old : Opening = c.args.self.now in
    let new : Opening = record old { memory = c.finish_insert.new.self } in
    let time = to_z-of_z w64 c.args.time (search rules) in
    shows_after old new (Insert c.args.time c.args.cells)
    (λ recorded is. can_insert old.memory c.in_ok-device.device c.args.time c.args.cells recorded.store is.memory
    (subst (λ l. IsRowOf old.memory c.in_ok-device.device l) c.items.ensures c.in_ok-device.ensures.row)
    (subst (λ t. TellsRoomFor old.memory t c.args.cells true) time
    (subst (λ l. TellsRoomFor old.memory (to_z w64 (of_z w64 c.args.time)) l true) c.items.ensures c.in_ok-device.ensures.room)))
    (λ recorded is. subst (λ t. IsMemoryOf c.finish_insert.new.self (inserted t c.args.cells recorded.store)) time
    (c.finish_insert.ensures.effect recorded.store (c.in_ok-prepare_insert.ensures.same recorded.store is.memory)))
    (λ recorded is. record { sequence = is.files.sequence; unsequence = is.files.unsequence; least = is.files.least })
    (names_nothing old.named)
