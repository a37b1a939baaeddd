-- Creations and deletions that are answered by what is in memory.
use Rattle.std.proofs.Common.{◌≡◌, ℕ, true, false, cond, List, map, Option, Some, None, Ok, Err, refl, sym, ap, ◌∙◌}
use Rattle.std.specs.Prelude.{IsSome, is_some}
use Rattle.std.specs.FinMap.{get}
use Rattle.std.specs.Option.{option_map}
use Rattle.tsdb_memory.specs.MapAnswers.{FollowsMap, IsInsertAnswer, IsMapAnswer, IsReadable, IsTried}
use Rattle.tsdb_base.specs.declared.answers.Answer.{Answer}
use Rattle.tsdb_base.specs.declared.answers.Answer.TheVariants as answer
use Rattle.tsdb_base.specs.declared.point.Range.{Range}
use Rattle.tsdb_base.specs.declared.value.DataType.{DataType}
use Rattle.tsdb_log.specs.declared.record.LogRecord.TheVariants as item
use Rattle.tsdb_memory.proofs.LogLemmas.Series.{can_create, can_delete}
use Rattle.tsdb_memory.proofs.Types.{no_type_at, some_type_at}
use Rattle.tsdb_memory.specs.Answers.{IsCreateAnswer, IsDeleteAnswer}
use Rattle.tsdb_memory.specs.Commands.{create_record}
use Rattle.tsdb_model.specs.Apply.{accepted, reply_of}
use Rattle.tsdb_model.specs.Commands.{IsSchema}
use Rattle.tsdb_model.specs.World.{Series, World}
use Rattle.tsdb_model.specs.declared.command.Command.TheVariants as command
use Rattle.tsdb_model.specs.declared.command.Row.{Row}
use Rattle.tsdb_model.specs.declared.command.Schema.{Schema}
use Rattle.tsdb_model.specs.declared.reply.Reply.TheVariants.{Plain}
use Rattle.tsdb_memory.specs.StateOfMemory.{IsMemoryOf, series_entry, number_of}
use Rattle.tsdb_memory.specs.Store.{MemoryState}
use Rattle.tsdb_memory.proofs.RowLemmas.MapAnswers.{follows}
use Rattle.tsdb_memory.specs.RowReading.{IsRowRefused}
use Rattle.tsdb_state.proofs.Creating.{created_stands}
use Rattle.tsdb_state.proofs.Deleting.{deleted_stands}
use Rattle.tsdb_state.proofs.Freezing.{froze_keeps}
use Rattle.tsdb_state.specs.Records.{CanFreeze, after, froze}
use Rattle.tsdb_state.specs.State.{StoreState, ToldContents}
use Rattle.tsdb_state.specs.StoreOrder.{StoreInOrder}
use Rattle.tsdb_state.specs.Worlds.{StandsFor, type_at}

abbrev type_in : Option Series → Option DataType
type_in found = option_map (λ (series : Series). series.data_type) found

none_there : (found : Option Series) → type_in found ≡ None → is_some found ≡ false
none_there None is = refl
none_there (Some series) is = absurd cc

some_there : (found : Option Series) (shown : Option DataType) → type_in found ≡ shown → IsSome shown
    → is_some found ≡ true
some_there None None same some = absurd cc
some_there None (Some shown) same some = absurd cc
some_there (Some series) shown same some = refl

module _ (told : ToldContents) (store : MemoryState) (state : StoreState) (memory : IsMemoryOf store state)
    (world : World) (stands : StandsFor told state world) where
  absent : (path : List ℕ) → number_of store.series path ≡ None → is_some (get world path) ≡ false
  absent path none = none_there (get world path) (stands.types path ∙ no_type_at store state path memory none)

  present : (path : List ℕ) → IsSome (number_of store.series path) → is_some (get world path) ≡ true
  present path some = some_there (get world path) (type_at state.schemas path) (stands.types path)
      (some_type_at store state path memory some)

  create_done : (schema : Schema) → number_of store.series schema.path ≡ None
      → reply_of world (command.Create schema) ≡ Plain answer.Done
  create_done schema none = ap (λ b. Plain (cond b answer.Exists answer.Done)) (absent schema.path none)

  delete_done : (path : List ℕ) (range : Range) → IsSome (number_of store.series path)
      → reply_of world (command.Delete path range) ≡ Plain answer.Done
  delete_done path range some = ap (λ b. Plain (cond b answer.Done answer.NoPath)) (present path some)

  create_answers : (schema : Schema) (result : Answer) → IsCreateAnswer store schema.path result
      → IsMapAnswer world (command.Create schema) result
  create_answers schema answer.Done is = create_done schema is.0
  create_answers schema answer.NoPath is = absurd is
  create_answers schema answer.WrongType is = absurd is
  create_answers schema answer.Exists is =
      ap (λ b. Plain (cond b answer.Exists answer.Done)) (present schema.path is)
  create_answers schema answer.Device is = create_done schema is.0
  create_answers schema answer.Memory is = tt
  create_answers schema (answer.Full counter) is = create_done schema is.0

  delete_answers : (path : List ℕ) (range : Range) (result : Answer) → IsDeleteAnswer store path result
      → IsMapAnswer world (command.Delete path range) result
  delete_answers path range answer.Done is = delete_done path range is.0
  delete_answers path range answer.NoPath is =
      ap (λ b. Plain (cond b answer.Done answer.NoPath)) (absent path is)
  delete_answers path range answer.WrongType is = absurd is
  delete_answers path range answer.Exists is = absurd is
  delete_answers path range answer.Device is = delete_done path range is.0
  delete_answers path range answer.Memory is = tt
  delete_answers path range (answer.Full counter) is = delete_done path range is.0

module _ (told : ToldContents) (store : MemoryState) (state : StoreState) (memory : IsMemoryOf store state)
    (order : StoreInOrder told state) where
  create_leads : (schema : Schema) (formed : IsSchema schema) (result : Answer)
      → IsCreateAnswer store schema.path result → IsTried result
      → (world : World) → StandsFor told state world
      → StandsFor told (after (create_record schema) state) (accepted world (command.Create schema))
  create_leads schema formed answer.Done is tried world stands =
      created_stands told schema state order (can_create store state schema memory formed is.0 is.1) world stands
  create_leads schema formed answer.NoPath is tried world stands = absurd tried
  create_leads schema formed answer.WrongType is tried world stands = absurd tried
  create_leads schema formed answer.Exists is tried world stands = absurd tried
  create_leads schema formed answer.Device is tried world stands =
      created_stands told schema state order (can_create store state schema memory formed is.0 is.1) world stands
  create_leads schema formed answer.Memory is tried world stands = absurd tried
  create_leads schema formed (answer.Full counter) is tried world stands = absurd tried

  delete_leads : (path : List ℕ) (range : Range) (result : Answer) → IsDeleteAnswer store path result → IsTried result
      → (world : World) → StandsFor told state world
      → StandsFor told (after (item.Delete path range) state) (accepted world (command.Delete path range))
  delete_leads path range answer.Done is tried world stands =
      deleted_stands told path range state order (can_delete store state path memory is.0 is.1) world stands
  delete_leads path range answer.NoPath is tried world stands = absurd tried
  delete_leads path range answer.WrongType is tried world stands = absurd tried
  delete_leads path range answer.Exists is tried world stands = absurd tried
  delete_leads path range answer.Device is tried world stands =
      deleted_stands told path range state order (can_delete store state path memory is.0 is.1) world stands
  delete_leads path range answer.Memory is tried world stands = absurd tried
  delete_leads path range (answer.Full counter) is tried world stands = absurd tried

  pub creation_follows : (schema : Schema) (result : Answer) → IsSchema schema → IsCreateAnswer store schema.path result
      → FollowsMap told state (command.Create schema) (create_record schema) result
  creation_follows schema result formed is = record {
    answers = λ world stands. create_answers told store state memory world stands schema result is;
    leads = λ tried world stands. create_leads schema formed result is tried world stands;
  }

  pub deletion_follows : (path : List ℕ) (range : Range) (result : Answer) → IsDeleteAnswer store path result
      → FollowsMap told state (command.Delete path range) (item.Delete path range) result
  deletion_follows path range result is = record {
    answers = λ world stands. delete_answers told store state memory world stands path range result is;
    leads = λ tried world stands. delete_leads path range result is tried world stands;
  }

  -- a row that is read is accepted, and one that is refused is refused so by the map
  pub row_answers : (world : World) → StandsFor told state world → (device : List ℕ) (row : Row) (result : Answer)
      → IsInsertAnswer store device row.cells result → IsMapAnswer world (command.Insert device row) result
  row_answers world stands device row result is = by result is
    where
      accepted_row : IsReadable store device row.cells → reply_of world (command.Insert device row) ≡ Plain answer.Done
      accepted_row readable =
          follows told store state world device row (Ok readable.0) memory order stands readable.1

      refused_row : (refused : Answer) → IsRowRefused (map series_entry store.series) device row.cells refused
          → reply_of world (command.Insert device row) ≡ Plain refused
      refused_row refused is = follows told store state world device row (Err refused) memory order stands is

      by : (result : Answer) → IsInsertAnswer store device row.cells result
          → IsMapAnswer world (command.Insert device row) result
      by answer.Done is = accepted_row is.0
      by answer.NoPath is = refused_row answer.NoPath is
      by answer.WrongType is = refused_row answer.WrongType is
      by answer.Exists is = absurd is
      by answer.Device is = accepted_row is.0
      by answer.Memory is = tt
      by (answer.Full counter) is = accepted_row is.0

-- a freeze keeps the world
pub froze_stands : (told : ToldContents) (state : StoreState) (world : World) → StoreInOrder told state → CanFreeze state
    → StandsFor told state world → StandsFor told (froze state) world
froze_stands told state world order can stands =
    let keeps = froze_keeps told state order can in
    record {
      types = λ path. stands.types path ∙ sym (keeps.types path);
      values = λ place. stands.values place ∙ sym (keeps.values place);
    }
