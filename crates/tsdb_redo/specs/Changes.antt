-- When a record has a replay, as it is decided over what is in memory.
use Rattle.std.specs.Prelude.{◌≡◌, ◌↔◌, ℕ, ◌<◌, Bool, true, IsTrue, IsSome, List, None, length}
use Rattle.tsdb_model.specs.Commands.{IsSchema}
use Rattle.tsdb_model.specs.declared.command.Schema.{Schema}
use Rattle.tsdb_memory.specs.Fits.{HasNoPairPoint}
use Rattle.tsdb_memory.specs.StateOfMemory.{IsMemoryOf, number_of}
use Rattle.tsdb_memory.specs.Store.{MemoryState}
use Rattle.tsdb_base.specs.Limits.{end_of_numbers, max_frozen}
use Rattle.tsdb_state.specs.Records.{CanFreeze}
use Rattle.tsdb_state.specs.State.{StoreState}

-- the series is well-formed and not there, and one more command can be counted
pub record IsCreation (store : MemoryState) (schema : Schema) : Type 0 where
  pub formed : IsSchema schema
  pub free : number_of store.series schema.path ≡ None
  pub stamp : store.stamp < end_of_numbers

-- the series is there, and one more command can be counted
pub record IsDeletion (store : MemoryState) (path : List ℕ) : Type 0 where
  pub there : IsSome (number_of store.series path)
  pub stamp : store.stamp < end_of_numbers

-- it is true where each state that is shown can be frozen, and else none of them can
pub record IsFreezing (store : MemoryState) (can : Bool) : Type 0 where
  pub room : can ≡ true → length store.frozen < max_frozen
  pub some : can ≡ true → ¬ HasNoPairPoint store.working
  pub decides : (state : StoreState) → IsMemoryOf store state → IsTrue can ↔ CanFreeze state
