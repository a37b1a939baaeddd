-- A series that memory has is one that the state has.
use Rattle.std.proofs.Common.{◌≡◌, ℕ, List, None, sym, subst}
use Rattle.std.specs.Prelude.{IsSome, ◌<◌}
use Rattle.tsdb_model.specs.Commands.{IsSchema}
use Rattle.tsdb_model.specs.declared.command.Schema.{Schema}
use Rattle.tsdb_memory.proofs.Types.{no_type_at, some_type_at}
use Rattle.tsdb_memory.specs.StateOfMemory.{IsMemoryOf, number_of}
use Rattle.tsdb_memory.specs.Store.{MemoryState}
use Rattle.tsdb_base.specs.Limits.{end_of_numbers}
use Rattle.tsdb_state.specs.Records.{CanCreate, CanDelete}
use Rattle.tsdb_state.specs.State.{StoreState}

pub can_create : (store : MemoryState) (state : StoreState) (schema : Schema) → IsMemoryOf store state → IsSchema schema
    → number_of store.series schema.path ≡ None → store.stamp < end_of_numbers → CanCreate schema state
can_create store state schema memory formed free stamp = record {
  formed = formed;
  free = no_type_at store state schema.path memory free;
  stamp = subst (λ (n : ℕ). n < end_of_numbers) (sym memory.stamp) stamp;
}

pub can_delete : (store : MemoryState) (state : StoreState) (path : List ℕ) → IsMemoryOf store state
    → IsSome (number_of store.series path) → store.stamp < end_of_numbers → CanDelete path state
can_delete store state path memory there stamp = record {
  there = some_type_at store state path memory there;
  stamp = subst (λ (n : ℕ). n < end_of_numbers) (sym memory.stamp) stamp;
}
