-- What is decided over memory is what each state that it shows needs.
use Rattle.std.proofs.Common.{◌≡◌, ◌≤◌, ℕ, suc, ◌<◌, Bool, true, false, cond, List, [], ◌∷◌, length, map}
use Rattle.std.proofs.Common.{Option, Some, None, find, refl, sym, ap, subst, arith, not}
use Rattle.std.proofs.lemmas.Bool.{false≢true}
use Rattle.std.specs.List.{AllZip}
use Rattle.std.specs.Option.{option_map}
use Rattle.std.specs.Prelude.{◌↔◌, IsSome, IsTrue}
use Rattle.tsdb_state.specs.Places.{is_path}
use Rattle.tsdb_model.specs.declared.command.Schema.{Schema}
use Rattle.tsdb_memory.proofs.Types.{there_alike}
use Rattle.tsdb_memory.specs.Fits.{HasNoPairPoint}
use Rattle.tsdb_memory.specs.StateOfMemory.{IsFrozenOf, IsMemoryOf, series_entry, number_of}
use Rattle.tsdb_memory.specs.Store as value
use Rattle.tsdb_redo.specs.Changes.{IsCreation, IsDeletion, IsFreezing}
use Rattle.tsdb_state.specs.Limit.{IsEmptyPair}
use Rattle.tsdb_base.specs.Limits.{end_of_numbers}
use Rattle.tsdb_state.specs.Records.{CanCreate, CanDelete, CanFreeze}
use Rattle.tsdb_state.specs.State.{SeriesEntry, StoreState}
use Rattle.tsdb_state.specs.Worlds.{is_live_at, type_at}

module _ (store : value.MemoryState) (state : StoreState) (is : IsMemoryOf store state) where
  pub creation : (schema : Schema) → IsCreation store schema ↔ CanCreate schema state
  creation schema =
      let same = there_alike store.series schema.path in (
        λ made. record {
          formed = made.formed;
          free = subst (λ (l : List SeriesEntry). type_at l schema.path ≡ None) (sym is.schemas) (same.0.0 made.free);
          stamp = subst (λ n. n < end_of_numbers) (sym is.stamp) made.stamp;
        },
        λ can. record {
          formed = can.formed;
          free = same.0.1 (subst (λ (l : List SeriesEntry). type_at l schema.path ≡ None) is.schemas can.free);
          stamp = subst (λ n. n < end_of_numbers) is.stamp can.stamp;
        },
      )

  pub deletion : (path : List ℕ) → IsDeletion store path ↔ CanDelete path state
  deletion path =
      let same = there_alike store.series path in (
        λ made. record {
          there = subst (λ (l : List SeriesEntry). IsSome (type_at l path)) (sym is.schemas) (same.1.0 made.there);
          stamp = subst (λ n. n < end_of_numbers) (sym is.stamp) made.stamp;
        },
        λ can. record {
          there = same.1.1 (subst (λ (l : List SeriesEntry). IsSome (type_at l path)) is.schemas can.there);
          stamp = subst (λ n. n < end_of_numbers) is.stamp can.stamp;
        },
      )

zip_lengths : {X Y : Type 0} (R : X → Y → Type 0) (xs : List X) (ys : List Y) → AllZip R xs ys → length xs ≡ length ys
zip_lengths R [] [] all = refl
zip_lengths R [] (y ∷ ys) all = absurd all
zip_lengths R (x ∷ xs) [] all = absurd all
zip_lengths R (x ∷ xs) (y ∷ ys) all = ap suc (zip_lengths R xs ys all.1)

-- as many pairs are frozen in memory as in the state
pub as_many_frozen : (store : value.MemoryState) (state : StoreState) → IsMemoryOf store state
    → length store.frozen ≡ length state.frozen
as_many_frozen store state is = zip_lengths (IsFrozenOf store.series) store.frozen state.frozen is.frozen

pub no_place : (store : value.MemoryState) (count : ℕ) → count ≡ length store.frozen → 2 ≤ count → IsFreezing store false
no_place store count same full = record {
  room = λ yes. absurd (false≢true yes);
  some = λ yes. absurd (false≢true yes);
  decides = λ state is. (
    λ yes. absurd (false≢true yes),
    λ can. absurd (omega (arith, can.room, as_many_frozen store state is, same, full)),
  );
}

pub unless_idle : (store : value.MemoryState) (count : ℕ) → count ≡ length store.frozen → count < 2 → (idle : Bool)
    → ((state : StoreState) → IsMemoryOf store state → IsTrue idle ↔ IsEmptyPair state.working)
    → (idle ≡ false → ¬ HasNoPairPoint store.working) → IsFreezing store (not idle)
unless_idle store count same few idle empty some = record {
  room = λ yes. omega (arith, same, few);
  some = λ yes. some (busy idle yes);
  decides = λ state is. by idle state is (empty state is);
}
  where
    busy : (idle : Bool) → not idle ≡ true → idle ≡ false
    busy true is = absurd (false≢true is)
    busy false is = refl

    by : (idle : Bool) (state : StoreState) → IsMemoryOf store state → (IsTrue idle ↔ IsEmptyPair state.working)
        → IsTrue (not idle) ↔ CanFreeze state
    by true state is none = (λ yes. absurd (false≢true yes), λ can. absurd (can.some (none.0 refl)))
    by false state is none = (
      λ yes. record {
        some = λ empty. false≢true (none.1 empty);
        room = omega (arith, same, few, as_many_frozen store state is);
      },
      λ can. refl,
    )
