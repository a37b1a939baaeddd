-- What is told of files that an engine does not have is free, also where a record is in doubt.
use Rattle.std.proofs.Common.{◌≡◌, ℕ, List, [], ◌∷◌, ◌++◌, Option, None, Some, inl, inr, refl, sym, subst, ◌∙◌}
use Rattle.std.specs.List.{AllByRecursion as Each}
use Rattle.std.specs.Prelude.{IfSome}
use Rattle.tsdb_state.proofs.ImageLemmas.After.{listed_after}
use Rattle.tsdb_base.proofs.Lists.{each_among, each_left, each_right}
use Rattle.tsdb_base.specs.Lists.{Among}
use Rattle.tsdb_state.specs.Places.{PointPlace}
use Rattle.tsdb_log.specs.declared.record.LogRecord.{LogRecord}
use Rattle.tsdb_log.specs.declared.record.LogRecord.TheVariants.{Create, Delete, Flushed, Freeze, Insert, Replaced}
use Rattle.tsdb_log.specs.declared.record.LogRecord.TheVariants.{Snapshot}
use Rattle.tsdb_state.proofs.EngineRecords.{settle_step}
use Rattle.tsdb_state.proofs.Told.{order_same, store_same, value_same}
use Rattle.tsdb_state.specs.Order.{DoubtInOrder, FollowsWorld, IsInOrder, all_files}
use Rattle.tsdb_state.specs.Records.{after, names, numbers_of}
use Rattle.tsdb_state.specs.State.{EngineState, KnownFiles, File, StoreState, ToldContents}
use Rattle.tsdb_state.specs.Steps.{settled}
use Rattle.tsdb_state.specs.Worlds.{KeepsWorld, value_at_place}

module _ (told other : ToldContents) where
  abbrev pub Same : File → Type 0
  Same file = told file.number ≡ other file.number

  -- a file with the number of one of these
  same_number : (files : List File) → Each Same files → (n : ℕ) → Among n (numbers_of files) → told n ≡ other n
  same_number [] same n among = absurd among
  same_number (file ∷ files) same n (inl is) = subst (λ m. told m ≡ other m) is same.0
  same_number (file ∷ files) same n (inr among) = same_number files same.1 n among

  abbrev Listed : StoreState → Type 0
  Listed store = Each Same (store.sequence ++ store.unsequence)

  values : (store : StoreState) → Listed store → (place : PointPlace) → value_at_place told store place ≡ value_at_place other store
      place
  values store same = value_same told other store (each_left Same store.sequence store.unsequence same)
      (each_right Same store.sequence store.unsequence same)

  keeps : (old new : StoreState) → Listed old → Listed new → KeepsWorld told old new → KeepsWorld other old new
  keeps old new same_old same_new world = record {
    types = world.types;
    values = λ place. sym (values new same_new place) ∙ world.values place ∙ values old same_old place;
  }

  follows : (item : LogRecord) (store : StoreState) → Listed store → Listed (after item store)
      → FollowsWorld told item store → FollowsWorld other item store
  follows (Create path data_type encoding) store same later world = tt
  follows (Insert time cells) store same later world = tt
  follows (Delete path range) store same later world = tt
  follows Freeze store same later world = keeps store (after Freeze store) same later world
  follows (Flushed sequence unsequence) store same later world =
      keeps store (after (Flushed sequence unsequence) store) same later world
  follows (Replaced born space place output sequence unsequence) store same later world =
      keeps store (after (Replaced born space place output sequence unsequence) store) same later world
  follows (Snapshot snapshot) store same later world = keeps store (after (Snapshot snapshot) store) same later world

  -- a record in doubt names files that are on their way out
  doubt_same : (named : List ℕ) (store : StoreState) (outgoing : List File) (doubt : Option LogRecord) → Listed store
      → Each Same outgoing → IfSome doubt (DoubtInOrder told named store outgoing)
      → IfSome doubt (DoubtInOrder other named store outgoing)
  doubt_same named store outgoing None same leaving order = tt
  doubt_same named store outgoing (Some item) same leaving order = record {
    can = order.can;
    order = store_same told other (after item store)
        (each_left Same (after item store).sequence (after item store).unsequence later)
        (each_right Same (after item store).sequence (after item store).unsequence later) order.order;
    world = follows item store same later order.world;
    kept = order.kept;
  }
    where
      later : Listed (after item store)
      later = listed_after Same item store (λ n among born. same_number outgoing leaving n
          (each_among (λ number. Among number (numbers_of outgoing)) (names item) n order.kept among)) same

  pub told_elsewhere : (known entries : KnownFiles) (named : List ℕ) (state : EngineState)
      → IsInOrder told known named state → Each Same (all_files state)
      → Each (λ file. known file.number ≡ entries file.number) (state.store.sequence ++ state.store.unsequence)
      → IsInOrder other entries named state
  told_elsewhere known entries named state order same as_known =
      let listed = each_left Same (state.store.sequence ++ state.store.unsequence) state.outgoing same in
      let without = order_same told other known entries named (settled state)
      (settle_step told known named state order) refl listed as_known in
      record {
        store = without.store;
        flushes = without.flushes;
        compactions = without.compactions;
        numbers = without.numbers;
        entries = without.entries;
        rights = without.rights;
        room = without.room;
        doubt = doubt_same named state.store state.outgoing state.doubt listed
            (each_right Same (state.store.sequence ++ state.store.unsequence) state.outgoing same) order.doubt;
      }
