-- What each effect leaves in memory, as the state after its record has it.
use Rattle.std.proofs.Common.{◌≡◌, ℕ, suc, ◌+◌, ◌<◌, ◌≤◌, Bool, true, false, cond, List, [], ◌∷◌, ◌++◌}
use Rattle.std.proofs.Common.{length, map, Option, Some, None, refl, sym, ap, subst, ◌∙◌, arith, slice_get}
use Rattle.std.specs.Prelude.{All, int_lt}
use Rattle.std.specs.Cmp.Lexicographic.{slice_cmp}
use Rattle.std.specs.FinMap.{get-empty}
use Rattle.std.specs.List.{AllByRecursion as Each, AllZip}
use Rattle.std.specs.Option.{option_and_then}
use Rattle.std.specs.Ordering.{nat_cmp}
use Rattle.std.proofs.lemmas.List.{map-append}
use Rattle.std.proofs.lemmas.List.Elements.{All-filter, All-nil, All-push, All-tail, All-weaker}
use Rattle.tsdb_base.specs.Values.{type_of}
use Rattle.tsdb_base.specs.declared.ids.Space.{Space}
use Rattle.tsdb_base.specs.declared.ids.Space.TheVariants.{Sequence, Unsequence}
use Rattle.tsdb_base.specs.declared.ids.Stamp.{Stamp}
use Rattle.tsdb_base.specs.declared.point.Range.{Range}
use Rattle.tsdb_state.specs.Marks.{purge}
use Rattle.tsdb_state.specs.Places.{PointPlace, place_cmp}
use Rattle.tsdb_model.specs.declared.command.Schema.{Schema}
use Rattle.tsdb_marks.specs.Lists.{Marks, is_newer_than, purge_list}
use Rattle.tsdb_marks.specs.declared.marks.Mark.{Mark}
use Rattle.tsdb_memory.proofs.Borns.{frozen_borns, least_all, purge_least}
use Rattle.tsdb_memory.proofs.Found.{frozen_push, known_cut, pair_cut, pair_push, rising_cut}
use Rattle.tsdb_memory.proofs.Numbers.{length_push, once_push}
use Rattle.tsdb_memory.specs.Least.{IsLeastOf, least_with}
use Rattle.tsdb_memory.proofs.Typing.{all_both, typed_cut, typed_push}
use Rattle.tsdb_memory.proofs.InTurn.{later_in_turn, left_in_turn, none_in_turn}
use Rattle.tsdb_memory.specs.Model.{AreFrozenInTurn, HasKnownSeries, HasRisingPoints, HasTypedPoints, IsFormed, IsSoundMemory}
use Rattle.tsdb_memory.specs.Rows.{ChangesRoom}
use Rattle.tsdb_memory.specs.StateOfMemory.{IsFrozenOf, IsMemoryOf, IsPairOf, series_entry, file_borns, number_of, point_value_at}
use Rattle.tsdb_memory.specs.Store.{FrozenPair, SparePlaces, MemoryState}
use Rattle.tsdb_memtable.specs.Pairs.{change_points, points_of, without_range}
use Rattle.tsdb_base.specs.Points.{IsRising}
use Rattle.tsdb_base.specs.Limits.{end_of_numbers, max_frozen}
use Rattle.tsdb_state.specs.NewStore.{new_store}
use Rattle.tsdb_state.specs.Records.{Replacement, add_mark, created, cut_pair, flush_oldest, flushed, new_file}
use Rattle.tsdb_state.specs.Records.{purged, replace_in, replaced}
use Rattle.tsdb_state.specs.State.{StoreState}
use Rattle.tsdb_state.specs.State as state

at_most_next : (a n : ℕ) → a ≤ n → a ≤ n + 1
at_most_next a n h = omega (arith, h)

next_within : (n : ℕ) → n < end_of_numbers → n + 1 ≤ end_of_numbers
next_within n h = omega (arith, h)

abbrev UpTo : ℕ → Mark → Type 0
UpTo n mark = mark.version.0 ≤ n

-- a series joins

longer : (a b n : ℕ) → a ≡ b + 1 → a ≤ n → b ≤ n
longer a b n e h = omega (arith, e, h)

pub created_shown : (store : MemoryState) (series : List Schema) (places : SparePlaces) (schema : Schema) (shown : StoreState)
    → series ≡ store.series ++ schema ∷ [] → IsSoundMemory store → IsMemoryOf store shown
    → IsMemoryOf (record store { series = series; stamp = store.stamp + 1; places = places }) (created schema shown)
created_shown store series places schema shown joins sound is =
    subst
    (λ s. IsMemoryOf (record store { series = s; stamp = store.stamp + 1; places = places }) (created schema shown))
    (sym joins)
    (record {
      schemas = ap (λ s. s ++ series_entry schema ∷ []) is.schemas ∙ sym (map-append series_entry store.series (schema ∷ []));
      stamp = ap (λ n. n + 1) is.stamp;
      watermarks = is.watermarks;
      marks = is.marks;
      frozen = frozen_push store.series schema store.frozen shown.frozen sound.frozen_known is.frozen;
      working = pair_push store.series schema store.working shown.working sound.known is.working;
    })

pub created_sound : (store : MemoryState) (series : List Schema) (places : SparePlaces) (schema : Schema)
    → series ≡ store.series ++ schema ∷ [] → IsFormed schema → number_of store.series schema.path ≡ None
    → store.stamp < end_of_numbers → IsSoundMemory store
    → IsSoundMemory (record store { series = series; stamp = store.stamp + 1; places = places })
created_sound store series places schema joins formed free stamp sound =
    subst (λ s. IsSoundMemory (record store { series = s; stamp = store.stamp + 1; places = places })) (sym joins)
    (record {
      formed = All-push IsFormed store.series schema sound.formed formed;
      once = once_push store.series schema free sound.once;
      known = λ space n h. sound.known space n (shorter n h);
      rising = sound.rising;
      frozen_known = All-weaker (λ (f : FrozenPair). HasKnownSeries store.series f.pair)
          (λ (f : FrozenPair). HasKnownSeries (store.series ++ schema ∷ []) f.pair)
          (λ f known space n h. known space n (shorter n h)) store.frozen sound.frozen_known;
      typed = typed_push store.series schema store.working sound.known sound.typed;
      frozen_typed = all_both (λ (f : FrozenPair). HasKnownSeries store.series f.pair)
          (λ (f : FrozenPair). HasTypedPoints store.series f.pair)
          (λ (f : FrozenPair). HasTypedPoints (store.series ++ schema ∷ []) f.pair)
          (λ f known typed. typed_push store.series schema f.pair known typed) store.frozen sound.frozen_known
          sound.frozen_typed;
      frozen_rising = sound.frozen_rising;
      two = sound.two;
      in_turn = later_in_turn store.stamp store.frozen sound.in_turn;
      versions = All-weaker (UpTo store.stamp) (UpTo (store.stamp + 1))
          (λ m h. at_most_next m.version.0 store.stamp h) store.marks.marks sound.versions;
      ends = next_within store.stamp stamp;
    })
  where
    shorter : (n : ℕ) → length (store.series ++ schema ∷ []) ≤ n → length store.series ≤ n
    shorter n h = longer (length (store.series ++ schema ∷ [])) (length store.series) n
        (length_push store.series schema) h

-- a purge

pub purged_shown : (store : MemoryState) (shown : StoreState) (marks : Marks) (listed : Option Stamp)
    → IsMemoryOf store shown → IsLeastOf listed (file_borns shown)
    → marks.marks ≡ purge_list (least_with listed (map (λ pair. pair.born) store.frozen)) store.marks.marks
    → IsMemoryOf (record store { marks = marks }) (purged shown)
purged_shown store shown marks listed is least after = record {
  schemas = is.schemas;
  stamp = is.stamp;
  watermarks = is.watermarks;
  marks = (λ i. purge (file_borns shown ++ frozen_borns store.series store.frozen shown.frozen is.frozen i) (is.marks i))
      ∙ sym (purge_least (least_with listed (map (λ pair. pair.born) store.frozen))
      (file_borns shown ++ map (λ pair. pair.born) store.frozen) store.marks.marks
      (least_all listed (file_borns shown) (map (λ pair. pair.born) store.frozen) least))
      ∙ sym after;
  frozen = is.frozen;
  working = is.working;
}

purged_versions : (n : ℕ) (least : Option Stamp) (marks : List Mark) → All (UpTo n) marks
    → All (UpTo n) (purge_list least marks)
purged_versions n None marks all = All-nil (UpTo n)
purged_versions n (Some least) marks all = All-filter (is_newer_than least.0) (UpTo n) marks all

pub purged_sound : (store : MemoryState) (marks : Marks) (least : Option Stamp) → IsSoundMemory store
    → marks.marks ≡ purge_list least store.marks.marks → IsSoundMemory (record store { marks = marks })
purged_sound store marks least sound after = record {
  formed = sound.formed;
  once = sound.once;
  known = sound.known;
  rising = sound.rising;
  frozen_known = sound.frozen_known;
  typed = sound.typed;
  frozen_typed = sound.frozen_typed;
  frozen_rising = sound.frozen_rising;
  two = sound.two;
  in_turn = sound.in_turn;
  versions = subst (All (UpTo store.stamp)) (sym after)
      (purged_versions store.stamp least store.marks.marks sound.versions);
  ends = sound.ends;
}

-- a deletion

module _ (store : MemoryState) (n : ℕ) (path : List ℕ) (range : Range) (added : Marks) where
  abbrev pub cut_store : MemoryState
  cut_store = record store {
    stamp = store.stamp + 1;
    marks = added;
    working = change_points n (without_range range) store.working;
  }

  pub cut_shown : (shown : StoreState) → IsMemoryOf store shown → number_of store.series path ≡ Some n
      → added.marks ≡ add_mark path range (store.stamp + 1) store.marks.marks
      → IsMemoryOf cut_store (record shown {
        stamp = shown.stamp + 1;
        marks = add_mark path range (shown.stamp + 1) shown.marks;
        working = cut_pair path range shown.working;
      })
  cut_shown shown is number after = record {
    schemas = is.schemas;
    stamp = ap (λ n. n + 1) is.stamp;
    watermarks = is.watermarks;
    marks = (λ i. add_mark path range (is.stamp i + 1) (is.marks i)) ∙ sym after;
    frozen = is.frozen;
    working = pair_cut store.series store.working shown.working n path range number is.working;
  }

  added_versions : All (UpTo store.stamp) store.marks.marks
      → All (UpTo (store.stamp + 1)) (add_mark path range (store.stamp + 1) store.marks.marks)
  added_versions all = by (int_lt range.to range.from)
    where
      more : All (UpTo (store.stamp + 1)) store.marks.marks
      more = All-weaker (UpTo store.stamp) (UpTo (store.stamp + 1)) (λ m h. at_most_next m.version.0 store.stamp h)
          store.marks.marks all

      itself : (k : ℕ) → k ≤ k
      itself k = omega arith

      mark : Mark
      mark = record { path = path; from = range.from; to = range.to; version = record { 0 = store.stamp + 1 } }

      by : (b : Bool) → All (UpTo (store.stamp + 1)) (cond b store.marks.marks (store.marks.marks ++ record {
        path = path;
        from = range.from;
        to = range.to;
        version = record { 0 = store.stamp + 1 };
      } ∷ []))
      by true = more
      by false = All-push (UpTo (store.stamp + 1)) store.marks.marks (record {
        path = path;
        from = range.from;
        to = range.to;
        version = record { 0 = store.stamp + 1 };
      }) more (itself (store.stamp + 1))

  pub cut_sound : IsSoundMemory store → store.stamp < end_of_numbers
      → added.marks ≡ add_mark path range (store.stamp + 1) store.marks.marks → IsSoundMemory cut_store
  cut_sound sound stamp after = record {
    formed = sound.formed;
    once = sound.once;
    known = known_cut store.series store.working n range sound.known;
    rising = rising_cut store.working n range sound.rising;
    frozen_known = sound.frozen_known;
    typed = typed_cut store.series store.working n range sound.typed;
    frozen_typed = sound.frozen_typed;
    frozen_rising = sound.frozen_rising;
    two = sound.two;
    in_turn = later_in_turn store.stamp store.frozen sound.in_turn;
    versions = subst (All (UpTo (store.stamp + 1))) (sym after) (added_versions sound.versions);
    ends = next_within store.stamp stamp;
  }

-- a flush, and files that were replaced

pub map_same : {X Y Z : Type 0} (f : X → Y) (g : Y → Z) (xs : List X) → map g (map f xs) ≡ map (λ x. g (f x)) xs
map_same f g [] = refl
map_same f g (x ∷ xs) = ap (λ l. g (f x) ∷ l) (map_same f g xs)

flush_base : (store : MemoryState) (frozen : List FrozenPair) (oldest : FrozenPair) (places : SparePlaces) (shown : StoreState)
    (pairs : List state.FrozenContent) (first : state.FrozenContent) (sequence unsequence : List state.File)
    → store.frozen ≡ oldest ∷ frozen → shown.frozen ≡ first ∷ pairs → IsMemoryOf store shown
    → IsMemoryOf (record store { frozen = frozen; places = places })
    (record shown { frozen = pairs; sequence = sequence; unsequence = unsequence })
flush_base store frozen oldest places shown pairs first sequence unsequence had has is = record {
  schemas = is.schemas;
  stamp = is.stamp;
  watermarks = is.watermarks;
  marks = is.marks;
  frozen = both.1;
  working = is.working;
}
  where
    both : AllZip (IsFrozenOf store.series) (oldest ∷ frozen) (first ∷ pairs)
    both = subst (λ l. AllZip (IsFrozenOf store.series) l (first ∷ pairs)) had
        (subst (λ l. AllZip (IsFrozenOf store.series) store.frozen l) has is.frozen)

pub flushed_shown : (store : MemoryState) (frozen : List FrozenPair) (oldest : FrozenPair) (places : SparePlaces) (marks : Marks)
    (listed : Option Stamp) (shown : StoreState) (sequence unsequence : ℕ)
    → store.frozen ≡ oldest ∷ frozen → IsMemoryOf store shown
    → IsLeastOf listed (file_borns (flushed sequence unsequence shown))
    → marks.marks ≡ purge_list (least_with listed (map (λ pair. pair.born) frozen)) store.marks.marks
    → IsMemoryOf (record store { frozen = frozen; places = places; marks = marks }) (flushed sequence unsequence shown)
flushed_shown store frozen oldest places marks listed shown sequence unsequence had is least after =
    by shown.frozen refl least
  where
    none : AllZip (IsFrozenOf store.series) store.frozen [] → ⊥
    none h = subst (λ l. AllZip (IsFrozenOf store.series) l []) had h

    by : (pairs : List state.FrozenContent) → shown.frozen ≡ pairs
        → IsLeastOf listed (file_borns (flush_oldest sequence unsequence pairs shown))
        → IsMemoryOf (record store { frozen = frozen; places = places; marks = marks })
        (flush_oldest sequence unsequence pairs shown)
    by [] has low = absurd (none (subst (λ l. AllZip (IsFrozenOf store.series) store.frozen l) has is.frozen))
    by (first ∷ pairs) has low =
        purged_shown (record store { frozen = frozen; places = places }) (record shown {
          frozen = pairs;
          sequence = shown.sequence ++ new_file sequence first.born;
          unsequence = shown.unsequence ++ new_file unsequence first.born;
        }) marks listed
        (flush_base store frozen oldest places shown pairs first (shown.sequence ++ new_file sequence first.born)
        (shown.unsequence ++ new_file unsequence first.born) had has is) low after

pub replaced_shown : (store : MemoryState) (marks : Marks) (listed : Option Stamp) (shown : StoreState) (item : Replacement)
    → IsMemoryOf store shown → IsLeastOf listed (file_borns (replaced item shown))
    → marks.marks ≡ purge_list (least_with listed (map (λ pair. pair.born) store.frozen)) store.marks.marks
    → IsMemoryOf (record store { marks = marks }) (replaced item shown)
replaced_shown store marks listed shown item is least after =
    purged_shown store (replace_in item.space item shown) marks listed (files item.space) least after
  where
    files : (space : Space) → IsMemoryOf store (replace_in space item shown)
    files Sequence = record {
      schemas = is.schemas;
      stamp = is.stamp;
      watermarks = is.watermarks;
      marks = is.marks;
      frozen = is.frozen;
      working = is.working;
    }
    files Unsequence = record {
      schemas = is.schemas;
      stamp = is.stamp;
      watermarks = is.watermarks;
      marks = is.marks;
      frozen = is.frozen;
      working = is.working;
    }

-- a new store

abbrev pub new_memory : SparePlaces → MemoryState
new_memory places = record {
  series = [];
  stamp = 0;
  watermarks = [];
  marks = record { marks = []; spare = 0 };
  frozen = [];
  working = [];
  places = places;
}

pub new_shown : (places : SparePlaces) → IsMemoryOf (new_memory places) new_store
new_shown places = record {
  schemas = refl;
  stamp = refl;
  watermarks = λ device. get-empty (slice_cmp nat_cmp) device;
  marks = refl;
  frozen = tt;
  working = record {
    sequence = λ place. get-empty place_cmp place;
    unsequence = λ place. get-empty place_cmp place;
  };
}

pub nothing_rises : IsRising []
nothing_rises = λ i j d before within. absurd (omega (arith, within))

pub new_sound : (places : SparePlaces) → IsSoundMemory (new_memory places)
new_sound places = record {
  formed = All-nil IsFormed;
  once = λ number schema e. absurd (none schema e);
  known = known;
  rising = rising;
  frozen_known = All-nil (λ (f : FrozenPair). HasKnownSeries [] f.pair);
  typed = λ space number schema e. absurd (none schema e);
  frozen_typed = All-nil (λ (f : FrozenPair). HasTypedPoints [] f.pair);
  frozen_rising = All-nil (λ (f : FrozenPair). HasRisingPoints f.pair);
  two = omega arith;
  in_turn = none_in_turn;
  versions = All-nil (UpTo 0);
  ends = omega arith;
}
  where
    none : (schema : Schema) → None ≡ Some schema → ⊥
    none schema h = cc

    rising : HasRisingPoints []
    rising Sequence n = nothing_rises
    rising Unsequence n = nothing_rises

    known : HasKnownSeries [] []
    known Sequence n h = refl
    known Unsequence n h = refl

-- what is kept where only room has changed

pub roomy_shown : (old new : MemoryState) (shown : StoreState) → ChangesRoom old new → IsMemoryOf old shown
    → IsMemoryOf new shown
roomy_shown old new shown room is = record {
  schemas = is.schemas ∙ sym (ap (map series_entry) room.series);
  stamp = is.stamp ∙ sym room.stamp;
  watermarks = λ device. is.watermarks device ∙ sym (room.watermarks device);
  marks = is.marks ∙ sym room.marks;
  frozen = subst (λ l. AllZip (IsFrozenOf new.series) l shown.frozen) (sym room.frozen)
      (subst (λ s. AllZip (IsFrozenOf s) old.frozen shown.frozen) (sym room.series) is.frozen);
  working = subst (λ s. IsPairOf s new.working shown.working) (sym room.series) (record {
    sequence = λ place. is.working.sequence place ∙ sym (same Sequence place (number_of old.series place.path));
    unsequence = λ place. is.working.unsequence place ∙ sym (same Unsequence place (number_of old.series place.path));
  });
}
  where
    same : (space : Space) (place : PointPlace) (o : Option ℕ)
        → option_and_then (λ number. point_value_at place.time (points_of space number new.working)) o
        ≡ option_and_then (λ number. point_value_at place.time (points_of space number old.working)) o
    same space place None = refl
    same space place (Some n) = ap (point_value_at place.time) (room.working space n)

pub roomy_sound : (old new : MemoryState) → ChangesRoom old new → IsSoundMemory old → IsSoundMemory new
roomy_sound old new room sound = record {
  formed = subst (All IsFormed) (sym room.series) sound.formed;
  once = subst (λ s. (number : ℕ) (schema : Schema) → slice_get s number ≡ Some schema
      → number_of s schema.path ≡ Some number) (sym room.series) sound.once;
  known = subst (λ s. HasKnownSeries s new.working) (sym room.series)
      (λ space n h. room.working space n ∙ sound.known space n h);
  rising = λ space number. subst IsRising (sym (room.working space number)) (sound.rising space number);
  frozen_known = subst (λ l. All (λ (f : FrozenPair). HasKnownSeries new.series f.pair) l) (sym room.frozen)
      (subst (λ s. All (λ (f : FrozenPair). HasKnownSeries s f.pair) old.frozen) (sym room.series) sound.frozen_known);
  typed = subst (λ s. HasTypedPoints s new.working) (sym room.series)
      (λ space n schema at. subst (Each (λ point. type_of point.value ≡ schema.data_type)) (sym (room.working space n))
      (sound.typed space n schema at));
  frozen_typed = subst (λ l. All (λ (f : FrozenPair). HasTypedPoints new.series f.pair) l) (sym room.frozen)
      (subst (λ s. All (λ (f : FrozenPair). HasTypedPoints s f.pair) old.frozen) (sym room.series) sound.frozen_typed);
  frozen_rising = subst (All (λ (f : FrozenPair). HasRisingPoints f.pair)) (sym room.frozen) sound.frozen_rising;
  two = subst (λ (l : List FrozenPair). length l ≤ max_frozen) (sym room.frozen) sound.two;
  in_turn = subst (λ (l : List FrozenPair). AreFrozenInTurn new.stamp l) (sym room.frozen)
      (subst (λ n. AreFrozenInTurn n old.frozen) (sym room.stamp) sound.in_turn);
  versions = subst (λ n. All (UpTo n) new.marks.marks) (sym room.stamp)
      (subst (All (UpTo old.stamp)) (sym room.marks) sound.versions);
  ends = subst (λ n. n ≤ end_of_numbers) (sym room.stamp) sound.ends;
}

pub flushed_sound : (store : MemoryState) (frozen : List FrozenPair) (oldest : FrozenPair) (places : SparePlaces) (marks : Marks)
    (least : Option Stamp) → store.frozen ≡ oldest ∷ frozen → IsSoundMemory store
    → marks.marks ≡ purge_list least store.marks.marks
    → IsSoundMemory (record store { frozen = frozen; places = places; marks = marks })
flushed_sound store frozen oldest places marks least had sound after = record {
  formed = sound.formed;
  once = sound.once;
  known = sound.known;
  rising = sound.rising;
  frozen_known = All-tail (λ (f : FrozenPair). HasKnownSeries store.series f.pair) oldest frozen
      (subst (λ l. All (λ (f : FrozenPair). HasKnownSeries store.series f.pair) l) had sound.frozen_known);
  typed = sound.typed;
  frozen_typed = All-tail (λ (f : FrozenPair). HasTypedPoints store.series f.pair) oldest frozen
      (subst (λ l. All (λ (f : FrozenPair). HasTypedPoints store.series f.pair) l) had sound.frozen_typed);
  frozen_rising = All-tail (λ (f : FrozenPair). HasRisingPoints f.pair) oldest frozen
      (subst (All (λ (f : FrozenPair). HasRisingPoints f.pair)) had sound.frozen_rising);
  two = fewer (length frozen) (subst (λ (l : List FrozenPair). length l ≤ max_frozen) had sound.two);
  in_turn = left_in_turn store.stamp oldest frozen (subst (AreFrozenInTurn store.stamp) had sound.in_turn);
  versions = subst (All (UpTo store.stamp)) (sym after)
      (purged_versions store.stamp least store.marks.marks sound.versions);
  ends = sound.ends;
}
  where
    fewer : (n : ℕ) → suc n ≤ max_frozen → n ≤ max_frozen
    fewer n h = omega (arith, h)
