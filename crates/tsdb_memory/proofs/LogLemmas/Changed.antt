-- What a change makes of what is in memory, where memory was taken before it and its record was appended in between.
use Rattle.std.proofs.Common.{◌≡◌, ◌≢◌, ◌∙◌, ℕ, ℤ, ◌+◌, Bool, true, false, List, [], ◌∷◌, ◌++◌, None, Option, Some}
use Rattle.std.proofs.Common.{Result, Ok, Err, map, ap, refl, sym, subst}
use Rattle.std.proofs.lemmas.Bool.{false≢true}
use Rattle.std.specs.List.{filter}
use Rattle.std.specs.Ordering.{eq_by_cmp, nat_cmp}
use Rattle.std.specs.Result.{IsErr}
use Rattle.tsdb_base.specs.declared.ids.Space.{Space}
use Rattle.tsdb_base.specs.declared.ids.Stamp.{Stamp}
use Rattle.tsdb_base.specs.declared.point.Range.{Range}
use Rattle.tsdb_log.specs.declared.record.CellRecord.{CellRecord}
use Rattle.tsdb_marks.specs.Lists.{purge_list}
use Rattle.tsdb_memory.proofs.LogLemmas.Answering.{same_frozen}
use Rattle.tsdb_memory.proofs.Series.{erased_here, erased_there, itself, one_number}
use Rattle.tsdb_memory.specs.Answers.{answer_by}
use Rattle.tsdb_memory.specs.Changes.{HasCreated, HasDeleted, HasFrozen, HasInserted, KeepsSeries, MemoryAfter}
use Rattle.tsdb_memory.specs.Changes.{cut_series, points_with_row}
use Rattle.tsdb_memory.specs.Commands.{create_record}
use Rattle.tsdb_memory.specs.Least.{least_with}
use Rattle.tsdb_memory.specs.Rows.{ChangesRoom}
use Rattle.tsdb_memory.specs.StateOfMemory.{number_of}
use Rattle.tsdb_memory.specs.Store.{FrozenPair, MemoryState}
use Rattle.tsdb_memtable.specs.Pairs.{Pair, change_points, points_of, without_range}
use Rattle.tsdb_memtable.specs.Points.{is_outside}
use Rattle.tsdb_memtable.specs.Watermarks.{space_by}
use Rattle.tsdb_model.specs.declared.command.Schema.{Schema}
use Rattle.tsdb_outside.specs.declared.faults.StoreFault.{StoreFault}
use Rattle.tsdb_outside.specs.declared.faults.StoreFault.TheVariants as fault
use Rattle.tsdb_state.specs.Records.{add_mark}

-- nothing has changed; or room has, twice

pub room_itself : (store : MemoryState) → ChangesRoom store store
room_itself store = record {
  series = refl;
  stamp = refl;
  watermarks = λ device. refl;
  marks = refl;
  frozen = refl;
  working = λ space number. refl;
}

room_both : (old mid new : MemoryState) → ChangesRoom old mid → ChangesRoom mid new → ChangesRoom old new
room_both old mid new first second = record {
  series = second.series ∙ first.series;
  stamp = second.stamp ∙ first.stamp;
  watermarks = λ device. second.watermarks device ∙ first.watermarks device;
  marks = second.marks ∙ first.marks;
  frozen = second.frozen ∙ first.frozen;
  working = λ space number. second.working space number ∙ first.working space number;
}

-- the record was appended over memory as it was
pub over_append : (old mid after : MemoryState) → after ≡ mid → ChangesRoom old mid → ChangesRoom old after
over_append old mid after same room = subst (λ (s : MemoryState). ChangesRoom old s) (sym same) room

-- where it failed, nothing but room has changed
pub unchanged : (Has : MemoryState → MemoryState → Type 0) (old new : MemoryState) (result : Result (Unit {0}) StoreFault) → IsErr result
    → ChangesRoom old new → MemoryAfter Has old new (answer_by result)
unchanged Has old new (Ok done) is room = absurd (cc)
unchanged Has old new (Err fault.Failed) is room = room
unchanged Has old new (Err fault.Memory) is room = room

-- a series

same_schema : (a b : Schema) → create_record a ≡ create_record b → a ≡ b
same_schema a b same =
    let path : a.path ≡ b.path = cc in
    let data_type : a.data_type ≡ b.data_type = cc in
    let encoding : a.encoding ≡ b.encoding = cc in
    λ i. record { path = path i; data_type = data_type i; encoding = encoding i }

pub created_after : (old mid new : MemoryState) (made schema : Schema) → create_record made ≡ create_record schema
    → ChangesRoom old mid → HasCreated made mid new → HasCreated schema old new
created_after old mid new made schema same room has = record {
  series = has.series ∙ (λ i. room.series i ++ same_schema made schema same i ∷ []);
  stamp = has.stamp ∙ ap (λ n. n + 1) room.stamp;
  watermarks = λ device. has.watermarks device ∙ room.watermarks device;
  marks = has.marks ∙ room.marks;
  frozen = has.frozen ∙ room.frozen;
  working = λ space number. has.working space number ∙ room.working space number;
}

-- a row

pub inserted_after : (old mid new : MemoryState) (device : List ℕ) (time : ℤ) (cells : List CellRecord)
    → ChangesRoom old mid → HasInserted device time cells mid new → HasInserted device time cells old new
inserted_after old mid new device time cells room has = record {
  series = has.series ∙ room.series;
  stamp = has.stamp ∙ ap (λ n. n + 1) room.stamp;
  watermarks = λ other. has.watermarks other ∙ room.watermarks other;
  marks = has.marks ∙ room.marks;
  frozen = has.frozen ∙ room.frozen;
  working = λ space number. has.working space number
      ∙ (λ i. points_with_row (space_by (room.watermarks device i) time) time cells space number
      (room.working space number i));
}

-- a deletion

cut_same : (o : Option ℕ) (range : Range) (pair other : Pair)
    → ((space : Space) (number : ℕ) → points_of space number pair ≡ points_of space number other)
    → (space : Space) (number : ℕ)
    → points_of space number (cut_series o range pair) ≡ points_of space number (cut_series o range other)
cut_same None range pair other same space number = same space number
cut_same (Some n) range pair other same space number = by (eq_by_cmp nat_cmp n number) refl
  where
    apart : eq_by_cmp nat_cmp n number ≡ false → n ≢ number
    apart e = λ is. false≢true (sym e ∙ ap (eq_by_cmp nat_cmp n) (sym is) ∙ itself n)

    by : (b : Bool) → eq_by_cmp nat_cmp n number ≡ b
        → points_of space number (change_points n (without_range range) pair)
        ≡ points_of space number (change_points n (without_range range) other)
    by true e = subst (λ k. points_of space k (change_points n (without_range range) pair)
        ≡ points_of space k (change_points n (without_range range) other)) (one_number n number e)
        (erased_here space n range pair ∙ ap (filter (is_outside range)) (same space n)
        ∙ sym (erased_here space n range other))
    by false e = erased_there space n range pair number (apart e) ∙ same space number
        ∙ sym (erased_there space n range other number (apart e))

pub deleted_after : (old mid new : MemoryState) (path : List ℕ) (range : Range) (listed : Option Stamp)
    → ChangesRoom old mid → HasDeleted path range listed mid new → HasDeleted path range listed old new
deleted_after old mid new path range listed room has = record {
  series = has.series ∙ room.series;
  stamp = has.stamp ∙ ap (λ n. n + 1) room.stamp;
  watermarks = λ device. has.watermarks device ∙ room.watermarks device;
  marks = has.marks ∙ (λ i. purge_list (least_with listed (map (λ (pair : FrozenPair). pair.born) (room.frozen i)))
      (add_mark path range (room.stamp i + 1) (room.marks i)));
  frozen = has.frozen ∙ room.frozen;
  working = λ space number. has.working space number
      ∙ ap (λ (series : List Schema). points_of space number (cut_series (number_of series path) range mid.working))
      room.series
      ∙ cut_same (number_of old.series path) range mid.working old.working room.working space number;
}

-- a freeze

pub frozen_after : (old mid new : MemoryState) → mid.working ≡ old.working → ChangesRoom old mid → HasFrozen mid new
    → HasFrozen old new
frozen_after old mid new working room has = record {
  series = has.series ∙ room.series;
  stamp = has.stamp ∙ room.stamp;
  marks = has.marks ∙ room.marks;
  frozen = has.frozen ∙ same_frozen old mid room.frozen room.stamp working;
  working = has.working;
}

-- files that come and go

pub series_kept : (store : MemoryState) → KeepsSeries store store
series_kept store = record { series = refl; stamp = refl; watermarks = λ device. refl; working = refl }
