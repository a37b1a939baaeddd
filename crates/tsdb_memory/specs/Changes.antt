-- What each change makes of what is in memory, in every state and on every store, and what stays where none is done.
use Rattle.std.specs.Prelude.{◌≡◌, ℕ, ℤ, ◌+◌, ◌&&◌, Bool, true, false, cond, List, [], ◌∷◌, ◌++◌, map, None, Option, Some}
use Rattle.tsdb_base.specs.declared.answers.Answer.{Answer}
use Rattle.tsdb_base.specs.declared.answers.Answer.TheVariants.{Done, NoPath, WrongType, Exists, Device, Memory, Full}
use Rattle.tsdb_base.specs.declared.ids.Space.{Space}
use Rattle.tsdb_base.specs.declared.ids.Space.TheVariants.{Sequence, Unsequence}
use Rattle.tsdb_base.specs.declared.ids.Stamp.{Stamp}
use Rattle.tsdb_base.specs.declared.point.Point.{Point}
use Rattle.tsdb_base.specs.declared.point.Range.{Range}
use Rattle.tsdb_log.specs.declared.record.CellRecord.{CellRecord}
use Rattle.tsdb_marks.specs.Lists.{purge_list}
use Rattle.tsdb_memory.specs.Least.{least_with}
use Rattle.tsdb_memory.specs.Rows.{ChangesRoom}
use Rattle.tsdb_memory.specs.StateOfMemory.{number_of}
use Rattle.tsdb_memory.specs.Store.{MemoryState, frozen_with_working}
use Rattle.tsdb_memtable.specs.Pairs.{Pair, change_points, is_series, points_of, without_range}
use Rattle.tsdb_memtable.specs.Points.{with_point}
use Rattle.tsdb_memtable.specs.Watermarks.{space_by, watermark}
use Rattle.tsdb_model.specs.declared.command.Schema.{Schema}
use Rattle.tsdb_state.specs.Records.{add_mark}

-- one series more, with the next number, and one change more is counted
abbrev pub with_series : Schema → MemoryState → MemoryState
with_series schema store = record store { series = store.series ++ schema ∷ []; stamp = store.stamp + 1 }

-- the space is this one
abbrev pub is_space : Space → Space → Bool
is_space Sequence Sequence = true
is_space Sequence Unsequence = false
is_space Unsequence Sequence = false
is_space Unsequence Unsequence = true

-- the points of a series in a space, once the cells of a row were put into the one that is named first
abbrev pub points_with_row : Space → ℤ → List CellRecord → Space → ℕ → List Point → List Point
points_with_row into time [] space number points = points
points_with_row into time (cell ∷ cells) space number points = points_with_row into time cells space number
    (cond (is_series cell.series.0 number && is_space into space)
    (with_point (record { time = time; value = cell.value }) points) points)

-- the points of the series in the range left the pair
abbrev pub cut_series : Option ℕ → Range → Pair → Pair
cut_series None range pair = pair
cut_series (Some number) range pair = change_points number (without_range range) pair

-- The points of the series in the range left the working pair, a mark covers those elsewhere, and marks that cover
-- nothing went; one change more is counted. `listed` is the least born of the listed files.
abbrev pub without_points : List ℕ → Range → Option Stamp → MemoryState → MemoryState
without_points path range listed store = record store {
  stamp = store.stamp + 1;
  marks = record store.marks {
    marks = purge_list (least_with listed (map (λ pair. pair.born) store.frozen))
        (add_mark path range (store.stamp + 1) store.marks.marks);
  };
  working = cut_series (number_of store.series path) range store.working;
}

-- the series was created, and else only room has changed
abbrev pub HasCreated : Schema → MemoryState → MemoryState → Type 0
HasCreated schema old new = ChangesRoom (with_series schema old) new

-- the points were deleted, and else only room has changed
abbrev pub HasDeleted : List ℕ → Range → Option Stamp → MemoryState → MemoryState → Type 0
HasDeleted path range listed old new = ChangesRoom (without_points path range listed old) new

-- The cells of a row of the device are in the space that its watermark names, and one change more is counted; the rest
-- is as before.
pub record HasInserted (device : List ℕ) (time : ℤ) (cells : List CellRecord) (old new : MemoryState) : Type 0 where
  pub series : new.series ≡ old.series
  pub stamp : new.stamp ≡ old.stamp + 1
  pub watermarks : (other : List ℕ) → watermark new.watermarks other ≡ watermark old.watermarks other
  pub marks : new.marks.marks ≡ old.marks.marks
  pub frozen : new.frozen ≡ old.frozen
  pub working : (space : Space) (number : ℕ) → points_of space number new.working
      ≡ points_with_row (space_by (watermark old.watermarks device) time) time cells space number
      (points_of space number old.working)

-- the working pair stands behind the frozen ones, with the stamp as its born, and the new one has no point
pub record HasFrozen (old new : MemoryState) : Type 0 where
  pub series : new.series ≡ old.series
  pub stamp : new.stamp ≡ old.stamp
  pub marks : new.marks.marks ≡ old.marks.marks
  pub frozen : new.frozen ≡ frozen_with_working old
  pub working : new.working ≡ []

-- What is in memory after a change, by its answer: what the change makes of it where it is done, and else what it was,
-- but for room.
abbrev pub MemoryAfter : (MemoryState → MemoryState → Type 0) → MemoryState → MemoryState → Answer → Type 0
MemoryAfter Has old new Done = Has old new
MemoryAfter Has old new NoPath = ChangesRoom old new
MemoryAfter Has old new WrongType = ChangesRoom old new
MemoryAfter Has old new Exists = ChangesRoom old new
MemoryAfter Has old new Device = ChangesRoom old new
MemoryAfter Has old new Memory = ChangesRoom old new
MemoryAfter Has old new (Full counter) = ChangesRoom old new

-- The series, the stamp, the watermarks and the working pair are as before: files came or went, and with them a frozen
-- pair or marks may have left.
pub record KeepsSeries (old new : MemoryState) : Type 0 where
  pub series : new.series ≡ old.series
  pub stamp : new.stamp ≡ old.stamp
  pub watermarks : (device : List ℕ) → watermark new.watermarks device ≡ watermark old.watermarks device
  pub working : new.working ≡ old.working
