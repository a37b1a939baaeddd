-- A row in a pair, and room.
use Rattle.std.specs.Prelude.{◌≡◌, ℕ, ℤ, List, [], ◌∷◌}
use Rattle.tsdb_base.specs.declared.ids.Space.{Space}
use Rattle.tsdb_log.specs.declared.record.CellRecord.{CellRecord}
use Rattle.tsdb_memory.specs.Store.{MemoryState}
use Rattle.tsdb_memtable.specs.Pairs.{Pair, change_points, points_of, put_in}
use Rattle.tsdb_memtable.specs.Watermarks.{watermark}

-- the cells of a row, each in the same space
abbrev pub put_row_cells : Space → ℤ → List CellRecord → Pair → Pair
put_row_cells space time [] pair = pair
put_row_cells space time (cell ∷ cells) pair = put_row_cells space time cells
    (change_points cell.series.0 (put_in space (record { time = time; value = cell.value })) pair)

-- nothing but room has changed
pub record ChangesRoom (old new : MemoryState) : Type 0 where
  pub series : new.series ≡ old.series
  pub stamp : new.stamp ≡ old.stamp
  pub watermarks : (device : List ℕ) → watermark new.watermarks device ≡ watermark old.watermarks device
  pub marks : new.marks.marks ≡ old.marks.marks
  pub frozen : new.frozen ≡ old.frozen
  pub working : (space : Space) (number : ℕ) → points_of space number new.working ≡ points_of space number old.working
