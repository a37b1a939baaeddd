use Rattle.std.proofs.Common.{◌≡◌, ◌+◌, ◌≤◌, take}
use Rattle.std.specs.Prelude.{sum_by}
use Rattle.std.specs.List.{AllZip}
use Rattle.tsdb_pins.specs.Clean.{TellPages, column_read}
use Rattle.tsdb_pins.specs.Reading.{AreColumnsTrue, IsValueRead, SeriesPages}
use Rattle.tsdb_pins.proofs.aggregating.aggregates.Given as goal

abbrev pub invariant-loop-column : goal.invariant-loop-column
invariant-loop-column g l =
    ((pages : SeriesPages) → AreColumnsTrue g.F.Right.ReadRight.file pages l.pin.columns
    → AllZip (IsValueRead g.F.Right.ReadRight.file pages l.pin.range l.pin.marks.marks) (take l.column-index l.column-items) l.values.items)
    × (g.F.Port.Counted.faults l.fn.port ≤ g.F.Port.Counted.faults l.port)
    × (g.F.Port.Port.store l.port ≡ g.F.Port.Port.store l.fn.port)
    × (l.fn.pages ≤ l.pages)
    × ((told : SeriesPages) → AreColumnsTrue g.F.Right.ReadRight.file told l.pin.columns → TellPages g.F.Right.ReadRight.file told l.pin.columns
    → l.pages ≤ l.fn.pages + sum_by (column_read g.F.Right.ReadRight.file told l.pin.range l.pin.marks.marks) (take l.column-index l.column-items))
