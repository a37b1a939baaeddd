use Rattle.std.proofs.Common.{take}
use Rattle.tsdb_pins.specs.Rows.{IsFirstTime, lists_of}
use Rattle.tsdb_pins.proofs.rows.first_time.Given as goal

abbrev pub invariant-loop-column : goal.invariant-loop-column
invariant-loop-column l = IsFirstTime (lists_of (take l.column-index l.columns)) l.first
