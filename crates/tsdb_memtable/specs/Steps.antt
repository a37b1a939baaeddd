-- Private steps of the proofs about points.
use Rattle.std.specs.Prelude.{ℤ, Bool, not}
use Rattle.tsdb_base.specs.declared.point.Point.{Point}
use Rattle.tsdb_memtable.specs.Points.{is_before, is_after}

-- at the time or after it
abbrev pub is_from : ℤ → Point → Bool
is_from time point = not (is_before time point)

-- at the time or before it
abbrev pub is_until : ℤ → Point → Bool
is_until time point = not (is_after time point)
