-- Points in order of time.
use Rattle.std.specs.Prelude.{◌<ℤ◌, List, AllPairs}
use Rattle.tsdb_base.specs.declared.point.Point.{Point}

-- times rise from point to point
abbrev pub IsRising : List Point → Type 0
IsRising points = AllPairs (λ a b. a.time <ℤ b.time) points
