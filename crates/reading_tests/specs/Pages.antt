-- Pages of which nothing is told.
use Rattle.std.specs.Prelude.{None}
use Rattle.tsdb_aggregate.specs.Loads.{Held}

-- a page of which nothing is told; a load of it costs 1
abbrev pub page : Held
page = record { points = None; cost = 1 }
