use Rattle.std.proofs.Common.{◌≡◌, map, take}
use Rattle.tsdb_pin.specs.declared.items.AskedSeries.{AskedSeries}
use Rattle.tsdb_pin.proofs.taking.marks_of.Given as goal

abbrev pub invariant-loop-asked : goal.invariant-loop-asked
invariant-loop-asked l = l.paths.items ≡ map (λ (asked : AskedSeries). asked.schema.path) (take l.asked-index l.all)
