use Rattle.std.proofs.Common.{◌≡◌, ℕ, List, take}
use Rattle.tsdb_memory.specs.Freezing.{HaveWatermarkPlaces}
use Rattle.tsdb_memtable.specs.Watermarks.{watermark}
use Rattle.tsdb_memory.proofs.freezing.reserve_places.Given as goal

abbrev pub invariant-loop-raise : goal.invariant-loop-raise
invariant-loop-raise l = record {
  watermarks : (device : List ℕ) → watermark l.watermarks device ≡ watermark l.initial.watermarks device;
  places : HaveWatermarkPlaces l.watermarks (take l.raise-index l.raises);
}
