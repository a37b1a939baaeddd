use Rattle.std.proofs.Common.{◌≡◌, ℕ, List, drop}
use Rattle.tsdb_memory.specs.Freezing.{HaveWatermarkPlaces, raised_by}
use Rattle.tsdb_memtable.specs.Watermarks.{watermark}
use Rattle.tsdb_memory.proofs.freezing.raise_all.Given as goal

abbrev pub invariant-loop-raise : goal.invariant-loop-raise
invariant-loop-raise l = record {
  places : HaveWatermarkPlaces l.watermarks l.raises;
  watermarks : (device : List ℕ) → raised_by device (drop l.raise-index l.raises) (watermark l.watermarks device)
      ≡ raised_by device l.raises (watermark l.initial.watermarks device);
}
