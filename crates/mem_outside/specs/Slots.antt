-- The bytes of a pair of slots.
use Rattle.tsdb_outside.specs.Disk.{Image}
use Rattle.mem_outside.specs.declared.record.SlotPair.{SlotPair}

abbrev pub pair_image : SlotPair → Image
pair_image pair = record { a = pair.a.items; b = pair.b.items }
