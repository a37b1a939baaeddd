-- The limit of a slot.
use Rattle.std.specs.Prelude.{ℕ, ◌<◌}
use Rattle.tsdb_base.specs.Limits.{end_of_slot}

-- a slot may have this many bytes
abbrev pub FitsSlot : ℕ → Type 0
FitsSlot n = n < end_of_slot
