-- The watermarks of devices, and the space that the watermark rule names.
use Rattle.std.specs.Prelude.{ℕ, ℤ, Bool, cond, List, Option, Some, None, IsSome, int_lt}
use Rattle.std.specs.Ordering.{nat_cmp, is_eq}
use Rattle.std.specs.Cmp.Lexicographic.{slice_cmp}
use Rattle.std.specs.Map.{lookup}
use Rattle.tsdb_base.specs.declared.ids.Space.{Space}
use Rattle.tsdb_base.specs.declared.ids.Space.TheVariants.{Sequence, Unsequence}

-- devices in order, each with its watermark or none yet
abbrev pub Watermarks : Type 0
Watermarks = List (List ℕ × Option ℤ)

-- whether the two are one device
abbrev pub is_device : List ℕ → List ℕ → Bool
is_device device other = is_eq (slice_cmp nat_cmp device other)

-- the entry's watermark; none without an entry
abbrev pub flat : Option (Option ℤ) → Option ℤ
flat None = None
flat (Some watermark) = watermark

-- the watermark of the device, where it has one
abbrev pub watermark : Watermarks → List ℕ → Option ℤ
watermark watermarks device = flat (lookup (is_device device) watermarks)

-- the device has a place
abbrev pub HasPlace : Watermarks → List ℕ → Type 0
HasPlace watermarks device = IsSome (lookup (is_device device) watermarks)

-- the greater of the two times
abbrev pub later_time : Option ℤ → ℤ → Option ℤ
later_time None time = Some time
later_time (Some last) time = cond (int_lt time last) (Some last) (Some time)

-- a point whose time is greater than the watermark, or whose device has none, is of the sequence space, every other of
-- the unsequence space
abbrev pub space_by : Option ℤ → ℤ → Space
space_by None time = Sequence
space_by (Some last) time = cond (int_lt last time) Sequence Unsequence
