-- The spelling of a list of signed numbers by TS_2DIFF: their number, the first one, and of the
-- differences of neighbours the least one and by how much each is above it.
use Rattle.std.specs.Prelude.{ℕ, max, ℤ, ◌-ℤ◌, List, [], ◌∷◌, ◌++◌, length, map, fold}
use Rattle.std.specs.Int.{w64, int_wrap, int_min}
use Rattle.std.specs.Int.RustNames.{unsigned_abs}
use Rattle.tsdb_bits.specs.Leb.{leb}
use Rattle.tsdb_bits.specs.Zigzag.{zigzag}
use Rattle.tsdb_bits.specs.Packing.{binary_digits, pack_bytes}

-- each value less the one before it, modulo 2 ^ 64, as a signed number
unfoldable pub differences : ℤ → List ℤ → List ℤ
differences previous [] = []
differences previous (value ∷ values) = int_wrap w64 (value -ℤ previous) ∷ differences value values

-- the least of numbers
abbrev pub least : ℤ → List ℤ → ℤ
least first rest = fold int_min first rest

-- by how much each difference is above the least one
abbrev pub offsets : ℤ → List ℤ → List ℕ
offsets base ds = map (λ d. unsigned_abs (d -ℤ base)) ds

-- the binary digits of the greatest of numbers
abbrev pub offset_width : List ℕ → ℕ
offset_width numbers = binary_digits (fold max 0 numbers)

-- numbers behind their width
abbrev pub at_width : List ℕ → List ℕ
at_width numbers = offset_width numbers ∷ pack_bytes (offset_width numbers) numbers

-- the least difference and the offsets; nothing where there is no difference
unfoldable pub block : List ℤ → List ℕ
block [] = []
block (d ∷ ds) = leb (zigzag (least d ds)) ++ at_width (offsets (least d ds) (d ∷ ds))

-- what stands behind the number of values
unfoldable pub values_content : List ℤ → List ℕ
values_content [] = []
values_content (value ∷ values) = leb (zigzag value) ++ block (differences value values)

-- the spelling of a list
unfoldable pub spelling : List ℤ → List ℕ
spelling values = leb (length values) ++ values_content values
