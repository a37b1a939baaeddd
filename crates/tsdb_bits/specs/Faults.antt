-- What each fault says of the bytes.
use Rattle.std.specs.Prelude.{◌≡◌, ℕ, ◌+◌, ◌<◌, ◌≤◌, ◌^◌, ◌⊎◌, List, length, drop, All}
use Rattle.tsdb_bits.specs.Leb.{IsCutShort}
use Rattle.tsdb_bits.specs.Packing.{bytes_for, pack_bytes, HasFillingBit}
use Rattle.tsdb_bits.specs.declared.fault.BitFault.{BitFault}
use Rattle.tsdb_bits.specs.declared.fault.BitFault.TheVariants as bit_faults
use Rattle.tsdb_bits.specs.declared.fault.UnpackFault.{UnpackFault}
use Rattle.tsdb_bits.specs.declared.fault.UnpackFault.TheVariants as unpack_faults
use Rattle.tsdb_bits.specs.declared.leb.GroupFault.{GroupFault}
use Rattle.tsdb_bits.specs.declared.leb.GroupFault.TheVariants as group_faults

-- why no LEB128 spelling begins at a place
abbrev pub ExplainsLeb : List ℕ → ℕ → BitFault → Type 0
ExplainsLeb bytes start (bit_faults.Short at) = (at ≡ length bytes) × IsCutShort (drop start bytes)
ExplainsLeb bytes start (bit_faults.Overlong at) = (at ≡ start) × ¬ IsCutShort (drop start bytes)

-- the same, where the number is to begin at the first byte
abbrev pub ExplainsGroups : List ℕ → GroupFault → Type 0
ExplainsGroups bytes group_faults.Cut = IsCutShort bytes
ExplainsGroups bytes group_faults.Overlong = ¬ IsCutShort bytes

-- the first byte that no packing of so many bits has there: the last of its bytes, where a filling
-- bit is set, or else the byte behind it
abbrev pub IsSurplus : ℕ → List ℕ → ℕ → Type 0
IsSurplus bits bytes at = (HasFillingBit bits bytes × (at + 1 ≡ bytes_for bits))
    ⊎ (¬ HasFillingBit bits bytes × (bytes_for bits < length bytes) × (at ≡ bytes_for bits))

-- why bytes are no packing of so many bits
abbrev pub ExplainsPacking : ℕ → List ℕ → UnpackFault → Type 0
ExplainsPacking bits bytes (unpack_faults.Short at) = (length bytes < bytes_for bits) × (at ≡ length bytes)
ExplainsPacking bits bytes (unpack_faults.Overlong at) = (bytes_for bits ≤ length bytes) × IsSurplus bits bytes at
ExplainsPacking bits bytes unpack_faults.Memory = Unit {0}

-- the values are a list of so many numbers below 2 ^ width whose packing the bytes are
pub record IsPacking (width count : ℕ) (bytes values : List ℕ) : Type 0 where
  pub size : length values ≡ count
  pub below : All (λ value. value < 2 ^ width) values
  pub bytes_are : bytes ≡ pack_bytes width values

-- a fault but out of memory: no list is packed so
abbrev pub IsNoPacking : ℕ → ℕ → List ℕ → UnpackFault → Type 0
IsNoPacking width count bytes fault = (fault ≡ unpack_faults.Memory → ⊥) → (values : List ℕ)
    → IsPacking width count bytes values → ⊥
