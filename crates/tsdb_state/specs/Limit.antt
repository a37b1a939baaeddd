-- The limit of a pair.
use Rattle.std.specs.Prelude.{◌≡◌, ◌⊎◌, ℕ, ◌+◌, ◌≤◌, ℤ, List, sum_by}
use Rattle.std.specs.FinMap.{empty, entries, len}
use Rattle.tsdb_base.specs.declared.value.Value.{Value}
use Rattle.tsdb_state.specs.Layers.{HasPoint}
use Rattle.tsdb_state.specs.Places.{Content, PointPlace}
use Rattle.tsdb_memtable.specs.Points.{value_bytes}
use Rattle.tsdb_path.specs.Nodes.{device_of}
use Rattle.tsdb_base.specs.Limits.{max_pair_bytes, max_pair_points}
use Rattle.tsdb_state.specs.State.{PairContent}
use Rattle.tsdb_state.specs.Views.{pair_layers}

abbrev pub empty_pair : PairContent
empty_pair = record { sequence = empty; unsequence = empty }

abbrev pub IsEmptyPair : PairContent → Type 0
IsEmptyPair pair = (pair.sequence ≡ empty) × (pair.unsequence ≡ empty)

-- how many points are in both spaces
abbrev pub point_count : PairContent → ℕ
point_count pair = len pair.sequence + len pair.unsequence

-- how many bytes they count: 8 for each time, and those of each value
abbrev pub content_bytes : Content → ℕ
content_bytes content = sum_by (λ entry. 8 + value_bytes entry.1) (entries content)

abbrev pub content_byte_count : PairContent → ℕ
content_byte_count pair = content_bytes pair.sequence + content_bytes pair.unsequence

-- the points are what is left of one row, which is of one device, at one time
pub record IsOneRow (pair : PairContent) : Type 0 where
  pub device : List ℕ
  pub time : ℤ
  pub points : (place : PointPlace) (value : Value) → HasPoint (pair_layers pair) place value
      → (device_of place.path ≡ device) × (place.time ≡ time)

-- within the limits of a pair of several rows
pub record IsPairWithinLimits (pair : PairContent) : Type 0 where
  pub points : point_count pair ≤ max_pair_points
  pub bytes : content_byte_count pair ≤ max_pair_bytes

-- the pair has one row at most, or is within the limits
abbrev pub IsWithinPairLimit : PairContent → Type 0
IsWithinPairLimit pair = IsEmptyPair pair ⊎ (IsOneRow pair ⊎ IsPairWithinLimits pair)
