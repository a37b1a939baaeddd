-- When a row fits the working pair, and what its counts say of a state.
use Rattle.std.specs.Prelude.{◌≡◌, ◌⊎◌, ℕ, ◌+◌, ◌≤◌, List, length, sum_by}
use Rattle.tsdb_base.specs.declared.ids.Space.TheVariants.{Sequence, Unsequence}
use Rattle.tsdb_model.specs.declared.command.Cell.{Cell}
use Rattle.tsdb_model.specs.declared.command.Literal.{Literal}
use Rattle.tsdb_model.specs.declared.command.Literal.TheVariants as literal
use Rattle.tsdb_model.specs.declared.command.Row.{Row}
use Rattle.tsdb_memtable.specs.Pairs.{Pair, byte_count, space_count}
use Rattle.tsdb_state.specs.Limit as limits
use Rattle.tsdb_base.specs.Limits.{max_pair_bytes}
use Rattle.tsdb_state.specs.State as state

-- how many bytes a literal counts, whatever the type of its series
abbrev pub literal_bytes : Literal → ℕ
literal_bytes (literal.Bool b) = 1
literal_bytes (literal.Int number) = 8
literal_bytes (literal.Text bytes) = length bytes

-- how many bytes a cell counts: 8 for its time, and those of its literal
abbrev pub cell_bytes : Cell → ℕ
cell_bytes cell = 8 + literal_bytes cell.value

abbrev pub row_bytes : List Cell → ℕ
row_bytes cells = sum_by cell_bytes cells

-- how many points a pair has in both spaces
abbrev pub pair_point_count : Pair → ℕ
pair_point_count pair = space_count Sequence pair + space_count Unsequence pair

-- the pair has no point
abbrev pub HasNoPairPoint : Pair → Type 0
HasNoPairPoint pair = (space_count Sequence pair ≡ 0) × (space_count Unsequence pair ≡ 0)

-- the row fits: the pair has no point, or stays within the limit of points and within that of bytes
abbrev pub FitsPair : ℕ → Row → Pair → Type 0
FitsPair limit row pair =
    HasNoPairPoint pair
    ⊎ ((pair_point_count pair + length row.cells ≤ limit) × (byte_count pair + row_bytes row.cells ≤ max_pair_bytes))

-- the pair of a state has as many points and bytes as the one in memory
pub record HasCounts (pair : Pair) (shown : state.PairContent) : Type 0 where
  pub points : limits.point_count shown ≡ pair_point_count pair
  pub bytes : limits.content_byte_count shown ≡ byte_count pair
