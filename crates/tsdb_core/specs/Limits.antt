-- The limit of a pair that a core may have.
use Rattle.std.specs.Prelude.{ℕ, ◌≤◌}
use Rattle.tsdb_base.specs.Limits.{max_pair_points}

-- from 1 to 1,000,000 points
pub record IsPairLimit (limit : ℕ) : Type 0 where
  pub some : 1 ≤ limit
  pub most : limit ≤ max_pair_points
