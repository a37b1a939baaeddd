-- Steps of the proofs: which run may come next.
use Rattle.std.specs.Prelude.{◌≡◌, ℕ, ◌^◌, ◌<◌, ◌≤◌, Bool, false}
use Rattle.enc_rle.specs.Spelling.{ValueRun}

-- a run of at most so many values whose value is not the last one, unless it is the first run
pub record MayFollowRun (room : ℕ) (is_first : Bool) (last : ℕ) (run : ValueRun) : Type 0 where
  pub some : 1 ≤ run.count
  pub fits : run.count ≤ room
  pub small : run.code < 2 ^ 64
  pub differs : is_first ≡ false → run.code ≡ last → ⊥
