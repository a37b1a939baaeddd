-- What a failed append leaves.
use Rattle.std.specs.Prelude.{◌≡◌, ℕ, List, ◌++◌}

-- the list has grown by a prefix of the bytes, and by nothing else
pub record GrewByPrefix (old bytes new : List ℕ) : Type 0 where
  pub prefix : List ℕ
  pub rest : List ℕ
  pub splits : bytes ≡ prefix ++ rest
  pub grown : new ≡ old ++ prefix
