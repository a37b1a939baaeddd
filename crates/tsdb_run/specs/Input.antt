-- What is taken from a source.
use Rattle.std.specs.Prelude.{ℕ, ◌+◌, ◌≤◌, List, Option, length}
use Rattle.std.specs.Io.KnownBytes.{Consumes, IsAtEnd}
use Rattle.tsdb_base.specs.Limits.{max_script_bytes}

-- a prefix of what was left, of at most one byte more than a script may have
abbrev pub TakesPrefix : Option (List ℕ) → Option (List ℕ) → Type 0
TakesPrefix old new = (prefix : List ℕ) × (length prefix ≤ max_script_bytes + 1) × Consumes old new prefix

-- these bytes, and the source to its end, where a script may be so long
pub record TakesScript (old new : Option (List ℕ)) (bytes : List ℕ) : Type 0 where
  pub taken : Consumes old new bytes
  pub short : length bytes ≤ max_script_bytes + 1
  pub whole : length bytes ≤ max_script_bytes → IsAtEnd new
