-- The limits of a pair.
use Rattle.std.specs.Prelude.{ℕ}

-- the most bytes that a pair counts
abbrev pub max_bytes : ℕ
max_bytes = 18446744073709551615
