-- The PLAIN spelling of a list: how many values there are, and then each value by itself.
use Rattle.std.specs.Prelude.{ℕ, List, ◌++◌, length}
use Rattle.std.specs.List.{flat_map}
use Rattle.tsdb_bits.specs.Leb.{leb}

-- `each` gives the bytes of one value
abbrev pub spelling : {A : Type 0} → (A → List ℕ) → List A → List ℕ
spelling each values = leb (length values) ++ flat_map each values
