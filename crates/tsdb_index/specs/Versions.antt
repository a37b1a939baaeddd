-- The versions of a file, and what they differ in.
use Rattle.std.specs.Prelude.{◌≡◌, ◌⊎◌, ◌==◌, ℕ, Bool}
use Rattle.tsdb_index.specs.declared.marks.TheConstants.{OLD_VERSION, VERSION}

-- the version that is written, and the one before
abbrev pub IsVersion : ℕ → Type 0
IsVersion version = (version ≡ OLD_VERSION) ⊎ (version ≡ VERSION)

-- whether the statistics of numbers have a sum in it
abbrev pub has_sums : ℕ → Bool
has_sums version = version == VERSION
