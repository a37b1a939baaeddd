-- The names of the files of a store.
use Rattle.std.specs.Prelude.{ℕ, List, ◌++◌, codes}
use Rattle.std.specs.Fmt.{decimal}

-- the name of the file with this number
abbrev pub file_name : ℕ → List ℕ
file_name n = decimal n ++ codes ".tsfile"
