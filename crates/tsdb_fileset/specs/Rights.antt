-- Rights to read kept files.
use Rattle.std.specs.Prelude.{◌≡◌, ℕ, ◌+◌, ◌-◌, Option, None, Some, ⊤}
use Rattle.std.specs.Option.{option_map}
use Rattle.tsdb_fileset.specs.Places.{KeptFile, Places, place_of_number}
use Rattle.tsdb_outside.specs.Files.{NamedFile}

-- one right more, or less, to read the file is out
abbrev pub one_more : KeptFile → KeptFile
one_more file = record file { rights = file.rights + 1 }

abbrev pub one_less : KeptFile → KeptFile
one_less file = record file { rights = file.rights - 1 }

-- the file at the number's place, where it is there, has become another
abbrev pub HasChanged : (KeptFile → KeptFile) → ℕ → Places → Places → Type 0
HasChanged change number old new =
    place_of_number number new ≡ option_map (λ place. option_map change place) (place_of_number number old)

-- there is a right exactly where the file is kept, and it is one to read this file
abbrev pub IsRightTo : {R : Type 0} → (R → NamedFile) → Option KeptFile → Option R → Type 0
IsRightTo name None None = ⊤
IsRightTo name None (Some right) = ⊥
IsRightTo name (Some file) None = ⊥
IsRightTo name (Some file) (Some right) = name right ≡ file.name
