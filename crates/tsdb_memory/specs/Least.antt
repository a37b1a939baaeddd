-- The least born of some files and frozen pairs, which a purge looks at.
use Rattle.std.specs.Prelude.{◌≡◌, ℕ, ◌≤◌, cond, nat_lt, List, [], ◌∷◌, Option, Some, None}
use Rattle.std.specs.List.{AllByRecursion as Each}
use Rattle.tsdb_base.specs.declared.ids.Stamp.{Stamp}
use Rattle.tsdb_base.specs.Lists.{Among}

-- it is the least of these borns; there is none where there are none of these
abbrev pub IsLeastOf : Option Stamp → List ℕ → Type 0
IsLeastOf None borns = borns ≡ []
IsLeastOf (Some least) borns = Among least.0 borns × Each (λ born. least.0 ≤ born) borns

-- the lesser of the least so far and one born more
abbrev pub lesser_born : Option Stamp → ℕ → Stamp
lesser_born None born = record { 0 = born }
lesser_born (Some least) born = cond (nat_lt born least.0) (record { 0 = born }) least

-- the least of those so far and these
abbrev pub least_with : Option Stamp → List ℕ → Option Stamp
least_with least [] = least
least_with least (born ∷ borns) = least_with (Some (lesser_born least born)) borns
