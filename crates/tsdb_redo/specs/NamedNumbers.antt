-- The numbers that records have named.
use Rattle.std.specs.Prelude.{◌≡◌, ◌≢◌, ◌⊎◌, ◌↔◌, ℕ, ◌<◌, ◌≤◌, List, [], Option, Some, None}
use Rattle.std.specs.List.{AllByRecursion as Each}
use Rattle.std.specs.Map.{lookup}
use Rattle.std.specs.Ordering.{is_eq, nat_cmp}
use Rattle.tsdb_base.specs.Lists.{Among, EachPair}
use Rattle.tsdb_base.specs.Limits.{end_of_numbers}

-- runs of numbers, each from its first number to its last, and the number that was named last
pub record Named : Type 0 where
  pub runs : List (ℕ × ℕ)
  pub newest : Option ℕ

abbrev pub none_named : Named
none_named = record { runs = []; newest = None }

-- the last number of the run that begins with this one, where one does
abbrev pub run_from : ℕ → List (ℕ × ℕ) → Option ℕ
run_from first runs = lookup (λ key. is_eq (nat_cmp first key)) runs

-- a run has the number
pub record IsInRun (runs : List (ℕ × ℕ)) (number : ℕ) : Type 0 where
  pub first : ℕ
  pub last : ℕ
  pub is_run : run_from first runs ≡ Some last
  pub from : first ≤ number
  pub to : number ≤ last

-- a record has named the number
abbrev pub IsNamed : Named → ℕ → Type 0
IsNamed named number = IsInRun named.runs number ⊎ (named.newest ≡ Some number)

-- these numbers are named too now, and no others
abbrev pub NamesMore : List ℕ → Named → Named → Type 0
NamesMore numbers old new = (number : ℕ) → IsNamed new number ↔ (Among number numbers ⊎ IsNamed old number)

-- numbers of new files: none of them is named, and they differ
pub record CanName (named : Named) (numbers : List ℕ) : Type 0 where
  pub within : Each (λ number. number < end_of_numbers) numbers
  pub unnamed : Each (λ number. ¬ IsNamed named number) numbers
  pub differ : EachPair (λ number other. number ≢ other) numbers

-- it is the greatest number that is named; 0 where none is
pub record IsGreatest (named : Named) (number : ℕ) : Type 0 where
  pub reaches : (other : ℕ) → IsNamed named other → other ≤ number
  pub has : (number ≡ 0) ⊎ IsNamed named number
