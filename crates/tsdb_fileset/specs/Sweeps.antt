-- What a sweep removes.
use Rattle.std.specs.Prelude.{◌≡◌, ℕ, ◌≤◌, Bool, true, false, not, ◌&&◌, nat_eq, List, [], ◌∷◌, ◌++◌}
use Rattle.std.specs.Prelude.{Option, None, Some, is_some}
use Rattle.std.specs.List.{filter, list_any}
use Rattle.tsdb_base.specs.declared.ids.FileNumber.{FileNumber}
use Rattle.tsdb_fileset.specs.declared.files.Outgoing.{Outgoing}
use Rattle.tsdb_fileset.specs.Files.{KeptFiles, outgoing_numbers}
use Rattle.tsdb_fileset.specs.Places.{KeptFile, Places, TakesAway, file_at, is_one_of, place_of_number}
use Rattle.tsdb_base.specs.Lists.{count}

-- it is the number, where there is one
abbrev pub is_that : ℕ → Option FileNumber → Bool
is_that number None = false
is_that number (Some other) = nat_eq number other.0

abbrev pub has_no_right : Option KeptFile → Bool
has_no_right None = false
has_no_right (Some file) = nat_eq file.rights 0

-- the file is kept, no right to read it is out, and it is not in doubt
abbrev pub is_free : List (Option FileNumber) → Places → Outgoing → Bool
is_free doubted places file = has_no_right (file_at (place_of_number file.number.0 places))
    && not (list_any (is_that file.number.0) doubted)

-- the numbers of those of the files that may go
abbrev pub free_numbers : List (Option FileNumber) → Places → List Outgoing → List ℕ
free_numbers doubted places files = outgoing_numbers (filter (is_free doubted places) files)

-- each number is of one file
abbrev pub AreOnce : List Outgoing → Type 0
AreOnce files = (number : ℕ) → count number (outgoing_numbers files) ≤ 1

-- there is a place for the file
abbrev pub has_place : Places → Outgoing → Bool
has_place places file = is_some (place_of_number file.number.0 places)

-- the outgoing files of these numbers leave, with their places; all else stays
pub record LeavesWithout (numbers : List ℕ) (old new : KeptFiles) : Type 0 where
  pub outgoing : new.outgoing ≡ filter (λ file. not (is_one_of numbers file.number.0)) old.outgoing
  pub places : TakesAway numbers old.places new.places
  pub sequence : new.sequence ≡ old.sequence
  pub unsequence : new.unsequence ≡ old.unsequence
  pub spare : new.spare ≡ old.spare
  pub store : new.store ≡ old.store

-- a file that may go could not be removed; those before it that may go are removed, and those behind it are not tried
pub record StopsSweepAt (doubted : List (Option FileNumber)) (places : Places) (outgoing : List Outgoing) : Type 0 where
  pub before : List Outgoing
  pub failed : Outgoing
  pub behind : List Outgoing
  pub are : outgoing ≡ before ++ failed ∷ behind
  pub free : is_free doubted places failed ≡ true

-- the numbers of the files that were removed, and of the one that could not be
abbrev pub tried_numbers : (doubted : List (Option FileNumber)) (places : Places) {outgoing : List Outgoing}
    → StopsSweepAt doubted places outgoing → List ℕ
tried_numbers doubted places stop = free_numbers doubted places (stop.before ++ stop.failed ∷ [])
