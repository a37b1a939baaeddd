-- What is left of the files of a store that could not be opened.
use Rattle.std.specs.Prelude.{◌≡◌, ◌⊎◌, ℕ, List, ◌++◌, Option, None}
use Rattle.tsdb_state.specs.StoredEngine.{kept_bytes}
use Rattle.tsdb_base.specs.Lists.{Among}
use Rattle.tsdb_outside.specs.Files.{StoredFile}
use Rattle.tsdb_state.specs.Replays.{IsReplayOf}
use Rattle.tsdb_state.specs.Stores.{Recorded, store_steps}
use Rattle.tsdb_recover.specs.StoredFiles.{AreStored}
use Rattle.tsdb_state.specs.Records.{numbers_of}
use Rattle.tsdb_state.specs.State.{StoreState}

-- no list has the file of the number
abbrev pub IsUnlisted : StoreState → ℕ → Type 0
IsUnlisted store number = ¬ Among number (numbers_of (store.sequence ++ store.unsequence))

-- the log in these bytes has a replay, which does not list the file of the number
abbrev pub IsStray : List ℕ → ℕ → Type 0
IsStray bytes number =
    (recorded : Recorded) × IsReplayOf store_steps bytes recorded × IsUnlisted recorded.store number

-- no file may go
abbrev pub NoneMayGo : ℕ → Type 0
NoneMayGo number = ⊥

-- Each file is as it was, or it is gone, and is one of those that may go. There is no other.
pub record AreLeft (MayGo : ℕ → Type 0) (old new : List StoredFile) : Type 0 where
  pub are_stored : AreStored new
  pub each : (number : ℕ) → (kept_bytes new number ≡ kept_bytes old number)
      ⊎ ((kept_bytes new number ≡ None) × MayGo number)
