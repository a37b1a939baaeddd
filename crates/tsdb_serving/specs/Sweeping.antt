-- What a sweep behind a command leaves.
use Rattle.std.specs.Prelude.{◌≡◌, ◌≤◌, ℕ, List, [], Option, false}
use Rattle.std.specs.List.{AllByRecursion as Each}
use Rattle.std.specs.Option.{IsSomeAnd}
use Rattle.tsdb_base.specs.Causes.{Rose}
use Rattle.tsdb_core.specs.Core.{files_of, limit_of, logged_of, next_of}
use Rattle.tsdb_core.specs.FilesetFiles.{KeptFiles, kept_file}
use Rattle.tsdb_core.specs.declared.engine.Core.{Core}
use Rattle.tsdb_fileset.specs.declared.files.Outgoing.{Outgoing}
use Rattle.tsdb_frames.specs.Frames.{is_in_doubt}
use Rattle.tsdb_memory.specs.LogState.{log_of}
use Rattle.tsdb_model.specs.State as plain
use Rattle.tsdb_outside.specs.Files.{StoredFile}
use Rattle.tsdb_outside.specs.declared.disk.Disk as disk
use Rattle.tsdb_outside.specs.declared.faults.Counted as counted
use Rattle.tsdb_serving.specs.Flushing.{faults_under}
use Rattle.tsdb_serving.specs.Serving.{IsServing}
use Rattle.tsdb_serving.specs.declared.loan.Loan.{Loan}

-- a right to read the file is out
abbrev pub IsRead : KeptFiles → Outgoing → Type 0
IsRead files file = IsSomeAnd (kept_file file.number.0 files) (λ kept. 1 ≤ kept.rights)

-- a right is out on each file that is on its way out: all other files that are kept are listed
abbrev pub AreOutgoingRead : KeptFiles → Type 0
AreOutgoingRead files = Each (IsRead files) files.outgoing

module _ {J F S R P : Type 0} {means : disk.Ghosts J} {counts : counted.Ghosts J} where
  -- By the count of faults of a port before and now: where it has not risen and no gate is in doubt, only files that are
  -- read are on their way out.
  abbrev pub LeavesRead : ℕ → ℕ → Core J F S R P means counts → Type 0
  LeavesRead before now core = ¬ Rose before now → is_in_doubt (log_of (logged_of core)) ≡ false
      → AreOutgoingRead (files_of core)

  -- so none is, where no right is out
  abbrev pub LeavesNothing : ℕ → ℕ → Core J F S R P means counts → Type 0
  LeavesNothing before now core = ¬ Rose before now → is_in_doubt (log_of (logged_of core)) ≡ false
      → (files_of core).outgoing ≡ []

  -- Where only files that are read were on their way out, and neither the port nor the journal has counted a fault, only
  -- such are.
  abbrev pub StaysRead : ℕ → ℕ → Core J F S R P means counts → Core J F S R P means counts → Type 0
  StaysRead before now old new = AreOutgoingRead (files_of old) → ¬ Rose before now → faults_under new ≡ 0
      → AreOutgoingRead (files_of new)

  -- The same where none is read: no file is on its way out.
  abbrev pub StaysEmpty : ℕ → ℕ → Core J F S R P means counts → Core J F S R P means counts → Type 0
  StaysEmpty before now old new = (files_of old).outgoing ≡ [] → ¬ Rose before now → faults_under new ≡ 0
      → (files_of new).outgoing ≡ []

  -- All but the files on their way out is as it was: the log with what is in memory, both lists, and each state of the
  -- plain model that the core is in, with all that is out.
  pub record KeepsAllButOutgoing (old new : Core J F S R P means counts) : Type 0 where
    pub logged : logged_of new ≡ logged_of old
    pub next : next_of new ≡ next_of old
    pub limit : limit_of new ≡ limit_of old
    pub sequence : (files_of new).sequence ≡ (files_of old).sequence
    pub unsequence : (files_of new).unsequence ≡ (files_of old).unsequence
    pub serving : (loans : List (Loan F S R P)) (files : List StoredFile) (at : plain.State)
        (next : Option plain.State) → IsServing loans old files at next → IsServing loans new files at next
