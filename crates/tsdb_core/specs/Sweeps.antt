-- What a sweep leaves.
use Rattle.std.specs.Prelude.{◌≡◌, ℕ, [], false, List, length, None, Option, Result, OnErr, OnOk, IfOk}
use Rattle.tsdb_base.specs.declared.ids.FileNumber.{FileNumber}
use Rattle.tsdb_core.specs.Core.{IsSeen, KeepsJobs, files_of, flushed_below, is_sequence_claimed, limit_of, logged_of}
use Rattle.tsdb_core.specs.Core.{next_of}
use Rattle.tsdb_core.specs.Loans.{KeepsAllLoans}
use Rattle.tsdb_core.specs.declared.engine.Core.{Core}
use Rattle.tsdb_frames.specs.Frames.{is_in_doubt}
use Rattle.tsdb_fileset.specs.StateOfFiles.{IsDoubtOf, may_go, told_numbers}
use Rattle.tsdb_state.specs.StoredEngine.{without_numbers}
use Rattle.tsdb_fileset.specs.Sweeps.{LeavesWithout, StopsSweepAt, tried_numbers}
use Rattle.tsdb_memory.specs.LogState.{Outside, log_of}
use Rattle.tsdb_outside.specs.declared.disk.Disk as disk
use Rattle.tsdb_outside.specs.declared.faults.Counted as counted
use Rattle.tsdb_outside.specs.declared.faults.Failed.{Failed}
use Rattle.tsdb_state.specs.State.{Compaction, EngineState, FlushState}
use Rattle.tsdb_state.specs.Steps.{swept}

-- the files of these numbers are kept no longer
abbrev pub without_files : List ℕ → Outside → Outside
without_files numbers outside = record outside { kept = without_numbers numbers outside.kept }

module _ {J F S R P : Type 0} {means : disk.Ghosts J} {counts : counted.Ghosts J} where
  -- The files of these numbers were removed, or could not be, and all others stay, as does what is kept for jobs and
  -- pins. The state is swept of them, and they are kept no longer.
  pub record IsSweptOf (old new : Core J F S R P means counts) (numbers : List ℕ) : Type 0 where
    pub left : LeavesWithout numbers (files_of old) (files_of new)
    pub jobs : (flushes : List FlushState) (compactions : List Compaction) → KeepsJobs old flushes compactions
        → KeepsJobs new flushes compactions
    pub loans : KeepsAllLoans old new
    pub step : (outside : Outside) (state : EngineState) → IsSeen old outside state
        → IsSeen new (without_files numbers outside) (swept numbers state)

  -- What a sweep leaves. All outgoing files that may go are removed, and counted; or one of them could not be, and those
  -- behind it were not tried. `doubted` are the files that a record in doubt names, and none where no gate is in doubt.
  pub record IsSwept (old new : Core J F S R P means counts) (outcome : Result ℕ Failed) : Type 0 where
    pub doubted : List (Option FileNumber)
    pub named : (outside : Outside) (state : EngineState) → IsSeen old outside state → IsDoubtOf doubted state
    pub none : is_in_doubt (log_of (logged_of old)) ≡ false → told_numbers doubted ≡ []
    pub logged : logged_of new ≡ logged_of old
    pub next : next_of new ≡ next_of old
    pub limit : limit_of new ≡ limit_of old
    pub flushed : flushed_below new ≡ flushed_below old
    pub claimed : is_sequence_claimed new ≡ is_sequence_claimed old
    pub counted : IfOk outcome (λ count.
        count ≡ length (may_go doubted (files_of old) (files_of old).outgoing))
    pub all : OnOk outcome (IsSweptOf old new (may_go doubted (files_of old) (files_of old).outgoing))
    pub stopped : OnErr outcome ((stop : StopsSweepAt doubted (files_of old).places (files_of old).outgoing)
        × IsSweptOf old new (tried_numbers doubted (files_of old).places stop))
