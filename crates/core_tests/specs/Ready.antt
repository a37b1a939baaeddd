-- What a core that flushes keeps beside the jobs that are out.
use Rattle.std.specs.Prelude.{◌≡◌, ⊤, [], ◌∷◌, List, map, Option, None, Some, Result}
use Rattle.std.specs.FinMap.{empty}
use Rattle.std.specs.Option.{option_map}
use Rattle.std.specs.declared.result.Result.TheVariants.{Ok, Err}
use Rattle.tsdb_base.specs.declared.ids.FileNumber.{FileNumber}
use Rattle.tsdb_core.specs.Core.{KeepsJobs, files_of, store_of}
use Rattle.tsdb_core.specs.Flushes.{IsOut}
use Rattle.tsdb_core.specs.declared.commit.CoreFault.{CoreFault}
use Rattle.tsdb_core.specs.declared.engine.Core.{Core}
use Rattle.tsdb_flush.specs.Jobs.{IsJob}
use Rattle.tsdb_flush.specs.declared.job.FlushJob.{FlushJob}
use Rattle.tsdb_fileset.specs.Places.{AreUnread}
use Rattle.tsdb_outside.specs.Files.{Store}
use Rattle.tsdb_outside.specs.declared.disk.Disk as disk
use Rattle.tsdb_outside.specs.declared.faults.Counted as counted
use Rattle.tsdb_state.specs.State as state

-- a flush with the numbers of the job, and no point
abbrev pub flush_of : FlushJob → state.FlushState
flush_of job = record {
  born = job.born.0;
  pair = record { sequence = empty; unsequence = empty };
  sequence = option_map (λ (number : FileNumber). number.0) job.sequence;
  unsequence = option_map (λ (number : FileNumber). number.0) job.unsequence;
}

module _ {J F S R P : Type 0} {means : disk.Ghosts J} {counts : counted.Ghosts J} where
  -- The core keeps what these jobs need. It is of the store, and no right to read a file is out.
  pub record IsReady (store : Store) (core : Core J F S R P means counts) (jobs : List FlushJob) : Type 0 where
    pub keeps : KeepsJobs core (map flush_of jobs) []
    pub unread : AreUnread (files_of core).places
    pub of_store : store ≡ store_of core

  -- one more job is out, where one was taken
  abbrev pub IsReadyWith : Store → Core J F S R P means counts → List FlushJob → Result (Option FlushJob) CoreFault
      → Type 0
  IsReadyWith store core jobs (Ok None) = IsReady store core jobs
  IsReadyWith store core jobs (Ok (Some job)) = IsReady store core (job ∷ jobs)
  IsReadyWith store core jobs (Err fault) = IsReady store core jobs

  -- a job that was taken is out
  abbrev pub IsTakenOut : Core J F S R P means counts → Result (Option FlushJob) CoreFault → Type 0
  IsTakenOut core (Ok None) = ⊤
  IsTakenOut core (Ok (Some job)) = IsJob job × IsOut core job
  IsTakenOut core (Err fault) = ⊤
