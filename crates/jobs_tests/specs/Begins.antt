-- What beginning a compaction leaves, by whichever plan.
use Rattle.std.specs.Prelude.{Option, None, Some, Result}
use Rattle.std.specs.declared.result.Result.TheVariants.{Ok, Err}
use Rattle.tsdb_base.specs.declared.ids.Space.{Space}
use Rattle.tsdb_tasks.specs.declared.finishing.InputRuns.{InputRuns}
use Rattle.tsdb_compactions.specs.declared.job.Job.{Job}
use Rattle.tsdb_core.specs.Beginnings.{IsBegun, IsNotBegun}
use Rattle.tsdb_core.specs.declared.commit.CoreFault.{CoreFault}
use Rattle.tsdb_core.specs.declared.engine.Core.{Core}
use Rattle.tsdb_outside.specs.Files.{NamedFile}
use Rattle.tsdb_outside.specs.declared.disk.Disk as disk
use Rattle.tsdb_outside.specs.declared.faults.Counted as counted

module _ {J F S R P : Type 0} {means : disk.Ghosts J} {counts : counted.Ghosts J} (name : R → NamedFile) where
  -- the job of some runs has begun, or none
  abbrev pub BeginsOrNot : Core J F S R P means counts → Core J F S R P means counts
      → Result (Option (Job F S R P)) CoreFault → Type 0
  BeginsOrNot old new (Ok None) = IsNotBegun old new
  BeginsOrNot old new (Ok (Some job)) = (space : Space) × (runs : InputRuns) × IsBegun name space runs old new job
  BeginsOrNot old new (Err fault) = IsNotBegun old new
