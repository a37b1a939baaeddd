-- Which flush of the engine state a job is.
use Rattle.std.specs.Prelude.{◌≡◌, List}
use Rattle.std.specs.Arc.{arc_value}
use Rattle.std.specs.Option.{option_map}
use Rattle.tsdb_base.specs.declared.ids.FileNumber.{FileNumber}
use Rattle.tsdb_flush.specs.BuiltParts.{IsJobOf}
use Rattle.tsdb_flush.specs.declared.job.FlushJob.{FlushJob}
use Rattle.tsdb_model.specs.declared.command.Schema.{Schema}
use Rattle.tsdb_memory.specs.StateOfMemory.{IsPairOf}
use Rattle.tsdb_memory.specs.State as state

-- The job has the born, the points and the numbers of the flush. `series` are those that were there when it was taken,
-- by whose numbers its pair has its points.
pub record IsFlushOf (job : FlushJob) (flush : state.FlushState) : Type 0 where
  pub series : List Schema
  pub of : IsJobOf series (arc_value job.pair) job.schemas job.series
  pub born : flush.born ≡ job.born.0
  pub pair : IsPairOf series (arc_value job.pair) flush.pair
  pub sequence : flush.sequence ≡ option_map (λ (number : FileNumber). number.0) job.sequence
  pub unsequence : flush.unsequence ≡ option_map (λ (number : FileNumber). number.0) job.unsequence
