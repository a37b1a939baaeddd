-- The parts of a flush that is out, and when it is one that a core hands out.
use Rattle.std.specs.Prelude.{List}
use Rattle.std.specs.Arc.{arc_value}
use Rattle.tsdb_base.specs.declared.ids.Space.{Space}
use Rattle.tsdb_flush.specs.Parts.{Filled, IsFormedFlush, filled_part}
use Rattle.tsdb_flush.specs.declared.job.FlushJob.{FlushJob}

-- the series of the job that have points in the space, with them
abbrev pub job_part : Space → FlushJob → List Filled
job_part space job = filled_part space (arc_value job.pair) job.schemas job.series

-- the job is as a core hands it out
abbrev pub IsJob : FlushJob → Type 0
IsJob job = IsFormedFlush (arc_value job.pair) job.schemas job.series job.sequence job.unsequence
