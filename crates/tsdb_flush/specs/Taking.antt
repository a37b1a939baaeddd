-- What a flush takes of memory: the oldest frozen pair, the series that have a point in it, and the next numbers.
use Rattle.std.specs.Prelude.{◌≡◌, ◌<◌, ℕ, List, ◌∷◌, ◌++◌, Some, length, map, slice_get}
use Rattle.std.specs.Arc.{arc_value}
use Rattle.std.specs.List.{AllByRecursion as Each, AllZip, range_with_len}
use Rattle.tsdb_base.specs.declared.ids.FileNumber.{FileNumber}
use Rattle.tsdb_base.specs.declared.ids.SeriesId.{SeriesId}
use Rattle.tsdb_base.specs.declared.ids.Space.{Space}
use Rattle.tsdb_flush.specs.BuiltParts.{IsJobOf}
use Rattle.tsdb_flush.specs.declared.job.FlushJob.{FlushJob}
use Rattle.tsdb_base.specs.Lists.{if_some}
use Rattle.tsdb_memory.specs.Store.{FrozenPair, MemoryState}
use Rattle.tsdb_memtable.specs.Pairs.{Pair, points_of}

-- the series has a point in one of the spaces of the pair
pub record HasPairPoint (pair : Pair) (number : SeriesId) : Type 0 where
  pub space : Space
  pub some : 0 < length (points_of space number.0 pair)

-- the numbers drawn for the files of the job, sequence before unsequence
abbrev pub job_numbers : FlushJob → List ℕ
job_numbers job = map (λ (file : FileNumber). file.0) (if_some job.sequence ++ if_some job.unsequence)

-- The job takes the oldest frozen pair, with each series that has a point in it and no other, each schema as memory has
-- it under the number beside it. The numbers that it draws are the next ones.
pub record IsJobTaken (store : MemoryState) (next : ℕ) (job : FlushJob) : Type 0 where
  pub oldest : FrozenPair
  pub newer : List FrozenPair
  pub are : store.frozen ≡ oldest ∷ newer
  pub born : job.born.0 ≡ oldest.born
  pub pair : arc_value job.pair ≡ oldest.pair
  pub of : IsJobOf store.series (arc_value job.pair) job.schemas job.series
  pub schemas : AllZip (λ schema number. slice_get store.series number.0 ≡ Some schema) job.schemas job.series
  pub filled : Each (HasPairPoint (arc_value job.pair)) job.series
  pub numbers : job_numbers job ≡ range_with_len next (length (job_numbers job))
