-- The compaction plans of an engine: a plan is of what is kept of the listed files, and of which of them jobs claim.
use Rattle.std.specs.Prelude.{◌≡◌, Bool, true, List, [], map, slice_range, take}
use Rattle.std.specs.List.{AllByRecursion as Each}
use Rattle.tsdb_base.specs.declared.ids.Space.TheVariants.{Sequence, Unsequence}
use Rattle.tsdb_base.specs.Lists.{Among}
use Rattle.tsdb_plan.specs.declared.entry.CrossRun.{CrossRun}
use Rattle.tsdb_plan.specs.declared.entry.FileEntry.{FileEntry}
use Rattle.tsdb_plan.specs.declared.entry.Run.{Run}
use Rattle.tsdb_state.specs.State.{Compaction, KnownFiles, File}

-- the entry of a listed file, for a plan
abbrev pub file_entry : KnownFiles → (File → Bool) → File → FileEntry
file_entry known claimed file = record {
  number = record { 0 = file.number };
  born = record { 0 = file.born };
  size = (known file.number).size;
  points = (known file.number).points;
  hulls = (known file.number).hulls;
  claimed = claimed file;
}

abbrev pub file_entries : KnownFiles → (File → Bool) → List File → List FileEntry
file_entries known claimed files = map (file_entry known claimed) files

-- the late inputs of each job that is out are claimed
abbrev pub ClaimLate : (File → Bool) → List Compaction → Type 0
ClaimLate claimed jobs = Each (λ job. (file : File) → Among file job.unsequence → claimed file ≡ true) jobs

-- no job has claimed the sequence list
abbrev pub IsSequenceFree : List Compaction → Type 0
IsSequenceFree jobs = Each (λ job. job.space ≡ Sequence → ⊥) jobs

-- the job of a cross plan: its run of the sequence list, and the first files of the other one
pub record IsCrossJob (run : CrossRun) (sequence unsequence : List File) (job : Compaction) : Type 0 where
  pub space : job.space ≡ Sequence
  pub place : job.place ≡ run.first
  pub sequence_run : job.sequence ≡ slice_range sequence run.first run.end
  pub first_late : job.unsequence ≡ take run.prefix unsequence

-- the job of an inner plan of the sequence list, and of the unsequence list
pub record IsInnerSequenceJob (run : Run) (sequence : List File) (job : Compaction) : Type 0 where
  pub space : job.space ≡ Sequence
  pub place : job.place ≡ run.first
  pub sequence_run : job.sequence ≡ slice_range sequence run.first run.end
  pub no_late : job.unsequence ≡ []

pub record IsInnerUnsequenceJob (run : Run) (unsequence : List File) (job : Compaction) : Type 0 where
  pub space : job.space ≡ Unsequence
  pub late_run : job.unsequence ≡ slice_range unsequence run.first run.end
  pub no_sequence : job.sequence ≡ []
