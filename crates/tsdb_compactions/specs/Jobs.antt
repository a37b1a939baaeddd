-- Which compaction of the engine state a job is, and what holds of one that a core hands out.
use Rattle.std.specs.Prelude.{◌≡◌, ◌≢◌, ℕ, Bool, true, false, List, [], ◌∷◌, ◌++◌, map}
use Rattle.std.specs.List.{AllByRecursion as Each}
use Rattle.tsdb_base.specs.declared.ids.FileNumber.{FileNumber}
use Rattle.tsdb_base.specs.declared.ids.Space.{Space}
use Rattle.tsdb_base.specs.declared.ids.Space.TheVariants.{Sequence, Unsequence}
use Rattle.tsdb_compactions.specs.declared.job.Input.{Input}
use Rattle.tsdb_compactions.specs.declared.job.Job.{Job}
use Rattle.tsdb_flush.specs.Order.{AreNamesBefore}
use Rattle.tsdb_flush.specs.Parts.{schema_names}
use Rattle.tsdb_base.specs.Lists.{EachPair}
use Rattle.tsdb_model.specs.Commands.{IsSchema}
use Rattle.tsdb_state.specs.Jobs.{job_inputs}
use Rattle.tsdb_state.specs.Records.{numbers_of}
use Rattle.tsdb_state.specs.State.{Compaction, File}
use Rattle.tsdb_outside.specs.Files.{plain_numbers}

-- an output of this space and these late inputs make a cross job
abbrev pub crosses : Space → List FileNumber → Bool
crosses Sequence [] = false
crosses Sequence (late ∷ others) = true
crosses Unsequence late = false

module _ {F S R P : Type 0} where
  -- The job is a cross job: its output stands in the sequence list, and it has late inputs. Every other is an inner one.
  abbrev pub is_cross : Job F S R P → Bool
  is_cross job = crosses job.space job.unsequence

  -- an input as the engine state has it
  abbrev pub input_file : Input F S R P → File
  input_file input = record { number = input.number.0; born = input.born.0 }

  abbrev pub input_files : Job F S R P → List File
  input_files job = map input_file job.inputs

  -- The job is as a core hands it out: it has an input, its two lists have the numbers of all inputs, and its schemas
  -- are well-formed and in the order of a tree.
  pub record IsJobFormed (job : Job F S R P) : Type 0 where
    pub some : job.inputs ≢ []
    pub numbers : numbers_of (input_files job) ≡ plain_numbers job.sequence ++ plain_numbers job.unsequence
    pub schemas : Each IsSchema job.schemas
    pub rising : EachPair (λ a b. AreNamesBefore (schema_names a) (schema_names b)) job.schemas

  -- the job has the space, the place, the born, the inputs, the marks and the number of the compaction
  pub record IsCompactionOf (job : Job F S R P) (compaction : Compaction) : Type 0 where
    pub space : compaction.space ≡ job.space
    pub place : compaction.place ≡ job.place
    pub born : compaction.born ≡ job.born.0
    pub inputs : job_inputs compaction ≡ input_files job
    pub sequence : numbers_of compaction.sequence ≡ plain_numbers job.sequence
    pub unsequence : numbers_of compaction.unsequence ≡ plain_numbers job.unsequence
    pub marks : compaction.marks ≡ job.marks.marks
    pub output : compaction.output ≡ job.output.0
