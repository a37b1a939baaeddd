-- The end of a job that is out, and a sweep behind it.
use Rattle.std.proofs.Common.{◌≡◌, ℕ, ◌≤◌, Bool, true, false, List, Option, None, Some, Result, Ok, Err, ap, sym}
use Rattle.std.proofs.Common.{subst, ◌∙◌}
use Rattle.std.specs.FinMap.{empty}
use Rattle.std.specs.Option.{option_map}
use Rattle.std.specs.Prelude.{IfSome, OnErr}
use Rattle.tsdb_base.specs.Causes.{Rose}
use Rattle.tsdb_base.specs.Lists.{IsWithOne}
use Rattle.tsdb_compactions.specs.Built.{Built}
use Rattle.tsdb_compactions.specs.Jobs.{IsCompactionOf}
use Rattle.tsdb_compactions.specs.Outputs.{IsBuiltFor, TellsInputs}
use Rattle.tsdb_compactions.specs.declared.job.Job.{Job}
use Rattle.tsdb_fileset.specs.Files.{AreKept}
use Rattle.tsdb_frames.proofs.CallLemmas.{same_keeps_to_slot}
use Rattle.tsdb_memory.specs.LogState.{log_of, memory_of}
use Rattle.tsdb_model.specs.State as plain
use Rattle.tsdb_outside.specs.Causes.{HasCause}
use Rattle.tsdb_outside.specs.Disk.{IsLawful}
use Rattle.tsdb_outside.specs.Files.{NamedFile, Store, StoredFile}
use Rattle.tsdb_outside.specs.declared.disk.Disk as disk
use Rattle.tsdb_outside.specs.declared.faults.Counted as counted
use Rattle.tsdb_outside.specs.declared.faults.Failed.{Failed}
use Rattle.tsdb_rewriting.proofs.Outputs.{finished}
use Rattle.tsdb_rewriting.proofs.States.{abandoned, found, served}
use Rattle.tsdb_rewriting.specs.Rewriting.{EndsJob, IsEndOf, IsFinished, IsGivenUp, WasTold}
use Rattle.tsdb_serving.proofs.Flushes.{kept_series, same_faults}
use Rattle.tsdb_serving.proofs.Jobs.{job_back}
use Rattle.tsdb_serving.proofs.OutputsBuilt.{new_output}
use Rattle.tsdb_serving.proofs.Swept.{faults_swept, loan_swept, served_on}
use Rattle.tsdb_rewriting.proofs.Told.{inputs_told}
use Rattle.tsdb_serving.specs.Compactions.{IsHandedOut, IsJobOut}
use Rattle.tsdb_serving.specs.Core.{files_of}
use Rattle.tsdb_serving.specs.CoreType.{Core}
use Rattle.tsdb_serving.specs.Flushing.{faults_under, frozen_under}
use Rattle.tsdb_serving.specs.Out.{HandsOn}
use Rattle.tsdb_serving.specs.Replacements.{IsJobAbandoned, IsJobCommit, IsOutputIn, TellsNew}
use Rattle.tsdb_serving.specs.Serving.{IsServing, log_under}
use Rattle.tsdb_serving.specs.Sweeping.{KeepsAllButOutgoing}
use Rattle.tsdb_serving.specs.TasksEnding.{AreFreed, IsOutputNumbered}
use Rattle.tsdb_serving.specs.TasksFiles.{NewFile, file_built}
use Rattle.tsdb_serving.specs.declared.loan.Loan.{Loan}
use Rattle.tsdb_serving.specs.declared.loan.Loan.TheVariants as loan
use Rattle.tsdb_state.specs.Places.{Content}
use Rattle.tsdb_state.specs.State.{Compaction, ToldContents}

later_of : (before now : ℕ) (result : Result (Unit {0}) Failed) → HasCause before now result → before ≤ now
later_of before now result cause = cause.later

module _ {J F S R P : Type 0} {means : disk.Ghosts J} {counts : counted.Ghosts J} where
  -- ---- what becomes of the lists

  -- the record was appended, or could not be
  pub committed_as : (name : R → NamedFile) (old new : Core J F S R P means counts) (job : Job F S R P)
      (file : Option NewFile) (result : Result (Unit {0}) Failed) → IsJobCommit name old new job file result
      → IfSome file (λ one. one.entry.number.0 ≡ job.output.0) → IsEndOf true job old new result
  committed_as name old new job file (Ok done) commits numbered =
      finished old new job file commits.runs commits.stand numbered commits.files
  committed_as name old new job file (Err failed) commits numbered = record {
    sequence = commits.files.sequence;
    unsequence = commits.files.unsequence;
    memory = commits.memory;
  }

  pub given_up : (old new : Core J F S R P means counts) (job : Job F S R P) (file : Option NewFile)
      → IsJobAbandoned old new job file → IsGivenUp job old new
  given_up old new job file gives_up = record {
    sequence = gives_up.files.sequence;
    unsequence = gives_up.files.unsequence;
    memory = ap memory_of gives_up.logged;
  }

  module _ (laws : (journal : J) → IsLawful (means.state journal)) (name : R → NamedFile) (store : Store)
      (old new : Core J F S R P means counts) (job : Job F S R P) (out : IsJobOut name old job)
      (kept : AreKept (files_of old)) where
    handed : IsHandedOut job
    handed = record { formed = out.kept.formed; few_sequence = out.kept.few_sequence; few_late = out.kept.few_late }

    -- the truth of a job lasts
    module _ (told : store.tells ≡ true) (was : WasTold name job) (others loans : List (Loan F S R P))
        (files : List StoredFile) (at : plain.State) (next : Option plain.State)
        (one : IsWithOne (loan.Compaction job) others loans) (serving : IsServing loans old files at next) where
      abbrev compaction : Compaction
      compaction = (found laws old new job others loans files at next one serving).partner

      abbrev rest : List Compaction
      rest = (found laws old new job others loans files at next one serving).rest

      is : IsCompactionOf job compaction
      is = (found laws old new job others loans files at next one serving).fits

      among : IsWithOne compaction rest serving.state.compactions
      among = (found laws old new job others loans files at next one serving).one

      still : TellsInputs name serving.outside.told job
      still = inputs_told name old job out kept serving.outside serving.state serving.seen was

    pub commit_ends : (file : Option NewFile) (result : Result (Unit {0}) Failed)
        → IsJobCommit name old new job file result → (store.tells ≡ true → TellsNew file) → EndsJob name store job old new
    commit_ends file result commits new_tells = record {
      ends = record {
        back = job_back name store old new job file commits.ends handed;
        slot = commits.slot;
        next = commits.ends.next;
        limit = commits.ends.limit;
        kept = commits.kept;
        later = later_of (faults_under old) (faults_under new) result commits.cause;
      };
      serves = λ told was others loans files at next one serving.
          served laws old new job others loans files at next one serving file result
          (commits.states serving.outside serving.state
          (compaction told was others loans files at next one serving) (rest told was others loans files at next one serving)
          serving.seen (is told was others loans files at next one serving)
          (among told was others loans files at next one serving)
          (still told was others loans files at next one serving) (new_tells told));
    }

    pub abandon_ends : (file : Option NewFile) → (store.tells ≡ true → (known : ToldContents) (compaction : Compaction)
        → IsCompactionOf job compaction → TellsInputs name known job
        → (content : Content) × IsOutputIn known compaction file content) → IsJobAbandoned old new job file
        → EndsJob name store job old new
    abandon_ends file output gives_up = record {
      ends = record {
        back = job_back name store old new job file gives_up.ends handed;
        slot = same_keeps_to_slot (log_under old) (log_under new) (ap (λ logged. log_of logged) gives_up.logged);
        next = gives_up.ends.next;
        limit = gives_up.ends.limit;
        kept = kept_series old new gives_up.logged;
        later = same_faults old new (ap (λ logged. log_of logged) gives_up.logged);
      };
      serves = λ told was others loans files at next one serving.
          let made = output told serving.outside.told (compaction told was others loans files at next one serving)
          (is told was others loans files at next one serving) (still told was others loans files at next one serving) in
          abandoned laws old new job others loans files at next one serving made.0 file made.1 gives_up;
    }

  -- ---- a sweep behind the end

  module _ (job : Job F S R P) (old mid new : Core J F S R P means counts) (keeps : KeepsAllButOutgoing mid new) where
    still_finished : IsFinished job old mid → IsFinished job old new
    still_finished (runs, stand, by) = (
      runs,
      stand,
      record {
        output = by.output;
        numbered = by.numbered;
        sequence = keeps.sequence ∙ by.sequence;
        unsequence = keeps.unsequence ∙ by.unsequence;
      },
    )

    still_given_up : IsGivenUp job old mid → IsGivenUp job old new
    still_given_up up = record {
      sequence = keeps.sequence ∙ up.sequence;
      unsequence = subst (λ entries. AreFreed job.unsequence (files_of old).unsequence entries) (sym keeps.unsequence)
          up.unsequence;
      memory = ap memory_of keeps.logged ∙ up.memory;
    }

    pub answer_swept : (whole : Bool) (result : Result (Unit {0}) Failed) → IsEndOf whole job old mid result
        → IsEndOf whole job old new result
    answer_swept true (Ok done) finished = still_finished finished
    answer_swept true (Err failed) up = still_given_up up
    answer_swept false (Ok done) up = still_given_up up
    answer_swept false (Err failed) none = none

    pub frozen_swept : frozen_under mid ≡ frozen_under old → frozen_under new ≡ frozen_under old
    frozen_swept same = ap (λ logged. (memory_of logged).frozen) keeps.logged ∙ same

    pub rose_swept : (result : Result (Unit {0}) Failed) → OnErr result (Rose (faults_under old) (faults_under mid))
        → OnErr result (Rose (faults_under old) (faults_under new))
    rose_swept (Ok done) rose = tt
    rose_swept (Err failed) rose = subst (Rose (faults_under old)) (sym (faults_swept mid new keeps)) rose

    pub job_swept : (name : R → NamedFile) (store : Store) → HandsOn mid new → EndsJob name store job old mid
        → EndsJob name store job old new
    job_swept name store hands_on part = record {
      ends = loan_swept name store (loan.Compaction job) old mid new keeps hands_on part.ends;
      serves = λ told was others loans files at next one serving. served_on old mid new keeps
          (λ number. number ≡ job.output.0) (λ number. number ≡ job.output.0) (λ n is. is) others files at next at at
          (part.serves told was others loans files at next one serving);
    }

-- ---- the output of a job that is given up

module _ {F S R P : Type 0} (name : R → NamedFile) (file : S → NamedFile) (rights : S → ℕ) (job : Job F S R P) where
  pub made_numbered : (output : Option (Built F S R P)) → IfSome output (IsBuiltFor name file rights job)
      → IfSome output (IsOutputNumbered rights job)
  made_numbered None made = tt
  made_numbered (Some built) made =
      record { number = made.file_is.kept.number_is; unread = made.file_is.unread }

  pub made_in : (known : ToldContents) (run : Compaction) → IsCompactionOf job run
      → TellsInputs name known job → (output : Option (Built F S R P)) → IfSome output (IsBuiltFor name file rights job)
      → TellsNew (option_map (file_built file) output)
      → (content : Content) × IsOutputIn known run (option_map (file_built file) output) content
  made_in known run of tells None made some = (empty, tt)
  made_in known run of tells (Some built) made some = new_output name file rights known job built run of made tells some
