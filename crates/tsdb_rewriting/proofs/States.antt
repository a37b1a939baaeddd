-- The steps of a compaction, as a core takes them: what each leaves of the state that a core is in.
use Rattle.std.proofs.Common.{◌≡◌, ℕ, List, [], ◌++◌, Option, None, Some, Result, Ok, Err, inl, inr, refl, sym}
use Rattle.std.proofs.Common.{ap, subst, ◌∙◌}
use Rattle.std.specs.List.{AllByRecursion as Each, flat_map}
use Rattle.tsdb_base.specs.declared.ids.Space.{Space}
use Rattle.tsdb_base.specs.declared.ids.Space.TheVariants.{Sequence, Unsequence}
use Rattle.tsdb_serving.specs.TasksFiles.{NewFile, all_of, stored_of}
use Rattle.tsdb_serving.specs.States.{sent_files}
use Rattle.tsdb_compactions.specs.declared.job.Job.{Job}
use Rattle.tsdb_compactions.specs.Jobs.{IsCompactionOf}
use Rattle.tsdb_serving.specs.Core.{IsSeen}
use Rattle.tsdb_serving.specs.Replacements.{CommitsIn, IsJobAbandoned, IsOutputIn, IsSeenAfterEnd, with_new}
use Rattle.tsdb_serving.specs.CoreType.{Core}
use Rattle.tsdb_frames.proofs.MomentLemmas.{weaker}
use Rattle.tsdb_state.specs.StoredEngine.{LeadsTo}
use Rattle.tsdb_base.proofs.Lists.{each_from_among}
use Rattle.tsdb_base.specs.Lists.{IsWithOne}
use Rattle.tsdb_state.specs.Places.{Content}
use Rattle.tsdb_log.specs.declared.record.LogRecord.{LogRecord}
use Rattle.tsdb_log.specs.declared.record.LogRecord.TheVariants.{Replaced}
use Rattle.tsdb_memory.specs.LogState.{Outside, log_of, with_record}
use Rattle.tsdb_model.specs.State as plain
use Rattle.tsdb_outside.specs.Disk.{IsLawful}
use Rattle.tsdb_outside.specs.Files.{StoredFile}
use Rattle.tsdb_outside.specs.declared.disk.Disk as disk
use Rattle.tsdb_outside.specs.declared.faults.Counted as counted
use Rattle.tsdb_outside.specs.declared.faults.Failed.{Failed}
use Rattle.tsdb_serving.proofs.OutputsTold.{told_same, worlds_with}
use Rattle.tsdb_serving.specs.Outputs.{only_output}
use Rattle.tsdb_state.specs.Stores.{IsStateOf}
use Rattle.tsdb_serving.proofs.Differing.{Differ, stored_differ}
use Rattle.tsdb_serving.proofs.Held.{either_wider, held_more, held_with}
use Rattle.tsdb_serving.proofs.Jobs.{stored_number}
use Rattle.tsdb_serving.proofs.Lent.{HasPartner, job_partner, without_job}
use Rattle.tsdb_serving.proofs.Parts.{leads_as}
use Rattle.tsdb_serving.proofs.Steps.{quiet}
use Rattle.tsdb_serving.specs.Loans.{AreLent, jobs_in}
use Rattle.tsdb_serving.specs.Serving.{AreHeldWith, IsServedBy, IsServing, LeavesEither, MayDoubt, disk_under, slot_under}
use Rattle.tsdb_serving.specs.declared.loan.Loan.{Loan}
use Rattle.tsdb_serving.specs.declared.loan.Loan.TheVariants as loan
use Rattle.tsdb_state.specs.Order.{all_files as state_files_of}
use Rattle.tsdb_state.specs.Records.{after}
use Rattle.tsdb_state.specs.State.{Compaction, EngineState, File, StoreState}
use Rattle.tsdb_state.specs.Steps.{committed, compaction_record, ended, failed, file_numbers, output_number, settled}

-- what the output is stored as, where there is one and its token tells its bytes
abbrev pub put_of : Option NewFile → List StoredFile
put_of None = []
put_of (Some file) = flat_map stored_of (all_of (only_output file))

-- one file differs from all others
differ_one : (file : Option NewFile) → Differ (put_of file)
differ_one None = tt
differ_one (Some file) = stored_differ (all_of (only_output file)) (tt, tt)

-- a compaction leaves the stamp
record_stamp : (job : Compaction) (output : List File) (place : ℕ) (store : StoreState)
    → (after (compaction_record job output place) store).stamp ≡ store.stamp
record_stamp job output place store = by job.space
  where
    by : (space : Space) → (after (Replaced (record { 0 = job.born }) space place (record { 0 = output_number output })
        (file_numbers job.sequence) (file_numbers job.unsequence)) store).stamp ≡ store.stamp
    by Sequence = refl
    by Unsequence = refl

module _ {J F S R P : Type 0} {means : disk.Ghosts J} {counts : counted.Ghosts J}
    (laws : (journal : J) → IsLawful (means.state journal)) where
  module _ (old new : Core J F S R P means counts) (job : Job F S R P) (others loans : List (Loan F S R P))
      (files : List StoredFile) (at : plain.State) (next : Option plain.State)
      (one : IsWithOne (loan.Compaction job) others loans) (is : IsServing loans old files at next) where
    abbrev Q : ℕ → Type 0
    Q number = number ≡ job.output.0

    -- the job is a compaction of the state
    abbrev pub found : HasPartner IsCompactionOf job (jobs_in others) is.state.compactions
    found = job_partner others loans is.state.flushes is.state.compactions is.state.pins is.lent job one

    abbrev compaction : Compaction
    compaction = found.partner

    left : AreLent others is.state.flushes found.rest is.state.pins
    left = without_job others loans is.state.flushes is.state.compactions is.state.pins is.lent job one

    -- with the output told the core is in the same state
    module _ (content : Content) where
      stands_with : (file : Option NewFile) → IsOutputIn is.outside.told compaction file content
          → IsStateOf (with_new content file is.outside).told is.state.store at
      stands_with None output = is.stands
      stands_with (Some one) output = record {
        world = (worlds_with is.outside is.state compaction found.rest is.seen.sound.stored found.one content one output
            at.world).0 is.stands.world;
        stamp = is.stands.stamp;
      }

      leads_with : (file : Option NewFile) → IsOutputIn is.outside.told compaction file content
          → LeadsTo (with_new content file is.outside).told is.state.store is.state.doubt next
      leads_with None output = is.doubt
      leads_with (Some one) output = leads_as is.outside.told (with_new content (Some one) is.outside).told
          is.seen.sound.stored.named is.state.store is.state.outgoing is.state.doubt next
          (each_from_among _ (state_files_of is.state)
          (told_same is.outside is.state compaction found.rest is.seen.sound.stored found.one content one output))
          is.seen.sound.stored.order.doubt is.doubt

      held_new : (file : Option NewFile) → AreHeldWith (with_new content file is.outside).kept (files ++ put_of file)
      held_new None = held_more is.outside.kept files [] is.held
      held_new (Some one) = held_with (only_output one) is.outside.kept files is.held

      numbers : (file : Option NewFile) → IsOutputIn is.outside.told compaction file content
          → Each (λ (stored : StoredFile). Q stored.number) (put_of file)
      numbers None output = tt
      numbers (Some one) output =
          stored_number Q (all_of (only_output one)) (output.number_is ∙ found.fits.output, tt)

      module _ (file : Option NewFile) (output : IsOutputIn is.outside.told compaction file content) where
        abbrev later : Outside
        later = with_new content file is.outside

        -- a state of the same store
        shows : (other : EngineState) (doubt : Option plain.State) → other.store ≡ is.state.store
            → LeadsTo later.told is.state.store other.doubt doubt → IsSeen new later other
            → AreLent others other.flushes other.compactions other.pins → IsServing others new (files ++ put_of file) at doubt
        shows other doubt same leads seen lent = record {
          outside = later;
          state = other;
          seen = seen;
          lent = lent;
          stands = subst (λ s. IsStateOf later.told s at) (sym same) (stands_with file output);
          doubt = subst (λ s. LeadsTo later.told s other.doubt doubt) (sym same) leads;
          held = held_new file;
        }

        pub abandoned : IsJobAbandoned old new job file → IsServedBy Q others old new files at next at at
        abandoned gives_up = quiet laws Q loans others old new files (put_of file) at next at
            (ap (λ log. log_of log) gives_up.logged) (numbers file output) (differ_one file) is
            (shows (ended compaction found.rest (sent_files file) is.state) next refl (leads_with file output)
            (gives_up.step is.outside is.state compaction found.rest content is.seen found.fits found.one output) left)

    module _ (file : Option NewFile) (outcome : Result (Unit {0}) Failed)
        (commits : CommitsIn old new is.outside is.state compaction found.rest file outcome) where
      abbrev told : Outside
      told = with_new commits.content file is.outside

      abbrev item : LogRecord
      item = compaction_record compaction (sent_files file) commits.place

      record_stands : IsStateOf told.told (after item is.state.store) at
      record_stands =
          let keeps = commits.keeps in
          let now = stands_with commits.content file commits.output in record {
            world = record {
              types = λ path. now.world.types path ∙ sym (keeps.types path);
              values = λ place. now.world.values place ∙ sym (keeps.values place);
            };
            stamp = record_stamp compaction (sent_files file) commits.place is.state.store ∙ now.stamp;
          }

      by_record : (doubt : Option plain.State) → MayDoubt next at at doubt → IsServing others new (files ++ put_of file) at doubt
          → IsServedBy Q others old new files at next at at
      by_record doubt may shown = record {
        put = put_of file;
        numbers = numbers commits.content file commits.output;
        differ = differ_one file;
        doubt = doubt;
        may = may;
        serving = shown;
        moments = weaker (disk_under old) (disk_under new) _
            (LeavesEither (files ++ put_of file) (slot_under old) at next at)
            (λ image leaves. either_wider told.kept (files ++ put_of file) (slot_under old) at next at image
            (held_new commits.content file) leaves)
            (commits.moments at at next (stands_with commits.content file commits.output)
            (leads_with commits.content file commits.output) record_stands);
      }

      committed_as : (o : Result (Unit {0}) Failed) → IsSeenAfterEnd new told is.state compaction found.rest
          (sent_files file) commits.place o → IsServedBy Q others old new files at next at at
      committed_as (Ok done) seen = by_record None (inl refl) (record {
        outside = with_record item told;
        state = committed compaction found.rest (sent_files file) commits.place is.state;
        seen = seen;
        lent = left;
        stands = record_stands;
        doubt = tt;
        held = held_new commits.content file;
      })
      committed_as (Err fault) (inl seen) = by_record None (inl refl)
          (shows commits.content file commits.output
          (settled (ended compaction found.rest (sent_files file) is.state)) None refl tt seen left)
      committed_as (Err fault) (inr (inl seen)) = by_record next (inr (inl refl))
          (shows commits.content file commits.output (ended compaction found.rest (sent_files file) is.state) next refl
          (leads_with commits.content file commits.output) seen left)
      committed_as (Err fault) (inr (inr seen)) = by_record (Some at) (inr (inr (inl refl)))
          (shows commits.content file commits.output
          (failed item (ended compaction found.rest (sent_files file) is.state)) (Some at) refl record_stands seen left)

      pub served : IsServedBy Q others old new files at next at at
      served = committed_as outcome commits.step
