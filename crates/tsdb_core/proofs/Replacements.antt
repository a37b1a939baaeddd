-- What the end of a compaction makes of the states that a core shows.
use Rattle.std.proofs.Common.{◌≡◌, ◌⊎◌, ℕ, ◌+◌, ◌≤◌, List, [], length, Option, None, Some, Result, Ok, Err, inl, inr}
use Rattle.std.proofs.Common.{false}
use Rattle.std.proofs.Common.{ap, arith, length-append, refl, sym, subst, ◌∙◌}
use Rattle.std.proofs.lemmas.List.{length-map}
use Rattle.std.specs.FinMap.{empty}
use Rattle.std.specs.Option.{option_map}
use Rattle.std.specs.Prelude.{IfSome}
use Rattle.tsdb_base.specs.declared.ids.FileNumber.{FileNumber}
use Rattle.tsdb_base.specs.declared.ids.Space.{Space}
use Rattle.tsdb_base.specs.declared.ids.Stamp.{Stamp}
use Rattle.tsdb_tasks.specs.Files.{NewFile, file_built}
use Rattle.tsdb_tasks.specs.Ending.{GivesUp, IsOutputNumbered}
use Rattle.tsdb_tasks.specs.Finishing.{AreRunsOf, Finishes}
use Rattle.tsdb_tasks.specs.States.{sent_files}
use Rattle.tsdb_tasks.specs.declared.finishing.InputRuns.{InputRuns}
use Rattle.tsdb_tasks.proofs.Outputs.{no_output}
use Rattle.tsdb_tasks.specs.Jobs.{IsCompactionOf, IsJobFormed, input_file, input_files}
use Rattle.tsdb_tasks.specs.CompactionsOutputs.{IsOutputOf, TellsInputs}
use Rattle.tsdb_tasks.specs.Job.{Job}
use Rattle.tsdb_core.proofs.LoansJobs.{LeavesInputs, given_up_inputs, job_rights_given, left_as}
use Rattle.tsdb_core.proofs.ReplacementsClaims.{claims_without, over_finished, over_given_up}
use Rattle.tsdb_core.proofs.ReplacementsFiles.{can_replace, ended_later, files_finished, files_given_up, items_later}
use Rattle.tsdb_core.proofs.ReplacementsFiles.{output_stands, place, same_record, stored_later, told_later}
use Rattle.tsdb_core.proofs.ReplacementsFiles.{worlds_later}
use Rattle.tsdb_core.proofs.ReplacementsJobs.{IsGone, gone_finished, gone_up, others_kept}
use Rattle.tsdb_core.specs.Compactions.{IsJobOut}
use Rattle.tsdb_core.specs.Core.{AreClaimed, IsSeen, KeepsJobs}
use Rattle.tsdb_core.specs.Replacements.{AppendsEnd, CommitsIn, EndsFiles, HasEndedJob, IsJobAbandoned, IsJobCommit}
use Rattle.tsdb_core.specs.Replacements.{IsOutputIn, IsSeenAfterEnd, TellsNew, output_place, with_new, without_claim}
use Rattle.tsdb_core.specs.Worlds.{IsWorldOf}
use Rattle.tsdb_core.specs.declared.engine.Core.{Core}
use Rattle.tsdb_fileset.specs.StateOfFiles.{AreFilesOf, TellTheirBytes}
use Rattle.tsdb_fileset.specs.Built.{Built}
use Rattle.tsdb_fileset.specs.Files.{AreKept, KeptFiles, listed_borns}
use Rattle.tsdb_fileset.specs.Replacing.{HasReplaced}
use Rattle.tsdb_base.proofs.Lists.{with_one_is}
use Rattle.tsdb_base.specs.Lists.{IsWithOne}
use Rattle.tsdb_state.specs.Places.{Content}
use Rattle.tsdb_log.specs.declared.record.LogRecord.{LogRecord}
use Rattle.tsdb_log.specs.declared.record.LogRecord.TheVariants.{Replaced}
use Rattle.tsdb_memory.specs.LogState.{HasLog, IsSoundLogged, Outside, framed_room, with_record}
use Rattle.tsdb_memory.specs.Replacing.{CanCommitReplacement, IsReplaced, IsReplacement}
use Rattle.tsdb_memory.specs.declared.logged_memory.LoggedMemory.{LoggedMemory}
use Rattle.tsdb_model.specs.World.{World}
use Rattle.tsdb_memory.specs.Least.{IsLeastOf}
use Rattle.tsdb_outside.specs.Files.{NamedFile, plain_numbers}
use Rattle.tsdb_outside.specs.declared.disk.Disk as disk
use Rattle.tsdb_outside.specs.declared.faults.Counted as counted
use Rattle.tsdb_outside.specs.declared.faults.Failed.{Failed}
use Rattle.tsdb_plan.specs.declared.entry.FileEntry.{FileEntry}
use Rattle.tsdb_tasks.proofs.OutputsBuilt.{new_output}
use Rattle.tsdb_state.proofs.EngineCompaction.{commit_keeps}
use Rattle.tsdb_state.specs.Jobs.{replaced_bytes}
use Rattle.tsdb_state.specs.State.{Compaction, EngineState, FlushState, ToldContents}
use Rattle.tsdb_state.specs.Steps.{IsOutput, committed, compaction_record, ended, failed, output_number, settled}
use Rattle.tsdb_state.specs.Worlds.{KeepsWorld, StandsFor}

module _ {F S R P : Type 0} (name : R → NamedFile) (file : S → NamedFile) (rights : S → ℕ) (job : Job F S R P) where
  -- an output of a job has its number, and no right to read it is out
  pub output_numbered : (built : Option (Built F S R P)) → IsOutputOf name file rights job built
      → IfSome built (IsOutputNumbered rights job)
  output_numbered None of = tt
  output_numbered (Some built) of =
      record { number = of.file_is.kept.number_is; unread = of.file_is.unread }

  module _ (told : ToldContents) (compaction : Compaction) (is : IsCompactionOf job compaction)
      (tells : TellsInputs name told job) where
    -- what it has
    output_in : (built : Option (Built F S R P)) → IsOutputOf name file rights job built
        → TellsNew (option_map (file_built file) built)
        → (content : Content) × IsOutputIn told compaction (option_map (file_built file) built) content
    output_in None of some = (empty, tt)
    output_in (Some built) of some = new_output name file rights told job built compaction is of tells some

    no_output_in : (built : Option (Built F S R P)) → IsOutputOf name file rights job built
        → option_map (file_built file) built ≡ None → IsOutput told compaction []
    no_output_in None of none = no_output name told job compaction is of tells
    no_output_in (Some built) of none = absurd cc

-- the output as a core keeps it
abbrev made_of : {F S R P : Type 0} → (S → NamedFile) → Option (Built F S R P) → Option NewFile
made_of sealed built = option_map (file_built sealed) built

-- no right on it is out
made_unread : {F S R P : Type 0} (sealed : S → NamedFile) (o : Option (Built F S R P))
    → IfSome (made_of sealed o) (λ one. one.token.rights ≡ 0)
made_unread sealed None = tt
made_unread sealed (Some one) = refl

-- no job has claimed it
made_fresh : {F S R P : Type 0} (name : R → NamedFile) (sealed : S → NamedFile) (rights : S → ℕ) (job : Job F S R P)
    (o : Option (Built F S R P)) → IsOutputOf name sealed rights job o
    → IfSome (made_of sealed o) (λ one. one.entry.claimed ≡ false)
made_fresh name sealed rights job None of = tt
made_fresh name sealed rights job (Some one) of = of.file_is.kept.free

-- the born of the output, where there is one
same_born : {F S R P : Type 0} (sealed : S → NamedFile) (o : Option (Built F S R P))
    → option_map (λ (entry : FileEntry). entry.born) (option_map (λ (one : NewFile). one.entry) (made_of sealed o))
    ≡ option_map (λ (b : Built F S R P). b.entry.born) o
same_born sealed None = refl
same_born sealed (Some one) = refl

-- the lists of the job have the numbers of all its inputs
pub all_inputs : {F S R P : Type 0} (job : Job F S R P) → IsJobFormed job
    → length job.sequence + length job.unsequence ≡ length job.inputs
all_inputs job formed = omega (
  arith,
  ap length formed.numbers,
  length-append (plain_numbers job.sequence) (plain_numbers job.unsequence),
  length-map job.sequence (λ (n : FileNumber). n.0),
  length-map job.unsequence (λ (n : FileNumber). n.0),
  length-map (input_files job) (λ file. file.number),
  length-map job.inputs input_file,
)

gone_as : {F S R P : Type 0} (job : Job F S R P) (runs : InputRuns) (file : Option NewFile) (old after : KeptFiles)
    (outcome : Result (Unit {0}) Failed) → EndsFiles job runs file old after outcome → IsGone job file old after
gone_as job runs file old after (Ok done) up = gone_finished job file runs old after up
gone_as job runs file old after (Err fault) up = gone_up job file old after up

module _ {J F S R P : Type 0} {means : disk.Ghosts J} {counts : counted.Ghosts J} where
  module _ (old : Core J F S R P means counts) (logged : LoggedMemory J means counts) (kept : KeptFiles)
      (job : Job F S R P) (file : Option NewFile) (name : R → NamedFile) (job_out : IsJobOut name old job)
      (are_kept : AreKept old.files) (more : framed_room old.logged ≤ framed_room logged) where
    abbrev new : Core J F S R P means counts
    new = record old {
      logged = logged;
      files = kept;
      sequence_claimed = without_claim job.space old.sequence_claimed;
    }

    jobs_left : IsGone job file old.files kept → (compaction : Compaction) (others compactions : List Compaction)
        (flushes : List FlushState) → IsCompactionOf job compaction → IsWithOne compaction others compactions
        → KeepsJobs old flushes compactions → KeepsJobs new flushes others
    jobs_left gone compaction others compactions flushes is out keeps = others_kept old logged kept
        (without_claim job.space old.sequence_claimed) job file more job_out.kept.held.some gone compaction others
        compactions flushes is out keeps

    ends_job : IsGone job file old.files kept → LeavesInputs job old.files kept old.sequence_claimed
        → IfSome file (λ one. one.token.rights ≡ 0) → HasEndedJob old new job file
    ends_job gone left unread = record {
      flushed = refl;
      claimed = refl;
      next = refl;
      limit = refl;
      store = gone.store;
      jobs = jobs_left gone;
      loans = λ compaction others compactions flushes mine others_lent lent is out on lent_out keeps. record {
        jobs = jobs_left gone compaction others compactions flushes is out keeps.jobs;
        inputs = left compaction others compactions is out keeps.inputs;
        rights = job_rights_given old.files kept job file mine others_lent lent gone.here unread gone.others
            job_out.kept.held.place on lent_out keeps.rights;
      };
    }

    module _ (outside : Outside) (engine : EngineState) (compaction : Compaction) (others : List Compaction)
        (content : Content) (seen : IsSeen old outside engine) (is : IsCompactionOf job compaction)
        (out : IsWithOne compaction others engine.compactions)
        (output : IsOutputIn outside.told compaction file content) where
      abbrev later : Outside
      later = with_new content file outside

      abbrev gone_state : EngineState
      gone_state = ended compaction others (sent_files file) engine

      log_later : HasLog old.logged later.items engine.doubt
      log_later = subst (λ items. HasLog old.logged items engine.doubt)
          (sym (items_later job outside engine compaction others file content seen.sound.stored is out output))
          seen.sound.log

      sound : IsSoundLogged old.logged later engine
      sound = record {
        memory = seen.sound.memory;
        log = log_later;
        stored = stored_later job outside engine compaction others file content seen.sound.stored is out output;
      }

      -- what stays for the other jobs, and what is told
      jobs : IsGone job file old.files kept → KeepsJobs new engine.flushes others
      jobs gone = jobs_left gone compaction others engine.compactions engine.flushes is out seen.jobs

      told : IsGone job file old.files kept → TellTheirBytes kept later.kept
      told gone = told_later job outside engine compaction others file content seen.sound.stored is out output old.files
          kept gone seen.told

      still_world : (world : World) → StandsFor outside.told engine.store world
          → StandsFor later.told engine.store world
      still_world = worlds_later job outside engine compaction others file content seen.sound.stored is out output

      world_of : (world : World) (state : EngineState) → state.store ≡ engine.store
          → StandsFor outside.told engine.store world → IsSeen new later state → IsWorldOf new world
      world_of world state same stands shown = record {
        outside = later;
        state = state;
        seen = shown;
        stands = subst (λ store. StandsFor later.told store world) (sym same) (still_world world stands);
      }

      -- ---- without its record

      module _ (up : GivesUp old.files kept job file) where
        claims_given_up : AreClaimed new others
        claims_given_up = claims_without outside.told outside.known seen.sound.stored.named engine
            seen.sound.stored.order compaction others out old new (λ other there one among. over_given_up outside.told
            outside.known seen.sound.stored.named engine seen.sound.stored.order compaction others out other there one
            among job is old.files kept file up)
            (ap (λ space. without_claim space old.sequence_claimed) (sym is.space)) seen.claims

        are_given_up : AreFilesOf kept later.known gone_state
        are_given_up = files_given_up job outside engine compaction others file content seen.sound.stored is out output
            old.files seen.files are_kept job_out.kept.held.place kept up

        shown : (doubt : Option LogRecord) → IsSoundLogged logged later (record gone_state { doubt = doubt })
            → IsSeen new later (record gone_state { doubt = doubt })
        shown doubt is_sound = record {
          sound = is_sound;
          files = record {
            sequence = are_given_up.sequence;
            unsequence = are_given_up.unsequence;
            outgoing = are_given_up.outgoing;
            rights = are_given_up.rights;
            entries_in_sequence = are_given_up.entries_in_sequence;
            entries_in_unsequence = are_given_up.entries_in_unsequence;
          };
          told = told (gone_up job file old.files kept up);
          next = seen.next;
          jobs = jobs (gone_up job file old.files kept up);
          claims = claims_given_up;
        }

        given_up_seen : logged ≡ old.logged → IsSeen new later gone_state
        given_up_seen same = shown engine.doubt (subst (λ log. IsSoundLogged log later gone_state) (sym same) (record {
          memory = seen.sound.memory;
          log = log_later;
          stored = ended_later job outside engine compaction others file content seen.sound.stored is out output;
        }))

      -- ---- with it

      module _ (runs : InputRuns) (stand : AreRunsOf job runs old.files)
          (none : file ≡ None → IsOutput outside.told compaction []) where
        abbrev output_at : ℕ
        output_at = place job outside engine compaction others file content seen.sound.stored is out output old.files
            seen.files are_kept job_out.kept.held.place runs stand

        abbrev item : LogRecord
        item = compaction_record compaction (sent_files file) output_at

        module _ (outcome : Result (Unit {0}) Failed)
            (appends : AppendsEnd old (record old { logged = logged }) job runs file outcome) where
          can : CanCommitReplacement item appends.listed later engine compaction others (sent_files file) output_at
          can = can_replace job outside engine compaction others file content seen.sound.stored is out output old.files
              seen.files are_kept job_out.kept.held.place runs stand none appends.listed appends.least

          replaced : IsReplaced old.logged logged item appends.listed outcome
          replaced = subst (λ (i : LogRecord). IsReplaced old.logged logged i appends.listed outcome)
              (sym (same_record job outside engine compaction others file content seen.sound.stored is out output
              old.files seen.files are_kept job_out.kept.held.place runs stand)) appends.replaced

          keeps_world : KeepsWorld later.told engine.store
              (committed compaction others (sent_files file) output_at engine).store
          keeps_world = commit_keeps later.told later.known sound.stored.named engine sound.stored.order compaction
              others (sent_files file) output_at can.commits

          commits : IsSeenAfterEnd new later engine compaction others (sent_files file) output_at outcome
              → ((world : World) → StandsFor outside.told engine.store world → IsWorldOf new world)
              → CommitsIn old new outside engine compaction others file outcome
          commits after world = record {
            content = content;
            output = output;
            place = output_at;
            stands = output_stands job outside engine compaction others file content seen.sound.stored is out output
                old.files seen.files are_kept job_out.kept.held.place runs stand;
            step = after;
            moments = replaced.moments later engine compaction others (sent_files file) output_at sound can;
            world = world;
            keeps = keeps_world;
          }

        claims_finished : Finishes old.files kept job runs file → AreClaimed new others
        claims_finished up = claims_without outside.told outside.known seen.sound.stored.named engine
            seen.sound.stored.order compaction others out old new (λ other there one among. over_finished outside.told
            outside.known seen.sound.stored.named engine seen.sound.stored.order compaction others out other there one
            among job is old.files kept file runs stand up)
            (ap (λ space. without_claim space old.sequence_claimed) (sym is.space)) seen.claims

        commits_in : (outcome : Result (Unit {0}) Failed)
            → AppendsEnd old (record old { logged = logged }) job runs file outcome
            → EndsFiles job runs file old.files kept outcome
            → CommitsIn old new outside engine compaction others file outcome
        commits_in (Ok done) appends up = commits (Ok done) appends after (λ world stands. record {
          outside = with_record item later;
          state = committed compaction others (sent_files file) output_at engine;
          seen = after;
          stands = record {
            types = λ path. (still_world world stands).types path ∙ sym ((keeps_world (Ok done) appends).types path);
            values = λ at. (still_world world stands).values at ∙ sym ((keeps_world (Ok done) appends).values at);
          };
        })
          where
            after : IsSeen new (with_record item later)
                (committed compaction others (sent_files file) output_at engine)
            after = record {
              sound = (replaced (Ok done) appends).done later engine compaction others (sent_files file) output_at sound
                  (can (Ok done) appends);
              files = files_finished job outside engine compaction others file content seen.sound.stored is out output
                  old.files seen.files are_kept job_out.kept.held.place runs stand kept up;
              told = told (gone_finished job file runs old.files kept up);
              next = seen.next;
              jobs = jobs (gone_finished job file runs old.files kept up);
              claims = claims_finished up;
            }
        commits_in (Err fault) appends up =
            commits (Err fault) appends after (λ world stands. in_world world stands after)
          where
            from : IsSoundLogged logged later (settled gone_state)
                ⊎ (IsSoundLogged logged later gone_state ⊎ IsSoundLogged logged later (failed item gone_state))
                → IsSeen new later (settled gone_state)
                ⊎ (IsSeen new later gone_state ⊎ IsSeen new later (failed item gone_state))
            from (inl none) = inl (shown up None none)
            from (inr (inl same)) = inr (inl (shown up engine.doubt same))
            from (inr (inr this)) = inr (inr (shown up (Some item) this))

            after : IsSeen new later (settled gone_state)
                ⊎ (IsSeen new later gone_state ⊎ IsSeen new later (failed item gone_state))
            after = from ((replaced (Err fault) appends).failed later engine compaction others (sent_files file)
                output_at sound (can (Err fault) appends))

            in_world : (world : World) → StandsFor outside.told engine.store world
                → IsSeen new later (settled gone_state)
                ⊎ (IsSeen new later gone_state ⊎ IsSeen new later (failed item gone_state)) → IsWorldOf new world
            in_world world stands (inl none) = world_of world (settled gone_state) refl stands none
            in_world world stands (inr (inl same)) = world_of world gone_state refl stands same
            in_world world stands (inr (inr this)) = world_of world (failed item gone_state) refl stands this

  -- there is room for the record of a job that is out
  pub room_for : (name : R → NamedFile) (core : Core J F S R P means counts) (job : Job F S R P) (born : Stamp)
      (space : Space) (spot : ℕ) (number : FileNumber) → IsJobOut name core job
      → IsReplacement (framed_room core.logged) (Replaced born space spot number job.sequence job.unsequence)
  room_for name core job born space spot number out = (
    out.kept.few_sequence,
    out.kept.few_late,
    omega (
      arith,
      with_one_is (λ (c : Compaction). replaced_bytes c ≤ framed_room core.logged) out.compaction out.others
          out.compactions out.out out.keeps.room.replaced,
      all_inputs job out.kept.formed,
      ap length out.is.inputs ∙ length-map job.inputs input_file,
    ),
  )

  -- ---- the calls

  module _ (name : R → NamedFile) (sealed : S → NamedFile) (rights : S → ℕ) (job : Job F S R P)
      (built : Option (Built F S R P)) where
    is_commit : (old : Core J F S R P means counts) (logged : LoggedMemory J means counts) (kept : KeptFiles)
        (runs : InputRuns) (outcome : Result (Unit {0}) Failed) → IsJobOut name old job → AreKept old.files
        → IsOutputOf name sealed rights job built → AreRunsOf job runs old.files
        → AppendsEnd old (record old { logged = logged }) job runs (made_of sealed built) outcome
        → EndsFiles job runs (made_of sealed built) old.files kept outcome
        → IsJobCommit name old (record old {
          logged = logged;
          files = kept;
          sequence_claimed = without_claim job.space old.sequence_claimed;
        }) job (made_of sealed built) outcome
    is_commit old logged kept runs outcome job_out are_kept of stand appends up = record {
      ends = ends_job old logged kept job (made_of sealed built) name job_out are_kept appends.replaced.room
          (gone_as job runs (made_of sealed built) old.files kept outcome up)
          (left_as job old.files kept old.sequence_claimed job_out.kept.stands job_out.kept.formed are_kept runs
          (made_of sealed built) (made_fresh name sealed rights job built of) outcome stand up)
          (made_unread sealed built);
      runs = runs;
      stand = stand;
      files = up;
      states = λ outside engine compaction others seen is out tells some.
          let made = output_in name sealed rights job outside.told compaction is tells built of some in
          commits_in old logged kept job (made_of sealed built) name job_out are_kept appends.replaced.room outside
          engine compaction others made.0 seen is out made.1 runs stand
          (no_output_in name sealed rights job outside.told compaction is tells built of) outcome appends up;
      frozen = appends.replaced.frozen;
      working = appends.replaced.working;
      kept = appends.replaced.kept;
      memory = appends.replaced.memory;
      slot = appends.replaced.slot;
      cause = appends.replaced.cause;
    }

    pub appends_end : (old : Core J F S R P means counts) (logged : LoggedMemory J means counts) (runs : InputRuns)
        (outcome : Result (Unit {0}) Failed) (listed born : Option Stamp) (spot : ℕ) (number : FileNumber)
        → spot ≡ output_place job.space runs
        → number ≡ record { 0 = output_number (sent_files (made_of sealed built)) }
        → born ≡ option_map (λ (b : Built F S R P). b.entry.born) built
        → ((output : Option FileEntry) (files : KeptFiles)
        → option_map (λ (entry : FileEntry). entry.born) output ≡ born
        → HasReplaced job.space runs.sequence runs.unsequence output old.files files
        → IsLeastOf listed (listed_borns files))
        → IsReplaced old.logged logged (Replaced job.born job.space spot number job.sequence job.unsequence) listed
        outcome
        → AppendsEnd old (record old { logged = logged }) job runs (made_of sealed built) outcome
    appends_end old logged runs outcome listed born spot number at is_number is_born least replaced = record {
      listed = listed;
      least = λ files has. least (option_map (λ (one : NewFile). one.entry) (made_of sealed built)) files
          (same_born sealed built ∙ sym is_born) has;
      replaced = subst (λ (n : FileNumber). IsReplaced old.logged logged
          (Replaced job.born job.space (output_place job.space runs) n job.sequence job.unsequence) listed outcome)
          is_number
          (subst (λ (p : ℕ). IsReplaced old.logged logged
          (Replaced job.born job.space p number job.sequence job.unsequence) listed outcome) at replaced);
    }

    pub committed_from : (old mid free new : Core J F S R P means counts) (runs : InputRuns)
        (outcome : Result (Unit {0}) Failed) → IsJobOut name old job → AreKept old.files
        → IsOutputOf name sealed rights job built → AreRunsOf job runs old.files
        → mid ≡ record old { logged = mid.logged } → AppendsEnd old mid job runs (made_of sealed built) outcome
        → free ≡ record mid { sequence_claimed = without_claim job.space mid.sequence_claimed }
        → new ≡ record free { files = new.files }
        → EndsFiles job runs (made_of sealed built) free.files new.files outcome
        → IsJobCommit name old new job (made_of sealed built) outcome
    committed_from old mid free new runs outcome job_out are_kept of stand is_mid appends is_free is_new up =
        subst (λ core. IsJobCommit name old core job (made_of sealed built) outcome) (sym whole)
        (is_commit old mid.logged new.files runs outcome job_out are_kept of stand
        (subst (λ core. AppendsEnd old core job runs (made_of sealed built) outcome) is_mid appends)
        (subst (λ (files : KeptFiles). EndsFiles job runs (made_of sealed built) files new.files outcome)
        (ap (λ (core : Core J F S R P means counts). core.files) is_free
        ∙ ap (λ (core : Core J F S R P means counts). core.files) is_mid) up))
      where
        whole : new ≡ record old {
          logged = mid.logged;
          files = new.files;
          sequence_claimed = without_claim job.space old.sequence_claimed;
        }
        whole = is_new ∙ ap (λ (core : Core J F S R P means counts). record core { files = new.files })
            (is_free ∙ ap (λ (core : Core J F S R P means counts). record core {
              sequence_claimed = without_claim job.space core.sequence_claimed;
            }) is_mid)

    is_abandoned : (old : Core J F S R P means counts) (kept : KeptFiles) → IsJobOut name old job
        → AreKept old.files → GivesUp old.files kept job (made_of sealed built) → IsJobAbandoned old (record old {
          files = kept;
          sequence_claimed = without_claim job.space old.sequence_claimed;
        }) job (made_of sealed built)
    is_abandoned old kept job_out are_kept up = record {
      logged = refl;
      ends = ends_job old old.logged kept job (made_of sealed built) name job_out are_kept (omega arith)
          (gone_up job (made_of sealed built) old.files kept up)
          (given_up_inputs job old.files kept old.sequence_claimed job_out.kept.stands are_kept (made_of sealed built)
          up)
          (made_unread sealed built);
      files = up;
      step = step;
      world = λ outside engine compaction others content world seen is out output stands. world_of old old.logged kept
          job (made_of sealed built) name job_out are_kept (omega arith) outside engine compaction others content seen
          is out output world
          (ended compaction others (sent_files (made_of sealed built)) engine) refl stands
          (step outside engine compaction others content seen is out output);
    }
      where
        step : (outside : Outside) (engine : EngineState) (compaction : Compaction) (others : List Compaction)
            (content : Content) → IsSeen old outside engine → IsCompactionOf job compaction
            → IsWithOne compaction others engine.compactions
            → IsOutputIn outside.told compaction (made_of sealed built) content
            → IsSeen (record old {
              files = kept;
              sequence_claimed = without_claim job.space old.sequence_claimed;
            }) (with_new content (made_of sealed built) outside)
            (ended compaction others (sent_files (made_of sealed built)) engine)
        step outside engine compaction others content seen is out output = given_up_seen old old.logged kept job
            (made_of sealed built)
            name job_out are_kept (omega arith) outside engine compaction others content seen is out output up refl

    pub abandoned_from : (old free new : Core J F S R P means counts) → IsJobOut name old job → AreKept old.files
        → free ≡ record old { sequence_claimed = without_claim job.space old.sequence_claimed }
        → new ≡ record free { files = new.files } → GivesUp free.files new.files job (made_of sealed built)
        → IsJobAbandoned old new job (made_of sealed built)
    abandoned_from old free new job_out are_kept is_free is_new up =
        subst (λ core. IsJobAbandoned old core job (made_of sealed built))
        (sym (is_new ∙ ap (λ (core : Core J F S R P means counts). record core { files = new.files }) is_free))
        (is_abandoned old new.files job_out are_kept
        (subst (λ (files : KeptFiles). GivesUp files new.files job (made_of sealed built))
        (ap (λ (core : Core J F S R P means counts). core.files) is_free) up))
