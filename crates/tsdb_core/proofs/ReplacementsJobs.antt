-- What a core keeps for the other jobs stays where a compaction ends.
use Rattle.std.proofs.Common.{◌≡◌, ◌≢◌, ℕ, ◌+◌, ◌-◌, ◌<◌, ◌≤◌, ◌==◌, Bool, true, false, List, [], ◌∷◌, length, Option}
use Rattle.std.proofs.Common.{None, Some, inl, ap, arith, refl, sym, subst, ◌∙◌}
use Rattle.std.proofs.lemmas.Bool.{false≢true}
use Rattle.std.proofs.lemmas.List.{length-map}
use Rattle.std.specs.Cmp.{unsigned_Decides}
use Rattle.std.specs.Option.{option_map}
use Rattle.std.specs.Prelude.{IfSome}
use Rattle.tsdb_base.specs.declared.ids.Space.{Space}
use Rattle.tsdb_base.specs.declared.ids.Space.TheVariants.{Sequence, Unsequence}
use Rattle.tsdb_tasks.specs.Files.{NewFile}
use Rattle.tsdb_tasks.proofs.InState.{OthersGiveRights, file_changed}
use Rattle.tsdb_tasks.specs.Ending.{GivesUp}
use Rattle.tsdb_tasks.specs.Finishing.{Finishes}
use Rattle.tsdb_tasks.specs.Inputs.{input_numbers}
use Rattle.tsdb_tasks.specs.declared.finishing.InputRuns.{InputRuns}
use Rattle.tsdb_tasks.specs.Jobs.{IsCompactionOf, input_file}
use Rattle.tsdb_tasks.specs.Job.{Job}
use Rattle.tsdb_core.proofs.Jobs.{is_counted, is_there}
use Rattle.tsdb_core.specs.Core.{KeepsJobs, kept_room, next_of}
use Rattle.tsdb_core.specs.declared.engine.Core.{Core}
use Rattle.tsdb_fileset.specs.Files.{IsOpen, KeptFiles, kept_file}
use Rattle.tsdb_fileset.specs.Places.{KeptFile, file_at, place_of_number}
use Rattle.tsdb_fileset.specs.Replacing.{less_compaction}
use Rattle.tsdb_fileset.specs.declared.room.Spare.{Spare}
use Rattle.tsdb_base.proofs.Lists.{each_among, each_from_among, each_weaker, with_one_each}
use Rattle.tsdb_base.specs.Lists.{Among, IsWithOne, count}
use Rattle.tsdb_memory.specs.LogState.{framed_room}
use Rattle.tsdb_memory.specs.declared.logged_memory.LoggedMemory.{LoggedMemory}
use Rattle.tsdb_outside.specs.declared.disk.Disk as disk
use Rattle.tsdb_outside.specs.declared.faults.Counted as counted_by
use Rattle.tsdb_tasks.specs.Changes.{fewer_rights}
use Rattle.tsdb_state.proofs.Holding.{room_without_compaction}
use Rattle.tsdb_state.proofs.Numbering.{count_drawn, count_map_one}
use Rattle.tsdb_state.specs.Jobs.{KeepsRoom, drawn_numbers, flushed_bytes, outgoing_places}
use Rattle.tsdb_state.specs.Jobs.{output_places, replaced_bytes}
use Rattle.tsdb_state.specs.State as state
use Rattle.tsdb_state.specs.State.{Compaction}
use Rattle.tsdb_state.specs.Steps.{room_for_compaction}

-- The job is gone from the files: its output is there, if there is one, all others have given the rights of the job
-- back, and it needs its places no more.
pub record IsGone {F S R P : Type 0} (job : Job F S R P) (file : Option NewFile) (old new : KeptFiles) : Type 0 where
  pub here : kept_file job.output.0 new ≡ option_map (λ (one : NewFile). one.token) file
  pub others : OthersGiveRights job old new
  pub room : new.spare ≡ less_compaction job.space (length job.inputs) old.spare
  pub store : new.store ≡ old.store

pub gone_up : {F S R P : Type 0} (job : Job F S R P) (file : Option NewFile) (old new : KeptFiles)
    → GivesUp old new job file → IsGone job file old new
gone_up job file old new up = record { here = up.here; others = up.others; room = up.room; store = up.store }

pub gone_finished : {F S R P : Type 0} (job : Job F S R P) (file : Option NewFile) (runs : InputRuns)
    (old new : KeptFiles) → Finishes old new job runs file → IsGone job file old new
gone_finished job file runs old new up =
    record { here = up.here; others = up.others; room = up.room; store = up.lists.store_is }

-- the places that are left
less_sequence : (space : Space) (n : ℕ) (spare : Spare)
    → (less_compaction space n spare).sequence ≡ spare.sequence - output_places Sequence space
less_sequence Sequence n spare = omega arith
less_sequence Unsequence n spare = omega arith

less_unsequence : (space : Space) (n : ℕ) (spare : Spare)
    → (less_compaction space n spare).unsequence ≡ spare.unsequence - output_places Unsequence space
less_unsequence Sequence n spare = omega arith
less_unsequence Unsequence n spare = omega arith

less_outgoing : (space : Space) (n : ℕ) (spare : Spare) → (less_compaction space n spare).outgoing ≡ spare.outgoing - n
less_outgoing Sequence n spare = omega arith
less_outgoing Unsequence n spare = omega arith

-- what holds of the name of each file goes on to hold, if it does of that of the output
name_of_each : {F S R T : Type 0} (P : ℕ → KeptFile → Type 0) (job : Job F S R T) (file : Option NewFile)
    (old new : KeptFiles) → IsGone job file old new
    → ((n k : ℕ) (one : KeptFile) → P n one → P n (fewer_rights k one))
    → IfSome file (λ one. P job.output.0 one.token) → ((n : ℕ) → IfSome (kept_file n old) (P n)) → (n : ℕ)
    → IfSome (kept_file n new) (P n)
name_of_each P job file old new gone fewer output all n = by (job.output.0 == n) refl
  where
    token : (o : Option NewFile) → IfSome o (λ one. P job.output.0 one.token)
        → IfSome (option_map (λ (one : NewFile). one.token) o) (P job.output.0)
    token None holds = tt
    token (Some one) holds = holds

    less : (k : ℕ) (o : Option KeptFile) → IfSome o (P n) → IfSome (option_map (fewer_rights k) o) (P n)
    less k None holds = tt
    less k (Some one) holds = fewer n k one holds

    by : (b : Bool) → (job.output.0 == n) ≡ b → IfSome (kept_file n new) (P n)
    by true e = subst (λ m. IfSome (kept_file m new) (P m)) ((unsigned_Decides job.output.0 n).0 e)
        (subst (λ found. IfSome found (P job.output.0)) (sym gone.here) (token file output))
    by false e =
        let k = count n (input_numbers job.inputs) in
        subst (λ found. IfSome found (P n)) (sym (ap file_at (gone.others n
        (λ same. false≢true (sym e ∙ (unsigned_Decides job.output.0 n).1 same)))
        ∙ file_changed (fewer_rights k) (place_of_number n old.places)))
        (less k (kept_file n old) (all n))

module _ {J F S R P : Type 0} {means : disk.Ghosts J} {counts : counted_by.Ghosts J} where
  module _ (core : Core J F S R P means counts) (logged : LoggedMemory J means counts) (kept : KeptFiles) (claimed : Bool)
      (job : Job F S R P) (file : Option NewFile) (more : framed_room core.logged ≤ framed_room logged)
      (some : 1 ≤ length job.inputs) (gone : IsGone job file core.files kept)
      (compaction : Compaction) (others compactions : List Compaction) (flushes : List state.FlushState)
      (is : IsCompactionOf job compaction) (out : IsWithOne compaction others compactions)
      (keeps : KeepsJobs core flushes compactions) where
    parted : (n : ℕ) → count n (drawn_numbers flushes compactions)
        ≡ count n (compaction.output ∷ []) + count n (drawn_numbers flushes others)
    parted n = omega (
      arith,
      count_drawn n flushes compactions,
      count_drawn n flushes others,
      count_map_one (λ (c : Compaction). c.output) n compaction others compactions out,
    )

    also : (n : ℕ) → Among n (drawn_numbers flushes others) → Among n (drawn_numbers flushes compactions)
    also n other = is_there n (drawn_numbers flushes compactions)
        (omega (arith, parted n, is_counted n (drawn_numbers flushes others) other))

    mine : Among job.output.0 (drawn_numbers flushes compactions)
    mine = subst (λ n. Among n (drawn_numbers flushes compactions)) is.output
        (is_there compaction.output (drawn_numbers flushes compactions) (omega (
          arith,
          parted compaction.output,
          is_counted compaction.output (compaction.output ∷ []) (inl refl),
        )))

    apart : (n : ℕ) → Among n (drawn_numbers flushes others) → job.output.0 ≢ n
    apart n other same = omega (
      arith,
      parted n,
      keeps.differ n,
      is_counted n (compaction.output ∷ []) (inl (is.output ∙ same)),
      is_counted n (drawn_numbers flushes others) other,
    )

    -- as many inputs as places among the outgoing files
    places_are : outgoing_places compaction ≡ length job.inputs
    places_are = omega (arith, some, ap length is.inputs ∙ length-map job.inputs input_file)

    still_open : (n : ℕ) → Among n (drawn_numbers flushes others) → IsOpen n kept
    still_open n there = gone.others n (apart n there)
        ∙ ap (λ place. option_map (λ p. option_map (fewer_rights (count n (input_numbers job.inputs))) p) place)
        (each_among (λ m. IsOpen m core.files) (drawn_numbers flushes compactions) n keeps.places (also n there))

    less : KeepsRoom (room_for_compaction (λ a b. a - b) compaction (kept_room core)) flushes others
    less = room_without_compaction compaction others (kept_room core) flushes compactions out keeps.room

    pub others_kept : KeepsJobs (record core { logged = logged; files = kept; sequence_claimed = claimed }) flushes
        others
    others_kept = record {
      from_one = keeps.from_one;
      below = name_of_each (λ n one. n < next_of core) job file core.files kept gone (λ n k one is. is)
          (below_output file) keeps.below;
      flushed = keeps.flushed;
      differ = λ n. omega (arith, parted n, keeps.differ n);
      range = each_from_among _ (drawn_numbers flushes others) (λ n there.
          each_among _ (drawn_numbers flushes compactions) n keeps.range (also n there));
      places = each_from_among _ (drawn_numbers flushes others) still_open;
      room = record {
        sequence = omega (
          arith,
          less.sequence,
          ap (λ (s : Spare). s.sequence) gone.room,
          less_sequence job.space (length job.inputs) core.files.spare,
          ap (output_places Sequence) is.space,
        );
        unsequence = omega (
          arith,
          less.unsequence,
          ap (λ (s : Spare). s.unsequence) gone.room,
          less_unsequence job.space (length job.inputs) core.files.spare,
          ap (output_places Unsequence) is.space,
        );
        outgoing = omega (
          arith,
          less.outgoing,
          ap (λ (s : Spare). s.outgoing) gone.room,
          less_outgoing job.space (length job.inputs) core.files.spare,
          places_are,
        );
        flushed = each_weaker (λ (f : state.FlushState). flushed_bytes ≤ framed_room core.logged)
            (λ f. flushed_bytes ≤ framed_room logged) (λ f fits. omega (arith, fits, more)) flushes keeps.room.flushed;
        replaced = each_weaker (λ (c : Compaction). replaced_bytes c ≤ framed_room core.logged)
            (λ c. replaced_bytes c ≤ framed_room logged) (λ c fits. omega (arith, fits, more)) others
            (with_one_each (λ (c : Compaction). replaced_bytes c ≤ framed_room core.logged) compaction others compactions
            out keeps.room.replaced);
      };
    }
      where
        below_output : (o : Option NewFile) → IfSome o (λ one. job.output.0 < next_of core)
        below_output None = tt
        below_output (Some one) =
            (each_among _ (drawn_numbers flushes compactions) job.output.0 keeps.range mine).1
