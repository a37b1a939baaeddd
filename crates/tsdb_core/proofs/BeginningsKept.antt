-- What a core keeps for jobs, as a compaction begins.
use Rattle.std.proofs.Common.{◌≡◌, ℕ, ◌+◌, ◌*◌, ◌<◌, ◌≤◌, ◌==◌, Bool, true, false, List, ◌∷◌, length, map, Option}
use Rattle.std.proofs.Common.{None, Some, zero, suc, cond, ap, arith, refl, sym, subst, ◌∙◌}
use Rattle.std.proofs.lemmas.List.{length-map}
use Rattle.std.specs.Cmp.{unsigned_Decides}
use Rattle.std.specs.List.{AllByRecursion as Each, flat_map}
use Rattle.std.specs.Option.{option_map}
use Rattle.std.specs.Prelude.{IfSome}
use Rattle.tsdb_base.specs.declared.ids.Space.{Space}
use Rattle.tsdb_base.specs.declared.ids.Space.TheVariants.{Sequence, Unsequence}
use Rattle.tsdb_tasks.specs.Jobs.{IsCompactionOf, input_file}
use Rattle.tsdb_tasks.specs.Job.{Job}
use Rattle.tsdb_core.proofs.Jobs.{is_there}
use Rattle.tsdb_core.specs.Core.{KeepsJobs, flushed_below, kept_room, next_of}
use Rattle.tsdb_core.specs.declared.engine.Core.{Core}
use Rattle.tsdb_fileset.specs.Files.{IsOpen, kept_file}
use Rattle.tsdb_fileset.specs.Places.{KeptFile}
use Rattle.tsdb_fileset.specs.Replacing.{compaction_room as places_of}
use Rattle.tsdb_fileset.specs.Room.{more_room}
use Rattle.tsdb_fileset.specs.declared.room.Spare.{Spare}
use Rattle.tsdb_base.proofs.Lists.{each_among, each_append, each_left, each_right, each_weaker}
use Rattle.tsdb_base.specs.Lists.{count}
use Rattle.tsdb_memory.specs.LogState.{framed_room}
use Rattle.tsdb_outside.specs.declared.disk.Disk as disk
use Rattle.tsdb_outside.specs.declared.faults.Counted as counted_by
use Rattle.tsdb_tasks.specs.Changes.{more_rights}
use Rattle.tsdb_state.proofs.Holding.{room_with_compaction}
use Rattle.tsdb_state.proofs.Numbering.{count_drawn}
use Rattle.tsdb_state.specs.Jobs.{KeepsRoom, drawn_by, drawn_numbers, flushed_bytes, job_inputs, output_places}
use Rattle.tsdb_state.specs.Jobs.{replaced_bytes}
use Rattle.tsdb_state.specs.State as state
use Rattle.tsdb_state.specs.State.{Compaction}
use Rattle.tsdb_state.specs.Steps.{room_for_compaction}

-- ---- the places of a job

sequence_places : (space : Space) (n : ℕ) (spare : Spare)
    → (more_room spare (places_of space n)).sequence ≡ spare.sequence + output_places Sequence space
sequence_places Sequence n spare = refl
sequence_places Unsequence n spare = refl

late_places : (space : Space) (n : ℕ) (spare : Spare)
    → (more_room spare (places_of space n)).unsequence ≡ spare.unsequence + output_places Unsequence space
late_places Sequence n spare = refl
late_places Unsequence n spare = refl

outgoing_places_of : (space : Space) (n : ℕ) (spare : Spare)
    → (more_room spare (places_of space n)).outgoing ≡ spare.outgoing + n
outgoing_places_of Sequence n spare = refl
outgoing_places_of Unsequence n spare = refl

-- ---- a kept file goes on to have a number below the next one

still_below : (n a b k : ℕ) (found : Option KeptFile) → a ≤ b → IfSome found (λ file. n < a)
    → IfSome (option_map (more_rights k) found) (λ file. n < b)
still_below n a b k None less below = tt
still_below n a b k (Some file) less below = omega (arith, less, below)

-- no file is kept under the next number
pub none_next : (next : ℕ) (found : Option KeptFile) → IfSome found (λ file. next < next) → found ≡ None
none_next next None below = refl
none_next next (Some file) below = absurd (omega (arith, below))

module _ {J F S R P : Type 0} {means : disk.Ghosts J} {counts : counted_by.Ghosts J} where
  module _ (core new : Core J F S R P means counts) (job : Job F S R P) (flushes : List state.FlushState)
      (compactions : List Compaction) (compaction : Compaction) (is : IsCompactionOf job compaction)
      (keeps : KeepsJobs core flushes compactions) (output : job.output.0 ≡ next_of core)
      (next : next_of new ≡ next_of core + 1) (flushed : flushed_below new ≡ flushed_below core) (rights : ℕ → ℕ)
      (found : (n : ℕ) → kept_file n new.files ≡ option_map (more_rights (rights n)) (kept_file n core.files))
      (still_open : (n : ℕ) → IsOpen n core.files → IsOpen n new.files)
      (opened : kept_file job.output.0 core.files ≡ None → IsOpen job.output.0 new.files)
      (room : new.files.spare ≡ more_room core.files.spare (places_of job.space (length job.inputs)))
      (some : 1 ≤ length job.inputs) (more : framed_room core.logged ≤ framed_room new.logged)
      (enough : 39 + 8 * length job.inputs ≤ framed_room new.logged) where
    abbrev drawn : List ℕ
    drawn = drawn_numbers flushes compactions

    drawn_is : compaction.output ≡ next_of core
    drawn_is = is.output ∙ output

    inputs_are : length (job_inputs compaction) ≡ length job.inputs
    inputs_are = ap length is.inputs ∙ length-map job.inputs input_file

    pub free : kept_file job.output.0 core.files ≡ None
    free = subst (λ n. kept_file n core.files ≡ None) (sym output)
        (none_next (next_of core) (kept_file (next_of core) core.files) (keeps.below (next_of core)))

    -- the number of its output was not drawn before
    count_new : (n : ℕ) → count n (drawn_numbers flushes (compaction ∷ compactions)) ≤ 1
    count_new n = by (compaction.output == n) refl
      where
        all : count n (drawn_numbers flushes (compaction ∷ compactions))
            ≡ cond (compaction.output == n) 1 0 + count n drawn
        all = omega (arith, count_drawn n flushes (compaction ∷ compactions), count_drawn n flushes compactions)

        none : (k : ℕ) → count n drawn ≡ k → n ≡ next_of core → k ≤ 0
        none zero e same = omega arith
        none (suc k) e same = absurd (omega (
          arith,
          same,
          (each_among (λ m. (1 ≤ m) × (m < next_of core)) drawn n keeps.range
              (is_there n drawn (omega (arith, e)))).1,
        ))

        by : (b : Bool) → (compaction.output == n) ≡ b → count n (drawn_numbers flushes (compaction ∷ compactions)) ≤ 1
        by true e =
            let same : n ≡ next_of core = sym ((unsigned_Decides compaction.output n).0 e) ∙ drawn_is in
            omega (arith, all, ap {B = ℕ} (λ t. cond t 1 0) e, none (count n drawn) refl same)
        by false e = omega (arith, all, ap {B = ℕ} (λ t. cond t 1 0) e, keeps.differ n)

    -- what holds of the numbers that were drawn, and of that of its output
    with_new : (P : ℕ → Type 0) → Each P drawn → P compaction.output
        → Each P (drawn_numbers flushes (compaction ∷ compactions))
    with_new P old one = each_append P (flat_map drawn_by flushes)
        (map (λ (c : Compaction). c.output) (compaction ∷ compactions))
        (each_left P (flat_map drawn_by flushes) (map (λ (c : Compaction). c.output) compactions) old)
        (one, each_right P (flat_map drawn_by flushes) (map (λ (c : Compaction). c.output) compactions) old)

    kept_with : KeepsRoom (room_for_compaction (λ a b. a + b) compaction (kept_room core)) flushes
        (compaction ∷ compactions)
    kept_with = room_with_compaction compaction (kept_room core) flushes compactions keeps.room

    pub begun_kept : KeepsJobs new flushes (compaction ∷ compactions)
    begun_kept = record {
      from_one = omega (arith, next);
      below = λ n. subst (λ o. IfSome o (λ file. n < next_of new)) (sym (found n))
          (still_below n (next_of core) (next_of new) (rights n) (kept_file n core.files) (omega (arith, next))
          (keeps.below n));
      flushed = omega (arith, flushed, next, keeps.flushed);
      differ = count_new;
      range = with_new (λ n. (1 ≤ n) × (n < next_of new))
          (each_weaker (λ n. (1 ≤ n) × (n < next_of core)) (λ n. (1 ≤ n) × (n < next_of new))
          (λ n within. (within.0, omega (arith, within.1, next))) drawn keeps.range)
          (omega (arith, drawn_is, keeps.from_one), omega (arith, drawn_is, next));
      places = with_new (λ n. IsOpen n new.files)
          (each_weaker (λ n. IsOpen n core.files) (λ n. IsOpen n new.files) still_open drawn keeps.places)
          (subst (λ n. IsOpen n new.files) (sym is.output) (opened free));
      room = record {
        sequence = omega (
          arith,
          kept_with.sequence,
          ap (λ (r : Spare). r.sequence) room,
          sequence_places job.space (length job.inputs) core.files.spare,
          ap (output_places Sequence) is.space,
        );
        unsequence = omega (
          arith,
          kept_with.unsequence,
          ap (λ (r : Spare). r.unsequence) room,
          late_places job.space (length job.inputs) core.files.spare,
          ap (output_places Unsequence) is.space,
        );
        outgoing = omega (
          arith,
          kept_with.outgoing,
          ap (λ (r : Spare). r.outgoing) room,
          outgoing_places_of job.space (length job.inputs) core.files.spare,
          inputs_are,
          some,
        );
        flushed = each_weaker (λ (f : state.FlushState). flushed_bytes ≤ framed_room core.logged)
            (λ f. flushed_bytes ≤ framed_room new.logged) (λ f fits. omega (arith, fits, more)) flushes keeps.room.flushed;
        replaced = (
          omega (arith, enough, inputs_are),
          each_weaker (λ (c : Compaction). replaced_bytes c ≤ framed_room core.logged)
              (λ c. replaced_bytes c ≤ framed_room new.logged) (λ c fits. omega (arith, fits, more)) compactions
              keeps.room.replaced,
        );
      };
    }
