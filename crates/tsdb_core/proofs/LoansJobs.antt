-- What a core keeps for jobs and pins that are out, as a compaction begins and as it ends.
use Rattle.std.proofs.Common.{◌≡◌, ◌≢◌, ◌==◌, ◌++◌, ℕ, ◌-◌, Bool, true, false, List, [], ◌∷◌, drop, map, take, Option}
use Rattle.std.proofs.Common.{None, Some, Result, Ok, Err, inl, inr, ap, arith, refl, sym, subst, ◌∙◌}
use Rattle.std.proofs.lemmas.Bool.{false≢true}
use Rattle.std.proofs.lemmas.List.Elements.{recursion_from_All}
use Rattle.std.specs.Cmp.{unsigned_Decides}
use Rattle.std.specs.List.{AllByRecursion as Each}
use Rattle.std.specs.Option.{option_map}
use Rattle.std.specs.Prelude.{IfSome, slice_range}
use Rattle.tsdb_base.specs.declared.ids.Space.{Space}
use Rattle.tsdb_base.specs.declared.ids.Space.TheVariants.{Sequence, Unsequence}
use Rattle.tsdb_tasks.proofs.Given.{once_late}
use Rattle.tsdb_tasks.proofs.InState.{OthersGiveRights, file_changed}
use Rattle.tsdb_tasks.proofs.Out.{plain_is}
use Rattle.tsdb_tasks.specs.Ending.{GivesUp}
use Rattle.tsdb_tasks.specs.Finishing.{AreRunsOf, Finishes, StandInSequence}
use Rattle.tsdb_tasks.specs.Inputs.{AreHeld, input_numbers}
use Rattle.tsdb_tasks.specs.declared.finishing.InputRuns.{InputRuns}
use Rattle.tsdb_tasks.specs.Files.{NewFile}
use Rattle.tsdb_tasks.specs.Jobs.{IsCompactionOf, IsJobFormed, input_file}
use Rattle.tsdb_tasks.specs.Input.{Input}
use Rattle.tsdb_tasks.specs.Job.{Job}
use Rattle.tsdb_core.proofs.Loans.{named_right}
use Rattle.tsdb_core.proofs.LoansInputs.{free_apart, fresh_owned, from_stands, inputs_left, late_beside, none_there}
use Rattle.tsdb_core.proofs.LoansInputs.{owned_left, owned_more, run_stands_claimed, sequence_beside}
use Rattle.tsdb_core.proofs.LoansRights.{IsNamedIn, fewer_counted, no_right_on, none_of_others, rights_given}
use Rattle.tsdb_core.proofs.LoansRights.{rights_taken}
use Rattle.tsdb_core.specs.Beginnings.{ArePlanned, claimed_by}
use Rattle.tsdb_core.specs.Compactions.{AreOnInputs, job_rights}
use Rattle.tsdb_core.specs.Core.{files_of, is_sequence_claimed}
use Rattle.tsdb_core.specs.Loans.{AreJobNumbersApart, AreRightsKept, KeepsInputs, LentRight, StandClaimed, StandFrom, StandsIn}
use Rattle.tsdb_core.specs.Loans.{all_lent, lent_numbers}
use Rattle.tsdb_core.specs.Replacements.{EndsFiles, without_claim}
use Rattle.tsdb_core.specs.declared.engine.Core.{Core}
use Rattle.tsdb_fileset.proofs.Replaced.{run_parts}
use Rattle.tsdb_fileset.specs.Files.{AreKept, IsOpen, KeptFiles, entry_numbers, kept_file}
use Rattle.tsdb_fileset.specs.Places.{KeptFile, file_at, place_of_number}
use Rattle.tsdb_fileset.specs.Replacing.{IsWithin, claim_run, output_in, with_claim}
use Rattle.tsdb_base.proofs.Lists.{each_all, each_among, each_from_among, each_map, each_weaker}
use Rattle.tsdb_base.specs.Lists.{Among, IsWithOne, count, if_some}
use Rattle.tsdb_outside.specs.Files.{NamedFile, plain_numbers}
use Rattle.tsdb_outside.specs.declared.disk.Disk as disk
use Rattle.tsdb_outside.specs.declared.faults.Counted as counted_by
use Rattle.tsdb_outside.specs.declared.faults.Failed.{Failed}
use Rattle.tsdb_tasks.specs.Changes.{fewer_rights, more_rights}
use Rattle.tsdb_plan.specs.declared.entry.FileEntry.{FileEntry}
use Rattle.tsdb_plan.specs.declared.entry.Run.{Run}
use Rattle.tsdb_state.specs.Plans.{IsSequenceFree}
use Rattle.tsdb_state.specs.Records.{numbers_of}
use Rattle.tsdb_state.specs.State.{Compaction}

-- ---- the rights of a job

module _ {F S R P : Type 0} (name : R → NamedFile) where
  numbers_of_inputs : (inputs : List (Input F S R P))
      → lent_numbers (map (λ (input : Input F S R P). record { number = input.number.0; name = name input.right }) inputs)
      ≡ input_numbers inputs
  numbers_of_inputs [] = refl
  numbers_of_inputs (input ∷ inputs) = ap (λ ns. input.number.0 ∷ ns) (numbers_of_inputs inputs)

  -- the rights of a job are on its inputs
  pub on_inputs : (job : Job F S R P) → AreOnInputs job (job_rights name job)
  on_inputs job = numbers_of_inputs job.inputs

  named_inputs : (files : KeptFiles) (inputs : List (Input F S R P)) → AreHeld name files inputs
      → Each (IsNamedIn files)
      (map (λ (input : Input F S R P). record { number = input.number.0; name = name input.right }) inputs)
  named_inputs files [] held = tt
  named_inputs files (input ∷ inputs) held =
      (named_right name input.right (kept_file input.number.0 files) held.0, named_inputs files inputs held.1)

  -- the rights that a job takes
  pub job_rights_taken : (old new : KeptFiles) (job : Job F S R P) (lent : List (List LentRight))
      → ((n : ℕ) → kept_file n new ≡ option_map (more_rights (count n (input_numbers job.inputs))) (kept_file n old))
      → AreHeld name old job.inputs → AreRightsKept old (all_lent lent)
      → AreRightsKept new (all_lent (job_rights name job ∷ lent))
  job_rights_taken old new job lent found held kept = rights_taken old new (job_rights name job) (all_lent lent)
      (λ n. subst (λ ns. kept_file n new ≡ option_map (more_rights (count n ns)) (kept_file n old))
      (sym (on_inputs job)) (found n)) (named_inputs old job.inputs held) kept

module _ {F S R P : Type 0} where
  -- and those that it gives back
  pub job_rights_given : (old new : KeptFiles) (job : Job F S R P) (file : Option NewFile) (mine : List LentRight)
      (others lent : List (List LentRight)) → kept_file job.output.0 new ≡ option_map (λ (one : NewFile). one.token) file
      → IfSome file (λ one. one.token.rights ≡ 0) → OthersGiveRights job old new → IsOpen job.output.0 old
      → AreOnInputs job mine → IsWithOne mine others lent → AreRightsKept old (all_lent lent)
      → AreRightsKept new (all_lent others)
  job_rights_given old new job file mine others lent here unread gives is_open on out kept =
      rights_given old new mine others lent out (λ n some. given n (λ same. no_right_on old (all_lent lent) kept n
      (subst (λ m. kept_file m old ≡ None) same (ap file_at is_open)) some)) counts kept
    where
      given : (n : ℕ) → job.output.0 ≢ n
          → kept_file n new ≡ option_map (fewer_rights (count n (lent_numbers mine))) (kept_file n old)
      given n other = subst (λ ns. kept_file n new ≡ option_map (fewer_rights (count n ns)) (kept_file n old)) (sym on)
          (ap file_at (gives n other)
          ∙ file_changed (fewer_rights (count n (input_numbers job.inputs))) (place_of_number n old.places))

      of_output : (o : Option NewFile) → IfSome o (λ one. one.token.rights ≡ 0)
          → IfSome (option_map (λ (one : NewFile). one.token) o)
          (λ file. file.rights ≡ count job.output.0 (lent_numbers (all_lent others)))
      of_output None none = tt
      of_output (Some one) none = none ∙ none_of_others old mine others lent out kept job.output.0 (ap file_at is_open)

      by : (n : ℕ) (b : Bool) → (job.output.0 == n) ≡ b
          → IfSome (kept_file n new) (λ file. file.rights ≡ count n (lent_numbers (all_lent others)))
      by n true same = subst (λ m. IfSome (kept_file m new) (λ file. file.rights ≡ count m
          (lent_numbers (all_lent others)))) ((unsigned_Decides job.output.0 n).0 same)
          (subst (λ o. IfSome o (λ (one : KeptFile). one.rights ≡ count job.output.0 (lent_numbers (all_lent others))))
          (sym here) (of_output file unread))
      by n false other = fewer_counted old new mine others lent out kept n
          (given n (λ same. false≢true (sym other ∙ (unsigned_Decides job.output.0 n).1 same)))

      counts : (n : ℕ) → IfSome (kept_file n new) (λ file. file.rights ≡ count n (lent_numbers (all_lent others)))
      counts n = by n (job.output.0 == n) refl

-- ---- a compaction that begins

abbrev pub IsUnclaimed : FileEntry → Type 0
IsUnclaimed entry = entry.claimed ≡ false

no_space : Sequence ≡ Unsequence → ⊥
no_space is = cc

less_none : (n : ℕ) → n - 0 ≡ n
less_none n = omega arith

module _ {F S R P : Type 0} where
  -- The late files of a run are claimed for a job, of which none was claimed: its inputs stand, and those of all others
  -- do still.
  pub begun_inputs : (old new : KeptFiles) (claimed now_claimed : Bool) (job : Job F S R P) (made : Compaction)
      (compactions : List Compaction) (run : Run) → IsCompactionOf job made → AreKept old
      → IsWithin run old.unsequence → new.unsequence ≡ claim_run run true old.unsequence
      → new.sequence ≡ old.sequence
      → job.unsequence ≡ map (λ (entry : FileEntry). entry.number) (slice_range old.unsequence run.first run.end)
      → Each IsUnclaimed (slice_range old.unsequence run.first run.end)
      → StandInSequence job.space job.place job.sequence new.sequence → (job.space ≡ Sequence → claimed ≡ false)
      → now_claimed ≡ claimed_by job.space claimed → KeepsInputs old claimed compactions
      → KeepsInputs new now_claimed (made ∷ compactions)
  begun_inputs old new claimed now_claimed job made compactions run is kept within late early numbers free stands was
      now keeps = record {
        stand = (
          record {
            late = subst (λ ns. StandClaimed ns new.unsequence) (sym mine)
                (run_stands_claimed run old.unsequence new.unsequence late);
            sequence = subst (λ (ns : List ℕ). StandFrom made.space made.place ns (entry_numbers new.sequence))
                (sym is.sequence)
                (subst (λ (space : Space). StandFrom space made.place (plain_numbers job.sequence)
                (entry_numbers new.sequence)) (sym is.space)
                (subst (λ (place : ℕ). StandFrom job.space place (plain_numbers job.sequence)
                (entry_numbers new.sequence)) (sym is.place)
                (from_stands job.space job.place job.sequence new.sequence stands)));
          },
          each_weaker (StandsIn old) (StandsIn new) (λ other stand. record {
            late = late_beside (entry_numbers mid) (numbers_of other.unsequence) run (map (with_claim true) mid)
                old.unsequence new.unsequence within refl
                (λ none. ap (map (with_claim true)) (none_there mid none))
                (shares_none other stand) late stand.late;
            sequence = subst (λ es. StandFrom other.space other.place (numbers_of other.sequence) (entry_numbers es))
                (sym early) stand.sequence;
          }) compactions keeps.stand,
        );
        apart = (
          each_from_among (AreJobNumbersApart made) compactions (λ other among. record {
            one = λ first second. each_among (λ (c : Compaction). c.space ≡ Sequence → ⊥) compactions other
                (keeps.free (was (sym is.space ∙ first))) among second;
            late = λ n first second. shares_none other
                (each_among (StandsIn old) compactions other keeps.stand among) n
                (subst (Among n) mine first) second;
          }),
          keeps.apart,
        );
        free = λ none. (
          λ same. not_free job.space (sym now ∙ none) (sym is.space ∙ same),
          keeps.free (was_free job.space (sym now ∙ none)),
        );
        taken = λ some. is_taken job.space refl (sym now ∙ some);
        owned = owned_more run old.unsequence new.unsequence made compactions within mine late keeps.owned;
      }
    where
      mid : List FileEntry
      mid = slice_range old.unsequence run.first run.end

      mine : numbers_of made.unsequence ≡ entry_numbers mid
      mine = is.unsequence ∙ ap plain_numbers numbers ∙ plain_is mid

      shares_none : (other : Compaction) → StandsIn old other → (n : ℕ) → Among n (entry_numbers mid)
          → Among n (numbers_of other.unsequence) → ⊥
      shares_none other stand = free_apart old.unsequence mid (take run.first old.unsequence)
          (drop run.end old.unsequence) (numbers_of other.unsequence)
          (run_parts run.first run.end old.unsequence within.rises) (once_late old kept) free stand.late

      not_free : (space : Space) → claimed_by space claimed ≡ false → space ≡ Sequence → ⊥
      not_free Sequence none same = false≢true (sym none)
      not_free Unsequence none same = no_space (sym same)

      is_taken : (space : Space) → job.space ≡ space → claimed_by space claimed ≡ true
          → ¬ IsSequenceFree (made ∷ compactions)
      is_taken Sequence same some free = free.0 (is.space ∙ same)
      is_taken Unsequence same some free = keeps.taken some free.1

      was_free : (space : Space) → claimed_by space claimed ≡ false → claimed ≡ false
      was_free Sequence none = absurd (false≢true (sym none))
      was_free Unsequence none = none

module _ {J F S R P : Type 0} {means : disk.Ghosts J} {counts : counted_by.Ghosts J} where
  -- no late file of a plan is claimed
  pub planned_free : (space : Space) (core : Core J F S R P means counts) (runs : InputRuns)
      → ArePlanned space core runs → Each IsUnclaimed
      (slice_range (files_of core).unsequence runs.unsequence.first runs.unsequence.end)
  planned_free Sequence core runs (inl plan) = subst (λ (run : Run). Each IsUnclaimed
      (slice_range core.files.unsequence run.first run.end)) (sym plan.none) tt
  planned_free Unsequence core runs (inl plan) = recursion_from_All IsUnclaimed
      (slice_range core.files.unsequence runs.unsequence.first runs.unsequence.end) plan.plan.row.row.free
  planned_free space core runs (inr (is, plan)) =
      subst (λ n. Each IsUnclaimed (slice_range core.files.unsequence n runs.unsequence.end)) (sym plan.first)
      (subst (λ n. Each IsUnclaimed (take n core.files.unsequence)) (sym (less_none runs.unsequence.end))
      (recursion_from_All IsUnclaimed (take runs.unsequence.end core.files.unsequence) plan.plan.eligible.free))

  -- a plan with a sequence output is made only where no job has the sequence list
  pub planned_unclaimed : (space : Space) (core : Core J F S R P means counts) (runs : InputRuns)
      → ArePlanned space core runs → space ≡ Sequence → is_sequence_claimed core ≡ false
  planned_unclaimed Sequence core runs (inl plan) same = plan.free
  planned_unclaimed Unsequence core runs (inl plan) same = absurd (no_space (sym same))
  planned_unclaimed space core runs (inr (is, plan)) same = plan.free

-- ---- a compaction that ends

module _ {F S R P : Type 0} where
  no_inputs : (inputs : List (Input F S R P)) → numbers_of (map input_file inputs) ≡ [] → inputs ≡ []
  no_inputs [] is = refl
  no_inputs (input ∷ inputs) is = absurd cc

  -- the inputs of each other compaction are as they were, once this job is gone
  abbrev pub LeavesInputs : Job F S R P → KeptFiles → KeptFiles → Bool → Type 0
  LeavesInputs job old new claimed = (made : Compaction) (others compactions : List Compaction)
      → IsCompactionOf job made → IsWithOne made others compactions → KeepsInputs old claimed compactions
      → KeepsInputs new (without_claim job.space claimed) others

  module _ (job : Job F S R P) (old new : KeptFiles) (claimed : Bool)
      (stands : StandInSequence job.space job.place job.sequence old.sequence) where
    none_early : job.space ≡ Unsequence → job.sequence ≡ []
    none_early same = subst (λ (space : Space). StandInSequence space job.place job.sequence old.sequence) same stands

    -- a job of late files has some, and so a place for its output
    late_output : IsJobFormed job → plain_numbers job.unsequence ≡ [] → (output : Option FileEntry) (space : Space)
        → job.space ≡ space → if_some (output_in Unsequence space output) ≡ []
    late_output formed none output Sequence same = refl
    late_output formed none output Unsequence same = absurd (formed.some (no_inputs job.inputs
        (formed.numbers ∙ (λ i. plain_numbers (none_early same i) ++ none i))))

    -- the output of a job, where it comes to the late files, is one that no job has claimed
    fresh_output : (space : Space) (file : Option NewFile) → IfSome file (λ one. one.entry.claimed ≡ false)
        → Each IsUnclaimed (if_some (output_in Unsequence space (option_map (λ (one : NewFile). one.entry) file)))
    fresh_output Sequence file fresh = tt
    fresh_output Unsequence None fresh = tt
    fresh_output Unsequence (Some one) fresh = (fresh, tt)

    pub finished_inputs : IsJobFormed job → AreKept old → (runs : InputRuns) (file : Option NewFile)
        → IfSome file (λ one. one.entry.claimed ≡ false) → AreRunsOf job runs old
        → Finishes old new job runs file → LeavesInputs job old new claimed
    finished_inputs formed kept runs file fresh stand up made others compactions is out keeps =
        inputs_left old new job.space claimed made others compactions is.space out (λ other apart there. record {
          late = late_beside (plain_numbers job.unsequence) (numbers_of other.unsequence) runs.unsequence
              (if_some (output_in Unsequence job.space output)) old.unsequence new.unsequence
              stand.unsequence.within stand.unsequence.are
              (λ none. late_output formed none output job.space refl)
              (λ n first second. apart.late n (subst (Among n) (sym is.unsequence) first) second)
              up.lists.unsequence_is there.late;
          sequence = sequence_beside job.space other.space runs.sequence job.sequence other.place
              (numbers_of other.sequence) output old.sequence new.sequence
              (λ first second. apart.one (is.space ∙ first) second) none_early stand.sequence up.lists.sequence_is
              there.sequence;
        })
        (owned_left runs.unsequence (if_some (output_in Unsequence job.space output)) old.unsequence new.unsequence made
        others compactions stand.unsequence.within (stand.unsequence.are ∙ sym is.unsequence) (once_late old kept) out
        (fresh_owned others (if_some (output_in Unsequence job.space output)) (fresh_output job.space file fresh))
        up.lists.unsequence_is keeps.owned) keeps
      where
        output : Option FileEntry
        output = option_map (λ (one : NewFile). one.entry) file

    pub given_up_inputs : AreKept old → (file : Option NewFile) → GivesUp old new job file
        → LeavesInputs job old new claimed
    given_up_inputs kept file up made others compactions is out keeps =
        inputs_left old new job.space claimed made others compactions is.space out (λ other apart there. record {
          late = late_beside (plain_numbers job.unsequence) (numbers_of other.unsequence) up.unsequence.run
              (map (with_claim false) mid) old.unsequence new.unsequence up.unsequence.within up.unsequence.are
              (λ none. ap (map (with_claim false)) (none_there mid (up.unsequence.are ∙ none)))
              (λ n first second. apart.late n (subst (Among n) (sym is.unsequence) first) second)
              up.unsequence.is there.late;
          sequence = subst (λ es. StandFrom other.space other.place (numbers_of other.sequence) (entry_numbers es))
              (sym up.sequence) there.sequence;
        })
        (owned_left up.unsequence.run (map (with_claim false) mid) old.unsequence new.unsequence made others compactions
        up.unsequence.within (up.unsequence.are ∙ sym is.unsequence) (once_late old kept) out
        (fresh_owned others (map (with_claim false) mid) (each_map IsUnclaimed (with_claim false) mid
        (each_all (λ (entry : FileEntry). IsUnclaimed (with_claim false entry)) (λ entry. refl) mid)))
        up.unsequence.is keeps.owned) keeps
      where
        mid : List FileEntry
        mid = slice_range old.unsequence up.unsequence.run.first up.unsequence.run.end

    pub left_as : IsJobFormed job → AreKept old → (runs : InputRuns) (file : Option NewFile)
        → IfSome file (λ one. one.entry.claimed ≡ false) → (outcome : Result (Unit {0}) Failed)
        → AreRunsOf job runs old → EndsFiles job runs file old new outcome → LeavesInputs job old new claimed
    left_as formed kept runs file fresh (Ok done) stand up = finished_inputs formed kept runs file fresh stand up
    left_as formed kept runs file fresh (Err fault) stand up = given_up_inputs kept file up
