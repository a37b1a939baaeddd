-- A job whose inputs were taken is out, and is a compaction of the files of its runs.
use Rattle.std.proofs.Common.{◌≡◌, ◌≢◌, ℕ, ◌+◌, ◌-◌, ◌≤◌, List, [], ◌∷◌, ◌++◌, drop, length, map, take}
use Rattle.std.proofs.Common.{Option, Some, None, true, refl, sym, ap, subst, ◌∙◌, arith}
use Rattle.std.specs.Option.{option_map}
use Rattle.std.specs.Prelude.{slice_range}
use Rattle.std.proofs.lemmas.List.{length-drop, length-map, length-take-le, map-append}
use Rattle.tsdb_base.specs.declared.ids.FileNumber.{FileNumber}
use Rattle.tsdb_base.specs.declared.ids.Space.{Space}
use Rattle.tsdb_base.specs.declared.ids.Space.TheVariants.{Sequence, Unsequence}
use Rattle.tsdb_tasks.proofs.InState.{run_listed}
use Rattle.tsdb_tasks.proofs.InRuns.{listed_numbers}
use Rattle.tsdb_tasks.specs.Beginning.{AreBegun}
use Rattle.tsdb_tasks.specs.Ending.{IsOutIn}
use Rattle.tsdb_tasks.specs.Finishing.{StandInSequence}
use Rattle.tsdb_tasks.specs.Inputs.{IsHeld, input_numbers}
use Rattle.tsdb_tasks.specs.Series.{AreSeriesOfJob}
use Rattle.tsdb_tasks.specs.declared.beginning.TakenInputs.{TakenInputs}
use Rattle.tsdb_tasks.specs.declared.finishing.InputRuns.{InputRuns}
use Rattle.tsdb_tasks.specs.declared.series.JobSeries.{JobSeries}
use Rattle.tsdb_compactions.specs.Jobs.{IsCompactionOf, IsJobFormed}
use Rattle.tsdb_compactions.specs.declared.job.Job.{Job}
use Rattle.tsdb_fileset.specs.StateOfFiles.{listed}
use Rattle.tsdb_fileset.proofs.Replaced.{run_parts}
use Rattle.tsdb_fileset.specs.Files.{IsOpen, KeptFiles, entry_numbers, kept_file}
use Rattle.tsdb_fileset.specs.Places.{KeptFile}
use Rattle.tsdb_fileset.specs.Replacing.{HasListRoom, IsWithin, claim_run, compaction_room}
use Rattle.tsdb_fileset.specs.Rights.{IsRightTo}
use Rattle.tsdb_fileset.specs.Room.{more_room}
use Rattle.tsdb_fileset.specs.declared.room.Spare.{Spare}
use Rattle.tsdb_base.proofs.Lists.{count_append, each_weaker}
use Rattle.tsdb_base.specs.Lists.{IsRun, count}
use Rattle.tsdb_memory.specs.Store.{MemoryState}
use Rattle.tsdb_outside.specs.Files.{NamedFile, plain_numbers}
use Rattle.tsdb_pin.specs.Changes.{more_rights}
use Rattle.tsdb_plan.specs.declared.entry.FileEntry.{FileEntry}
use Rattle.tsdb_plan.specs.declared.entry.Run.{Run}
use Rattle.tsdb_state.specs.Records.{numbers_of}
use Rattle.tsdb_state.specs.State.{Compaction}

-- ---- the numbers of files in a run

pub plain_is : (entries : List FileEntry) → plain_numbers (map (λ (e : FileEntry). e.number) entries) ≡ entry_numbers entries
plain_is [] = refl
plain_is (e ∷ entries) = ap (λ rest. e.number.0 ∷ rest) (plain_is entries)

-- a claim changes no number
claimed_numbers : (run : Run) (entries : List FileEntry) → IsWithin run entries
    → entry_numbers (claim_run run true entries) ≡ entry_numbers entries
claimed_numbers run entries within = sym (listed_numbers (claim_run run true entries))
    ∙ ap numbers_of (run_listed true run entries within) ∙ listed_numbers entries

-- the numbers of a run stand side by side
run_stands : (run : Run) (entries : List FileEntry) → IsWithin run entries
    → IsRun (entry_numbers (slice_range entries run.first run.end)) (entry_numbers entries)
run_stands run entries within = record {
  before = entry_numbers front;
  behind = entry_numbers back;
  is = ap entry_numbers (sym (run_parts run.first run.end entries within.rises))
      ∙ map-append (λ (e : FileEntry). e.number.0) front (mid ++ back)
      ∙ ap (λ ys. entry_numbers front ++ ys) (map-append (λ (e : FileEntry). e.number.0) mid back);
}
  where
    front : List FileEntry
    front = take run.first entries

    mid : List FileEntry
    mid = slice_range entries run.first run.end

    back : List FileEntry
    back = drop run.end entries

pub slice_long : (run : Run) (entries : List FileEntry) → IsWithin run entries
    → length (slice_range entries run.first run.end) ≡ run.end - run.first
slice_long run entries within = length-take-le (run.end - run.first) (drop run.first entries)
    (omega (arith, within.rises, within.ends, length-drop run.first entries))

slice_end : (run : Run) (entries : List FileEntry) → IsWithin run entries
    → run.end ≡ run.first + length (map (λ (e : FileEntry). e.number) (slice_range entries run.first run.end))
slice_end run entries within = omega (
  arith,
  within.rises,
  slice_long run entries within,
  length-map (slice_range entries run.first run.end) (λ (e : FileEntry). e.number),
)

-- the numbers of a run stand no more often than in the list
pub fewer_counted : (n : ℕ) (run : Run) (entries : List FileEntry) → IsWithin run entries
    → count n (entry_numbers (slice_range entries run.first run.end)) ≤ count n (entry_numbers entries)
fewer_counted n run entries within =
    let stands = run_stands run entries within in
    let numbers = entry_numbers (slice_range entries run.first run.end) in
    omega (
      arith,
      ap (count n) stands.is,
      count_append n stands.before (numbers ++ stands.behind),
      count_append n numbers stands.behind,
    )

-- ---- rights

right_on : {R : Type 0} (name : R → NamedFile) (k : ℕ) (o : Option KeptFile) (right : R) → IsRightTo name o (Some right)
    → IsRightTo name (option_map (more_rights k) o) (Some right)
right_on name k None right is = absurd is
right_on name k (Some file) right is = is

list_room : (space : Space) (spare : Spare) (inputs : ℕ)
    → HasListRoom space (more_room spare (compaction_room space inputs))
list_room Sequence spare inputs = omega arith
list_room Unsequence spare inputs = omega arith

outgoing_room : (space : Space) (spare : Spare) (inputs : ℕ)
    → inputs ≤ (more_room spare (compaction_room space inputs)).outgoing
outgoing_room Sequence spare inputs = omega arith
outgoing_room Unsequence spare inputs = omega arith

-- ---- the job

module _ {F S R P : Type 0} where
  -- the job of these inputs, with these marks and schemas
  abbrev pub job_of : Space → ℕ → ℕ → TakenInputs F S R P → JobSeries → ℕ → Job F S R P
  job_of space born place taken series output = record {
    space = space;
    born = record { 0 = born };
    place = place;
    inputs = taken.inputs;
    sequence = taken.sequence;
    unsequence = taken.unsequence;
    marks = series.marks;
    schemas = series.schemas;
    output = record { 0 = output };
  }

-- the compaction of the files of the runs
abbrev pub compaction_of : Space → ℕ → InputRuns → KeptFiles → JobSeries → ℕ → Compaction
compaction_of space born runs files series output = record {
  space = space;
  place = runs.sequence.first;
  born = born;
  sequence = map listed (slice_range files.sequence runs.sequence.first runs.sequence.end);
  unsequence = map listed (slice_range files.unsequence runs.unsequence.first runs.unsequence.end);
  marks = series.marks.marks;
  output = output;
}

module _ {F S R P : Type 0} (name : R → NamedFile) (space : Space) (born output : ℕ) (runs : InputRuns)
    (old new : KeptFiles) (taken : TakenInputs F S R P) (series : JobSeries)
    (begun : AreBegun name space output runs old new taken) (sequence : IsWithin runs.sequence old.sequence)
    (unsequence : IsWithin runs.unsequence old.unsequence) where
  abbrev job : Job F S R P
  job = job_of space born runs.sequence.first taken series output

  abbrev early : List FileEntry
  early = slice_range old.sequence runs.sequence.first runs.sequence.end

  abbrev late : List FileEntry
  late = slice_range old.unsequence runs.unsequence.first runs.unsequence.end

  early_numbers : plain_numbers taken.sequence ≡ entry_numbers early
  early_numbers = ap plain_numbers begun.sequence ∙ plain_is early

  late_numbers : plain_numbers taken.unsequence ≡ entry_numbers late
  late_numbers = ap plain_numbers begun.unsequence ∙ plain_is late

  pub is_compaction : IsCompactionOf job (compaction_of space born runs old series output)
  is_compaction = record {
    space = refl;
    place = refl;
    born = refl;
    inputs = sym begun.all.are;
    sequence = listed_numbers early ∙ sym early_numbers;
    unsequence = listed_numbers late ∙ sym late_numbers;
    marks = refl;
    output = refl;
  }

  pub is_formed : (paths : List (List ℕ)) (store : MemoryState) → AreSeriesOfJob paths store series → taken.inputs ≢ []
      → IsJobFormed job
  is_formed paths store of some = record {
    some = some;
    numbers = ap numbers_of begun.all.are
        ∙ map-append (λ file. file.number) (map listed early) (map listed late)
        ∙ (λ i. (listed_numbers early ∙ sym early_numbers) i ++ (listed_numbers late ∙ sym late_numbers) i);
    schemas = of.formed;
    rising = of.rising;
  }

  -- one right more is out on each input, and no file comes or goes
  pub found : (n : ℕ) → kept_file n new ≡ option_map (more_rights (count n (input_numbers taken.inputs))) (kept_file n old)
  found n = ap (kept_file n) begun.claimed ∙ begun.all.more.files n

  pub late_list : new.unsequence ≡ claim_run runs.unsequence true old.unsequence
  late_list = ap (λ (f : KeptFiles). f.unsequence) begun.claimed
      ∙ ap (claim_run runs.unsequence true) begun.all.more.lists.unsequence

  pub early_list : new.sequence ≡ old.sequence
  early_list = ap (λ (f : KeptFiles). f.sequence) begun.claimed ∙ begun.all.more.lists.sequence

  pub out_list : new.outgoing ≡ old.outgoing
  out_list = ap (λ (f : KeptFiles). f.outgoing) begun.claimed ∙ begun.all.more.lists.outgoing

  pub new_room : new.spare ≡ more_room old.spare (compaction_room space (length taken.inputs))
  new_room = ap (λ (f : KeptFiles). f.spare) begun.claimed ∙ begun.all.room

  pub still_open : (n : ℕ) → IsOpen n old → IsOpen n new
  still_open n is = subst (IsOpen n) (sym begun.claimed) (begun.all.more.places n is)

  pub output_open : kept_file output old ≡ None → IsOpen output new
  output_open free = subst (IsOpen output) (sym begun.claimed) (begun.all.place free)

  pub is_out : kept_file output old ≡ None → 1 ≤ length taken.inputs → IsOutIn name new job
  is_out free some = record {
    late = record {
      before = stands.before;
      behind = stands.behind;
      is = ap entry_numbers late_list ∙ claimed_numbers runs.unsequence old.unsequence unsequence ∙ stands.is
          ∙ ap (λ (run : List ℕ). stands.before ++ (run ++ stands.behind)) (sym late_numbers);
    };
    held = each_weaker (IsHeld name old) (IsHeld name new) (λ input is.
        subst (λ o. IsRightTo name o (Some input.right)) (sym (found input.number.0))
        (right_on name (count input.number.0 (input_numbers taken.inputs)) (kept_file input.number.0 old) input.right is))
        taken.inputs begun.all.held;
    some = some;
    place = output_open free;
    list = subst (HasListRoom space) (sym new_room) (list_room space old.spare (length taken.inputs));
    outgoing = subst (λ (spare : Spare). length taken.inputs ≤ spare.outgoing) (sym new_room)
        (outgoing_room space old.spare (length taken.inputs));
  }
    where
      stands : IsRun (entry_numbers late) (entry_numbers old.unsequence)
      stands = run_stands runs.unsequence old.unsequence unsequence

  in_sequence : StandInSequence Sequence runs.sequence.first taken.sequence new.sequence
  in_sequence = record {
    within = subst (IsWithin at) (sym early_list)
        (subst (λ n. IsWithin (record { first = runs.sequence.first; end = n }) old.sequence) end sequence);
    are = (λ i. entry_numbers (slice_range (early_list i) runs.sequence.first (sym end i))) ∙ sym early_numbers;
  }
    where
      at : Run
      at = record { first = runs.sequence.first; end = runs.sequence.first + length taken.sequence }

      end : runs.sequence.end ≡ runs.sequence.first + length taken.sequence
      end = slice_end runs.sequence old.sequence sequence
          ∙ ap (λ (numbers : List FileNumber). runs.sequence.first + length numbers) (sym begun.sequence)

  -- the sequence inputs stand from the place of the job on; a job of late files has none
  pub stand_so : (space ≡ Unsequence → runs.sequence ≡ record { first = 0; end = 0 })
      → StandInSequence space runs.sequence.first taken.sequence new.sequence
  stand_so none = by space refl
    where
      by : (s : Space) → space ≡ s → StandInSequence s runs.sequence.first taken.sequence new.sequence
      by Sequence is = in_sequence
      by Unsequence is = begun.sequence
          ∙ ap (λ (run : Run). map (λ (e : FileEntry). e.number) (slice_range old.sequence run.first run.end)) (none is)
