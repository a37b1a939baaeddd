-- A flush, a compaction or a pin that is among those for which a core keeps is out, as its end asks for it.
use Rattle.std.proofs.Common.{◌≡◌, ◌≢◌, ℕ, ◌≤◌, List, [], ◌∷◌, ◌++◌, length, map}
use Rattle.std.proofs.Common.{ap, arith, drop, refl, sym, subst, take, ◌∙◌}
use Rattle.std.proofs.lemmas.Bool.{false≢true}
use Rattle.std.proofs.Math.Seq.{drop-append_seam, take-append_seam}
use Rattle.std.proofs.lemmas.List.{drop-map, length-map, map-append, take-append-drop, take-map}
use Rattle.std.specs.List.{AllByRecursion as Each, flat_map}
use Rattle.tsdb_base.specs.declared.ids.FileNumber.{FileNumber}
use Rattle.tsdb_base.specs.declared.ids.Space.{Space}
use Rattle.tsdb_base.specs.declared.ids.Space.TheVariants.{Sequence, Unsequence}
use Rattle.tsdb_tasks.specs.Ending.{IsOutIn}
use Rattle.tsdb_tasks.specs.Finishing.{StandInSequence}
use Rattle.tsdb_tasks.specs.Inputs.{AreHeld}
use Rattle.tsdb_tasks.specs.Jobs.{IsCompactionOf, input_file, input_files}
use Rattle.tsdb_tasks.specs.Input.{Input}
use Rattle.tsdb_tasks.specs.Job.{Job}
use Rattle.tsdb_core.proofs.Jobs.{one_of}
use Rattle.tsdb_core.proofs.Loans.{right_named}
use Rattle.tsdb_core.proofs.LoansInputs.{fresh_owned, stands_from}
use Rattle.tsdb_core.proofs.LoansRights.{IsNamedIn, named_of}
use Rattle.tsdb_core.specs.Compactions.{IsHandedOut, IsJobOut, job_rights}
use Rattle.tsdb_core.specs.Core.{KeepsJobs, files_of}
use Rattle.tsdb_core.specs.Flushes.{HasNumbersOf, IsOut}
use Rattle.tsdb_core.specs.Loans.{IsNothingClaimed, KeepsLoans, LentRight, StandClaimed, StandFrom, StandsIn}
use Rattle.tsdb_core.specs.Out.{compaction_of}
use Rattle.tsdb_core.specs.Pins.{pin_rights, source_rights}
use Rattle.tsdb_core.specs.declared.engine.Core.{Core}
use Rattle.tsdb_fileset.specs.FlushJob as plain
use Rattle.tsdb_fileset.specs.Files.{IsOpen, KeptFiles, entry_numbers, kept_file}
use Rattle.tsdb_fileset.specs.Places.{AreUnread}
use Rattle.tsdb_fileset.specs.Replacing.{HasListRoom}
use Rattle.tsdb_base.proofs.Lists.{each_left, each_of_map, each_right, with_one_is}
use Rattle.tsdb_base.specs.Lists.{Among, IsRun, IsWithOne}
use Rattle.tsdb_outside.specs.Files.{NamedFile, plain_numbers}
use Rattle.tsdb_outside.specs.declared.disk.Disk as disk
use Rattle.tsdb_outside.specs.declared.faults.Counted as counted_by
use Rattle.tsdb_tasks.specs.Pins.{AreColumnsHeld}
use Rattle.tsdb_tasks.specs.Sources.{AreHeldIn, IsHeldIn}
use Rattle.tsdb_tasks.specs.Column.{Column}
use Rattle.tsdb_tasks.specs.Pin.{Pin}
use Rattle.tsdb_tasks.specs.PinnedSource.{PinnedSource}
use Rattle.tsdb_tasks.specs.TheVariants.{File, Part}
use Rattle.tsdb_plan.specs.declared.entry.FileEntry.{FileEntry}
use Rattle.tsdb_state.specs.Jobs.{drawn_by, outgoing_places, output_places}
use Rattle.tsdb_state.specs.Records.{numbers_of}
use Rattle.tsdb_state.specs.State.{Compaction, File as FileOf, FlushState}

some_in : {X : Type 0} (xs : List X) → xs ≢ [] → 1 ≤ length xs
some_in [] is = absurd (is refl)
some_in (x ∷ xs) is = omega arith

late_run : (numbers : List ℕ) (entries : List FileEntry) → StandClaimed numbers entries
    → IsRun numbers (entry_numbers entries)
late_run numbers entries stand = record {
  before = entry_numbers stand.run.before;
  behind = entry_numbers stand.run.behind;
  is = ap entry_numbers stand.run.is
      ∙ map-append (λ (e : FileEntry). e.number.0) stand.run.before (stand.taken ++ stand.run.behind)
      ∙ ap (λ ys. entry_numbers stand.run.before ++ ys)
      (map-append (λ (e : FileEntry). e.number.0) stand.taken stand.run.behind
      ∙ ap (λ ns. ns ++ entry_numbers stand.run.behind) stand.are);
}

module _ {F S R P : Type 0} (job : Job F S R P) where
  long : length (plain_numbers job.sequence) ≡ length job.sequence
  long = length-map job.sequence (λ (n : FileNumber). n.0)

  -- a job is one of a compaction
  pub is_compaction : IsHandedOut job → IsCompactionOf job (compaction_of job)
  is_compaction handed = record {
    space = refl;
    place = refl;
    born = refl;
    inputs = take-append-drop (length job.sequence) (input_files job);
    sequence = sym (take-map (λ (file : FileOf). file.number) (length job.sequence) (input_files job))
        ∙ ap (take (length job.sequence)) handed.formed.numbers
        ∙ subst (λ n. take n (plain_numbers job.sequence ++ plain_numbers job.unsequence) ≡ plain_numbers job.sequence)
        long (take-append_seam (plain_numbers job.sequence) (plain_numbers job.unsequence));
    unsequence = sym (drop-map (λ (file : FileOf). file.number) (length job.sequence) (input_files job))
        ∙ ap (drop (length job.sequence)) handed.formed.numbers
        ∙ subst (λ n. drop n (plain_numbers job.sequence ++ plain_numbers job.unsequence)
        ≡ plain_numbers job.unsequence) long
        (drop-append_seam (plain_numbers job.sequence) (plain_numbers job.unsequence));
    marks = refl;
    output = refl;
  }

  pub has_compaction : IsHandedOut job → (compaction : Compaction) × IsCompactionOf job compaction
  has_compaction handed = (compaction_of job, is_compaction handed)

module _ {F S R P : Type 0} (name : R → NamedFile) where
  held_inputs : (files : KeptFiles) (inputs : List (Input F S R P)) → Each (IsNamedIn files)
      (map (λ (input : Input F S R P). record { number = input.number.0; name = name input.right }) inputs)
      → AreHeld name files inputs
  held_inputs files [] named = tt
  held_inputs files (input ∷ inputs) named = (
    right_named name input.right (kept_file input.number.0 files) named.0,
    held_inputs files inputs named.1,
  )

  held_source : (files : KeptFiles) (source : PinnedSource F S R P)
      → Each (IsNamedIn files) (source_rights name source) → IsHeldIn name files source
  held_source files (File number born right) named = right_named name right (kept_file number.0 files) named.0
  held_source files (Part born points) named = tt

  held_sources : (files : KeptFiles) (sources : List (PinnedSource F S R P))
      → Each (IsNamedIn files) (flat_map (source_rights name) sources) → AreHeldIn name files sources
  held_sources files [] named = tt
  held_sources files (source ∷ sources) named = (
    held_source files source (each_left (IsNamedIn files) (source_rights name source)
        (flat_map (source_rights name) sources) named),
    held_sources files sources (each_right (IsNamedIn files) (source_rights name source)
        (flat_map (source_rights name) sources) named),
  )

  held_columns : (files : KeptFiles) (columns : List (Column F S R P))
      → Each (IsNamedIn files) (flat_map (λ (c : Column F S R P). flat_map (source_rights name) c.sources) columns)
      → AreColumnsHeld name files columns
  held_columns files [] named = tt
  held_columns files (column ∷ columns) named = (
    held_sources files column.sources (each_left (IsNamedIn files) (flat_map (source_rights name) column.sources)
        (flat_map (λ (c : Column F S R P). flat_map (source_rights name) c.sources) columns) named),
    held_columns files columns (each_right (IsNamedIn files) (flat_map (source_rights name) column.sources)
        (flat_map (λ (c : Column F S R P). flat_map (source_rights name) c.sources) columns) named),
  )

module _ {J F S R P : Type 0} {means : disk.Ghosts J} {counts : counted_by.Ghosts J} where
  -- where no compaction and no right is out, nothing is kept but for flushes
  pub nothing_lent : (core : Core J F S R P means counts) (flushes : List FlushState) → KeepsJobs core flushes []
      → AreUnread (files_of core).places → IsNothingClaimed core → KeepsLoans core flushes [] []
  nothing_lent core flushes jobs unread none = record {
    jobs = jobs;
    inputs = record {
      stand = tt;
      apart = tt;
      free = λ free. tt;
      taken = λ some. absurd (false≢true (sym none.sequence ∙ some));
      owned = fresh_owned [] (files_of core).unsequence none.late;
    };
    rights = record { named = tt; counted = unread };
  }

  -- where no job and no pin has a right, none is out
  pub none_lent : (core : Core J F S R P means counts) (flushes : List FlushState) (compactions : List Compaction)
      → KeepsLoans core flushes compactions [] → AreUnread (files_of core).places
  none_lent core flushes compactions keeps = keeps.rights.counted

  pub flush_out : (core : Core J F S R P means counts) (job : plain.FlushJob) (flush : FlushState)
      (others flushes : List FlushState) (compactions : List Compaction) (lent : List (List LentRight))
      → HasNumbersOf job flush → IsWithOne flush others flushes → KeepsLoans core flushes compactions lent
      → IsOut core job
  flush_out core job flush others flushes compactions lent numbers out keeps = record {
    flush = flush;
    others = others;
    flushes = flushes;
    compactions = compactions;
    numbers = numbers;
    out = out;
    keeps = keeps.jobs;
  }

  pub pin_held : (name : R → NamedFile) (core : Core J F S R P means counts) (pin : Pin F S R P)
      (flushes : List FlushState) (compactions : List Compaction) (lent : List (List LentRight))
      → Among (pin_rights name pin) lent → KeepsLoans core flushes compactions lent
      → AreColumnsHeld name (files_of core) pin.columns
  pin_held name core pin flushes compactions lent among keeps = held_columns name (files_of core) pin.columns
      (named_of (files_of core) (pin_rights name pin) lent among keeps.rights)

  module _ (name : R → NamedFile) (core : Core J F S R P means counts) (job : Job F S R P) (compaction : Compaction)
      (others compactions : List Compaction) (flushes : List FlushState) (lent : List (List LentRight))
      (handed : IsHandedOut job) (is : IsCompactionOf job compaction) (out : IsWithOne compaction others compactions)
      (among : Among (job_rights name job) lent) (keeps : KeepsLoans core flushes compactions lent) where
    some : 1 ≤ length job.inputs
    some = some_in job.inputs handed.formed.some

    stands : StandsIn core.files compaction
    stands = with_one_is (StandsIn core.files) compaction others compactions out keeps.inputs.stand

    has_place : (space : Space) → compaction.space ≡ space → HasListRoom space core.files.spare
    has_place Sequence same = omega (
      arith,
      keeps.jobs.room.sequence,
      one_of (λ (c : Compaction). output_places Sequence c.space) compaction others compactions out,
      ap (output_places Sequence) same,
    )
    has_place Unsequence same = omega (
      arith,
      keeps.jobs.room.unsequence,
      one_of (λ (c : Compaction). output_places Unsequence c.space) compaction others compactions out,
      ap (output_places Unsequence) same,
    )

    is_out : IsOutIn name core.files job
    is_out = record {
      late = subst (λ ns. IsRun ns (entry_numbers core.files.unsequence)) is.unsequence
          (late_run (numbers_of compaction.unsequence) core.files.unsequence stands.late);
      held = held_inputs name core.files job.inputs
          (named_of core.files (job_rights name job) lent among keeps.rights);
      some = some;
      place = subst (λ n. IsOpen n core.files) is.output (with_one_is (λ (c : Compaction). IsOpen c.output core.files)
          compaction others compactions out (each_of_map (λ n. IsOpen n core.files) (λ (c : Compaction). c.output)
          compactions (each_right (λ n. IsOpen n core.files) (flat_map drawn_by flushes)
          (map (λ (c : Compaction). c.output) compactions) keeps.jobs.places)));
      list = has_place job.space is.space;
      outgoing = omega (
        arith,
        some,
        keeps.jobs.room.outgoing,
        one_of outgoing_places compaction others compactions out,
        ap length is.inputs ∙ length-map job.inputs input_file,
      );
    }

    early : StandInSequence job.space job.place job.sequence core.files.sequence
    early = stands_from job.space job.place job.sequence core.files.sequence
        (subst (λ (ns : List ℕ). StandFrom job.space job.place ns (entry_numbers core.files.sequence)) is.sequence
        (subst (λ (space : Space). StandFrom space job.place (numbers_of compaction.sequence)
        (entry_numbers core.files.sequence)) is.space
        (subst (λ (place : ℕ). StandFrom compaction.space place (numbers_of compaction.sequence)
        (entry_numbers core.files.sequence)) is.place stands.sequence)))

    -- a compaction with its rights among those that are kept is out
    pub job_out : IsJobOut name core job
    job_out = record {
      kept = record {
        formed = handed.formed;
        held = is_out;
        stands = early;
        few_sequence = handed.few_sequence;
        few_late = handed.few_late;
      };
      compaction = compaction;
      others = others;
      compactions = compactions;
      flushes = flushes;
      is = is;
      out = out;
      keeps = keeps.jobs;
    }
