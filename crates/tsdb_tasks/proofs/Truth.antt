-- What the rights of a job that has begun tell is what its inputs have.
use Rattle.std.proofs.Common.{◌≡◌, ◌≢◌, ℕ, ◌≤◌, List, [], ◌∷◌, ◌++◌, length, map, Option, Some, None, inl, inr}
use Rattle.std.proofs.Common.{◌⊎◌, sym, ap, subst, ◌∙◌, arith}
use Rattle.std.specs.List.{AllByRecursion as Each}
use Rattle.std.specs.Prelude.{IfSome, IsSome, slice_range}
use Rattle.std.proofs.lemmas.List.{map-append}
use Rattle.tsdb_base.specs.declared.ids.Space.{Space}
use Rattle.tsdb_tasks.proofs.InRuns.{listed_numbers}
use Rattle.tsdb_tasks.proofs.InState.{same_numbers}
use Rattle.tsdb_tasks.proofs.Moments.{has_schema, input_stands}
use Rattle.tsdb_tasks.proofs.Out.{fewer_counted, job_of}
use Rattle.tsdb_tasks.proofs.Taken.{all_counted}
use Rattle.tsdb_tasks.specs.Beginning.{AreBegun, run_files}
use Rattle.tsdb_tasks.specs.Inputs.{IsHeld, input_numbers}
use Rattle.tsdb_tasks.specs.Series.{AreSeriesOfJob, run_paths}
use Rattle.tsdb_tasks.specs.declared.beginning.TakenInputs.{TakenInputs}
use Rattle.tsdb_tasks.specs.declared.finishing.InputRuns.{InputRuns}
use Rattle.tsdb_tasks.specs.declared.series.JobSeries.{JobSeries}
use Rattle.tsdb_compactions.specs.Jobs.{input_file}
use Rattle.tsdb_compactions.specs.Outputs.{IsOneTold, IsInputRead, TellsTruth}
use Rattle.tsdb_compactions.specs.declared.job.Input.{Input}
use Rattle.tsdb_fileset.specs.StateOfFiles.{AreFilesOf, TellTheirBytes, listed}
use Rattle.tsdb_state.specs.StoredEngine.{IsKeptWhole, kept_bytes}
use Rattle.tsdb_fileset.specs.Files.{AreKept, KeptFiles, kept_file, all_numbers}
use Rattle.tsdb_fileset.specs.Places.{KeptFile}
use Rattle.tsdb_fileset.specs.Replacing.{IsWithin}
use Rattle.tsdb_fileset.specs.Rights.{IsRightTo}
use Rattle.tsdb_base.proofs.Lists.{among_left, among_map, among_right, count_append, each_among, each_from_among}
use Rattle.tsdb_state.specs.Layers.{value_in}
use Rattle.tsdb_base.specs.Lists.{Among, EachPair, count, if_some}
use Rattle.tsdb_memory.specs.StateOfMemory.{IsMemoryOf}
use Rattle.tsdb_memory.specs.Store.{MemoryState}
use Rattle.tsdb_outside.specs.Files.{NamedFile, StoredFile}
use Rattle.tsdb_state.proofs.Fresh.{count_here}
use Rattle.tsdb_state.specs.Order.{IsInOrder, all_files}
use Rattle.tsdb_state.specs.Records as records
use Rattle.tsdb_state.specs.State.{EngineState, KnownFiles, File, ToldContents}
use Rattle.tsdb_state.specs.Views.{file_layers}

-- ---- no two files have one number

one_at_most : (files : KeptFiles) → AreKept files → (n : ℕ) → count n (all_numbers files) ≤ 1
one_at_most files kept n = by (kept_file n files) (kept n)
  where
    by : (o : Option KeptFile) → count n (all_numbers files) ≡ length (if_some o) → count n (all_numbers files) ≤ 1
    by None is = omega (arith, is)
    by (Some file) is = omega (arith, is)

run_once : (runs : InputRuns) (files : KeptFiles) → AreKept files → IsWithin runs.sequence files.sequence
    → IsWithin runs.unsequence files.unsequence → (n : ℕ) → count n (records.numbers_of (run_files runs files)) ≤ 1
run_once runs files kept sequence unsequence n =
    let early = slice_range files.sequence runs.sequence.first runs.sequence.end in
    let late = slice_range files.unsequence runs.unsequence.first runs.unsequence.end in
    omega (
      arith,
      ap (count n) (map-append (λ (file : File). file.number) (map listed early) (map listed late)),
      count_append n (records.numbers_of (map listed early)) (records.numbers_of (map listed late)),
      ap (count n) (listed_numbers early),
      ap (count n) (listed_numbers late),
      fewer_counted n runs.sequence files.sequence sequence,
      fewer_counted n runs.unsequence files.unsequence unsequence,
      all_counted n files,
      one_at_most files kept n,
    )

counted_in : (n : ℕ) (xs : List ℕ) → Among n xs → 1 ≤ count n xs
counted_in n [] among = absurd among
counted_in n (x ∷ xs) (inl is) = subst (λ m. 1 ≤ count n (m ∷ xs)) (sym is) (omega (arith, count_here n xs))
counted_in n (x ∷ xs) (inr among) = let rest = counted_in n xs among in omega (arith, rest)

module _ {F S R P : Type 0} (name : R → NamedFile) where
  -- the right to read an input names its number, and tells the bytes that are kept under it
  record Tells (kept : List StoredFile) (input : Input F S R P) : Type 0 where
    pub number : (name input.right).number ≡ input.number.0
    pub bytes : (name input.right).bytes ≡ kept_bytes kept input.number.0

  it_tells : (files : KeptFiles) (kept : List StoredFile) → TellTheirBytes files kept → (input : Input F S R P)
      → IsHeld name files input → Tells kept input
  it_tells files kept tell input held = by (kept_file input.number.0 files) held (tell input.number.0)
    where
      by : (o : Option KeptFile) → IsRightTo name o (Some input.right)
          → IfSome o (λ file. (file.name.number ≡ input.number.0)
          × (file.name.bytes ≡ kept_bytes kept input.number.0)) → Tells kept input
      by None is says = absurd is
      by (Some file) is says = record {
        number = ap (λ (n : NamedFile). n.number) is ∙ says.0;
        bytes = ap (λ (n : NamedFile). n.bytes) is ∙ says.1;
      }

  it_reads : (kept : List StoredFile) (told : ToldContents) (input : Input F S R P) → Tells kept input
      → IsKeptWhole kept told (input_file input) → IsInputRead name told input
  it_reads kept told input tells whole = record {
    bytes = whole.bytes;
    tree = whole.tree;
    there = tells.bytes ∙ whole.there;
    is_tree = whole.is_tree;
    is_made = whole.is_made;
    is_file = whole.is_file;
    content = whole.content;
  }

  apart : (kept : List StoredFile) (inputs : List (Input F S R P)) → Each (Tells kept) inputs
      → ((n : ℕ) → count n (input_numbers inputs) ≤ 1)
      → EachPair (λ a b. IsOneTold name a b → (name a.right).number ≢ (name b.right).number) inputs
  apart kept [] tell once = tt
  apart kept (input ∷ inputs) tell once = (
    each_from_among (λ other. IsOneTold name input other → (name input.right).number ≢ (name other.right).number) inputs
        (λ other among told same.
        let number : other.number.0 ≡ input.number.0 =
        sym (each_among (Tells kept) inputs other tell.1 among).number ∙ sym same ∙ tell.0.number in
        omega (
          arith,
          once input.number.0,
          count_here input.number.0 (input_numbers inputs),
          counted_in input.number.0 (input_numbers inputs)
              (subst (λ n. Among n (input_numbers inputs)) number
              (among_map (λ (i : Input F S R P). i.number.0) inputs other among)),
        )),
    apart kept inputs tell.1 (λ n. omega (arith, once n)),
  )

  module _ (space : Space) (born output : ℕ) (runs : InputRuns) (old new : KeptFiles) (taken : TakenInputs F S R P)
      (series : JobSeries) (begun : AreBegun name space output runs old new taken)
      (sequence : IsWithin runs.sequence old.sequence) (unsequence : IsWithin runs.unsequence old.unsequence)
      (store : MemoryState) (of : AreSeriesOfJob (run_paths runs old) store series) where
    -- in a stored state in order that the files show, the job is told the truth
    pub tells_truth : (told : ToldContents) (known : KnownFiles) (named : List ℕ) (engine : EngineState) (kept : List StoredFile)
        → IsInOrder told known named engine → Each (IsKeptWhole kept told) (all_files engine) → AreFilesOf old known engine
        → AreKept old → TellTheirBytes old kept → IsMemoryOf store engine.store
        → TellsTruth name told (job_of space born runs.sequence.first taken series output)
    tells_truth told known named engine kept order whole are all tell memory = record {
      read = each_from_among (λ input. IsSome (name input.right).bytes → IsInputRead name told input) taken.inputs
          (λ input among some. it_reads kept told input (each_among (Tells kept) taken.inputs input tells among)
          (each_among (IsKeptWhole kept told) (all_files engine) (input_file input) whole (listed_there input among)));
      apart = apart kept taken.inputs tells (λ n. subst (λ numbers. count n numbers ≤ 1)
          (ap records.numbers_of (sym begun.all.are) ∙ same_numbers taken.inputs)
          (run_once runs old all sequence unsequence n));
      schemas = λ place value wins. has_schema old known engine are told named runs store series series.marks.marks place
          value order all sequence unsequence memory of
          (subst (λ files. value_in series.marks.marks place (file_layers told files) ≡ Some value) begun.all.are wins);
    }
      where
        tells : Each (Tells kept) taken.inputs
        tells = each_from_among (Tells kept) taken.inputs (λ input among. it_tells old kept tell input
            (each_among (IsHeld name old) taken.inputs input begun.all.held among))

        either : (file : File) → Among file engine.store.sequence ⊎ Among file engine.store.unsequence
            → Among file (all_files engine)
        either file (inl among) = among_left (engine.store.sequence ++ engine.store.unsequence) engine.outgoing file
            (among_left engine.store.sequence engine.store.unsequence file among)
        either file (inr among) = among_left (engine.store.sequence ++ engine.store.unsequence) engine.outgoing file
            (among_right engine.store.sequence engine.store.unsequence file among)

        listed_there : (input : Input F S R P) → Among input taken.inputs → Among (input_file input) (all_files engine)
        listed_there input among = either (input_file input) (input_stands old known engine are runs sequence unsequence
            (input_file input) (subst (Among (input_file input)) begun.all.are
            (among_map input_file taken.inputs input among)))
