-- What a job has of memory, to the engine state.
use Rattle.std.proofs.Common.{◌≡◌, ℕ, ◌+◌, ◌≤◌, List, [], ◌∷◌, ◌++◌, map, take, drop, Option, Some, None, true, false}
use Rattle.std.proofs.Common.{refl, sym, ap, subst, ◌∙◌, ◌⊎◌, inl, inr, Bool, cond}
use Rattle.std.specs.Prelude.{IfSome, IsSome, slice_range}
use Rattle.std.specs.FinMap.{get}
use Rattle.std.specs.List.{AllByRecursion as Each, filter, flat_map}
use Rattle.std.specs.Option.{option_or}
use Rattle.tsdb_base.specs.Values.{type_of}
use Rattle.tsdb_base.specs.declared.ids.Space.{Space}
use Rattle.tsdb_base.specs.declared.ids.Space.TheVariants.{Sequence, Unsequence}
use Rattle.tsdb_base.specs.declared.value.DataType.{DataType}
use Rattle.tsdb_base.specs.declared.value.Value.{Value}
use Rattle.tsdb_tasks.proofs.InState.{kept_among}
use Rattle.tsdb_tasks.proofs.Schemas.{among_flat}
use Rattle.tsdb_tasks.specs.Beginning.{run_files}
use Rattle.tsdb_tasks.specs.Series.{AreSeriesOfJob, run_paths, series_in}
use Rattle.tsdb_tasks.specs.declared.finishing.InputRuns.{InputRuns}
use Rattle.tsdb_tasks.specs.declared.series.JobSeries.{JobSeries}
use Rattle.tsdb_compactions.specs.Outputs.{HasSchema}
use Rattle.tsdb_compactions.specs.Plans.{IsOfMoment}
use Rattle.tsdb_fileset.specs.StateOfFiles.{AreFilesOf, entry_of, listed}
use Rattle.tsdb_fileset.proofs.Replaced.{run_parts}
use Rattle.tsdb_fileset.specs.Files.{AreKept, KeptFiles, entries_in, kept_file}
use Rattle.tsdb_fileset.specs.Places.{KeptFile}
use Rattle.tsdb_fileset.specs.Replacing.{IsWithin}
use Rattle.tsdb_base.proofs.Lists.{among_left, among_map, among_right, each_among, each_from_among}
use Rattle.tsdb_state.proofs.LayerLemmas.Values.{has_left, has_right}
use Rattle.tsdb_state.specs.Layers.{HasPoint, Layer, value_in}
use Rattle.tsdb_base.specs.Lists.{Among, if_some}
use Rattle.tsdb_state.specs.Marks.{survives}
use Rattle.tsdb_state.specs.Places.{PointPlace}
use Rattle.tsdb_model.specs.declared.command.Schema.{Schema}
use Rattle.tsdb_marks.specs.Lists.{is_of}
use Rattle.tsdb_marks.specs.declared.marks.Mark.{Mark}
use Rattle.tsdb_memory.proofs.Counts.{among_either}
use Rattle.tsdb_memory.proofs.Frozen.{image_of}
use Rattle.tsdb_memory.specs.StateOfMemory.{IsMemoryOf}
use Rattle.tsdb_memory.specs.StateOfMemory as shown
use Rattle.tsdb_memory.specs.Store.{MemoryState}
use Rattle.tsdb_plan.specs.declared.entry.FileEntry.{FileEntry}
use Rattle.tsdb_plan.specs.declared.entry.Run.{Run}
use Rattle.tsdb_state.specs.Jobs.{Describes, job_inputs}
use Rattle.tsdb_base.specs.Limits.{end_of_numbers}
use Rattle.tsdb_state.specs.Order.{IsInOrder}
use Rattle.tsdb_state.specs.State.{Compaction, EngineState, KnownFiles, File, SeriesEntry, ToldContents}
use Rattle.tsdb_state.specs.StoreOrder.{IsOfSeries}
use Rattle.tsdb_state.specs.Views.{file_layers}

-- ---- the series of an input are among those of the job

in_run : {X : Type 0} (first end : ℕ) (xs : List X) (x : X) → first ≤ end → Among x (slice_range xs first end)
    → Among x xs
in_run first end xs x rises has = subst (Among x) (run_parts first end xs rises)
    (among_right (take first xs) (slice_range xs first end ++ drop end xs) x
    (among_left (slice_range xs first end) (drop end xs) x has))

module _ (files : KeptFiles) (known : KnownFiles) (engine : EngineState) (are : AreFilesOf files known engine)
    (kept : AreKept files) where
  entries_are : (space : Space) → Each (λ entry. IfSome (kept_file entry.number.0 files)
      (λ file. known entry.number.0 ≡ entry_of entry file.series)) (entries_in space files)
  entries_are Sequence = are.entries_in_sequence
  entries_are Unsequence = are.entries_in_unsequence

  in_file : (space : Space) (entry : FileEntry) (path : List ℕ) → Among entry (entries_in space files)
      → Among path (known entry.number.0).series → Among path (series_in files entry.number.0)
  in_file space entry path listed has =
      by (kept_file entry.number.0 files) (kept_among space files kept entry listed)
      (each_among (λ e. IfSome (kept_file e.number.0 files) (λ file. known e.number.0 ≡ entry_of e file.series))
      (entries_in space files) entry (entries_are space) listed)
    where
      by : (o : Option KeptFile) → IsSome o → IfSome o (λ file. known entry.number.0 ≡ entry_of entry file.series)
          → Among path (flat_map (λ (file : KeptFile). file.series) (if_some o))
      by None some is = absurd (cc)
      by (Some file) some is = among_left file.series [] path
          (subst (λ e. Among path e.series) is has)

  in_runs : (runs : InputRuns) → IsWithin runs.sequence files.sequence → IsWithin runs.unsequence files.unsequence
      → (file : File) → Among file (run_files runs files) → (path : List ℕ) → Among path (known file.number).series
      → Among path (run_paths runs files)
  in_runs runs sequence unsequence file among path has =
      among_flat (λ (f : File). series_in files f.number) (run_files runs files) file path among
      (by (among_either (map listed early) (map listed late) file among))
    where
      early : List FileEntry
      early = slice_range files.sequence runs.sequence.first runs.sequence.end

      late : List FileEntry
      late = slice_range files.unsequence runs.unsequence.first runs.unsequence.end

      one : (space : Space) (run : Run) → IsWithin run (entries_in space files)
          → Among file (map listed (slice_range (entries_in space files) run.first run.end))
          → Among path (series_in files file.number)
      one space run within there =
          let image = image_of listed (slice_range (entries_in space files) run.first run.end) file there in
          subst (λ (f : File). Among path (series_in files f.number)) image.is
          (in_file space image.element path
          (in_run run.first run.end (entries_in space files) image.element within.rises image.among)
          (subst (λ (f : File). Among path (known f.number).series) (sym image.is) has))

      by : Among file (map listed early) ⊎ Among file (map listed late) → Among path (series_in files file.number)
      by (inl there) = one Sequence runs.sequence sequence there
      by (inr there) = one Unsequence runs.unsequence unsequence there

  pub of_moment : (runs : InputRuns) (store : MemoryState) (series : JobSeries) (job : Compaction)
      → IsWithin runs.sequence files.sequence → IsWithin runs.unsequence files.unsequence
      → IsMemoryOf store engine.store → AreSeriesOfJob (run_paths runs files) store series
      → job_inputs job ≡ run_files runs files → job.marks ≡ series.marks.marks → job.born ≡ store.stamp
      → job.output ≡ engine.next_file → engine.next_file + 2 ≤ end_of_numbers → IsOfMoment known engine job
  of_moment runs store series job sequence unsequence memory of inputs marks born output left = record {
    born = born ∙ sym memory.stamp;
    paths = run_paths runs files;
    all = each_from_among (λ file. (path : List ℕ) → Among path (known file.number).series
        → Among path (run_paths runs files)) (job_inputs job) (λ file has.
        in_runs runs sequence unsequence file (subst (Among file) inputs has));
    marks = marks ∙ of.marks ∙ ap (filter (is_of (run_paths runs files))) (sym memory.marks);
    output = output;
    left = left;
  }

-- ---- a winner is of a series that memory has

-- the value is that of a file at the place
record HasIn (told : ToldContents) (files : List File) (place : PointPlace) (value : Value) : Type 0 where
  pub file : File
  pub among : Among file files
  pub has : get (told file.number) place ≡ Some value

has_in : (told : ToldContents) (marks : List Mark) (files : List File) (place : PointPlace) (value : Value)
    → value_in marks place (file_layers told files) ≡ Some value → HasIn told files place value
has_in told marks [] place value is = absurd (cc)
has_in told marks (file ∷ files) place value is =
    by (value_in marks place (file_layers told files)) refl (has_in told marks files place value)
    (survives marks place file.born) is
  where
    by : (higher : Option Value) → value_in marks place (file_layers told files) ≡ higher
        → (value_in marks place (file_layers told files) ≡ Some value → HasIn told files place value) → (b : Bool)
        → option_or higher (cond b (get (told file.number) place) None) ≡ Some value
        → HasIn told (file ∷ files) place value
    by (Some v) e later b is = let rest = later (e ∙ is) in
        record { file = rest.file; among = inr rest.among; has = rest.has }
    by None e later true is = record { file = file; among = inl refl; has = is }
    by None e later false is = absurd (cc)

point_of : (told : ToldContents) (files : List File) (file : File) (place : PointPlace) (value : Value) → Among file files
    → get (told file.number) place ≡ Some value → HasPoint (file_layers told files) place value
point_of told [] file place value among has = absurd among
point_of told (f ∷ files) file place value (inl is) has =
    inl (subst (λ (x : File). get (told x.number) place ≡ Some value) (sym is) has)
point_of told (f ∷ files) file place value (inr among) has = inr (point_of told files file place value among has)

record SchemaOf (series : List Schema) (path : List ℕ) (type : DataType) : Type 0 where
  pub schema : Schema
  pub among : Among schema series
  pub of_path : schema.path ≡ path
  pub of_type : schema.data_type ≡ type

schema_of : (series : List Schema) (path : List ℕ) (type : DataType) → IsOfSeries (map shown.series_entry series) path type
    → SchemaOf series path type
schema_of [] path type is = absurd is
schema_of (schema ∷ series) path type (inl is) =
    record { schema = schema; among = inl refl; of_path = is.0; of_type = is.1 }
schema_of (schema ∷ series) path type (inr is) =
    let rest = schema_of series path type is in
    record { schema = rest.schema; among = inr rest.among; of_path = rest.of_path; of_type = rest.of_type }

module _ (files : KeptFiles) (known : KnownFiles) (engine : EngineState) (are : AreFilesOf files known engine) where
  -- an input stands in one of the lists of the state
  pub input_stands : (runs : InputRuns) → IsWithin runs.sequence files.sequence
      → IsWithin runs.unsequence files.unsequence → (file : File) → Among file (run_files runs files)
      → Among file engine.store.sequence ⊎ Among file engine.store.unsequence
  input_stands runs sequence unsequence file among =
      by (among_either (map listed (slice_range files.sequence runs.sequence.first runs.sequence.end))
      (map listed (slice_range files.unsequence runs.unsequence.first runs.unsequence.end)) file among)
    where
      one : (entries : List FileEntry) (run : Run) → IsWithin run entries
          → Among file (map listed (slice_range entries run.first run.end)) → Among file (map listed entries)
      one entries run within there =
          let image = image_of listed (slice_range entries run.first run.end) file there in
          subst (λ (f : File). Among f (map listed entries)) image.is (among_map listed entries image.element
          (in_run run.first run.end entries image.element within.rises image.among))

      by : Among file (map listed (slice_range files.sequence runs.sequence.first runs.sequence.end))
          ⊎ Among file (map listed (slice_range files.unsequence runs.unsequence.first runs.unsequence.end))
          → Among file engine.store.sequence ⊎ Among file engine.store.unsequence
      by (inl there) = inl (subst (Among file) are.sequence (one files.sequence runs.sequence sequence there))
      by (inr there) = inr (subst (Among file) are.unsequence (one files.unsequence runs.unsequence unsequence there))

  pub has_schema : (told : ToldContents) (named : List ℕ) (runs : InputRuns) (store : MemoryState) (series : JobSeries)
      (marks : List Mark) (place : PointPlace) (value : Value) → IsInOrder told known named engine → AreKept files
      → IsWithin runs.sequence files.sequence → IsWithin runs.unsequence files.unsequence
      → IsMemoryOf store engine.store → AreSeriesOfJob (run_paths runs files) store series
      → value_in marks place (file_layers told (run_files runs files)) ≡ Some value
      → HasSchema series.schemas place value
  has_schema told named runs store series marks place value order kept sequence unsequence memory of wins =
      record { schema = found.schema; among = there; path = found.of_path; typed = sym found.of_type }
    where
      file_is : HasIn told (run_files runs files) place value
      file_is = has_in told marks (run_files runs files) place value wins

      early : List Layer
      early = file_layers told engine.store.sequence

      late : List Layer
      late = file_layers told engine.store.unsequence

      point : Among file_is.file engine.store.sequence ⊎ Among file_is.file engine.store.unsequence
          → HasPoint (early ++ late) place value
      point (inl among) = has_left early late place value
          (point_of told engine.store.sequence file_is.file place value among file_is.has)
      point (inr among) = has_right early late place value
          (point_of told engine.store.unsequence file_is.file place value among file_is.has)

      listed_among : Among file_is.file engine.store.sequence ⊎ Among file_is.file engine.store.unsequence
          → Among file_is.file (engine.store.sequence ++ engine.store.unsequence)
      listed_among (inl among) = among_left engine.store.sequence engine.store.unsequence file_is.file among
      listed_among (inr among) = among_right engine.store.sequence engine.store.unsequence file_is.file among

      stands : Among file_is.file engine.store.sequence ⊎ Among file_is.file engine.store.unsequence
      stands = input_stands runs sequence unsequence file_is.file file_is.among

      path_known : Among place.path (known file_is.file.number).series
      path_known = ((each_among (λ (f : File). Describes (known f.number) (told f.number))
          (engine.store.sequence ++ engine.store.unsequence) file_is.file order.entries
          (listed_among stands)).series place.path).1 (place, value, refl, file_is.has)

      found : SchemaOf store.series place.path (type_of value)
      found = schema_of store.series place.path (type_of value)
          (subst (λ (s : List SeriesEntry). IsOfSeries s place.path (type_of value)) memory.schemas
          (order.store.series.typed place value (has_left (early ++ late) _ place value (point stands))))

      there : Among found.schema series.schemas
      there = (of.schemas found.schema).1 (
        found.among,
        subst (λ (p : List ℕ). Among p (run_paths runs files)) (sym found.of_path)
            (in_runs files known engine are kept runs sequence unsequence file_is.file file_is.among place.path
            path_known),
      )
