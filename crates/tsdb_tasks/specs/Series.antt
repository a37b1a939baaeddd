-- What a job has of memory: the marks and the schemas of the series of its inputs.
use Rattle.std.specs.Prelude.{◌≡◌, ◌↔◌, ℕ, ◌≤◌, List, map, slice_get}
use Rattle.std.specs.List.{AllByRecursion as Each, filter, flat_map}
use Rattle.std.specs.Option.{option_and_then}
use Rattle.tsdb_tasks.specs.Beginning.{run_files}
use Rattle.tsdb_tasks.specs.declared.finishing.InputRuns.{InputRuns}
use Rattle.tsdb_tasks.specs.declared.series.InputSeries.{InputSeries}
use Rattle.tsdb_tasks.specs.declared.series.JobSeries.{JobSeries}
use Rattle.tsdb_path.specs.Order.{AreNamesBefore, joined_names}
use Rattle.tsdb_compactions.specs.Parts.{schema_names}
use Rattle.tsdb_fileset.specs.Files.{KeptFiles, kept_file}
use Rattle.tsdb_base.specs.Lists.{Among, EachPair, if_some}
use Rattle.tsdb_model.specs.Commands.{IsSchema}
use Rattle.tsdb_model.specs.declared.command.Schema.{Schema}
use Rattle.tsdb_marks.specs.Lists.{is_of}
use Rattle.tsdb_memory.specs.StateOfMemory.{number_of}
use Rattle.tsdb_memory.specs.Store.{MemoryState}
use Rattle.tsdb_path.specs.Nodes.{device_of, measurement_of, node_count}

-- the paths of the series of the file with the number, where it is kept
abbrev pub series_in : KeptFiles → ℕ → List (List ℕ)
series_in files number = flat_map (λ file. file.series) (if_some (kept_file number files))

-- the paths of the series of the files of the runs, once for each file that has the series
abbrev pub run_paths : InputRuns → KeptFiles → List (List ℕ)
run_paths runs files = flat_map (λ file. series_in files file.number) (run_files runs files)

-- These are the marks of the series with these paths, and the schemas of those that memory has: each of these once, in
-- the order of a tree.
pub record AreSeriesOfJob (paths : List (List ℕ)) (store : MemoryState) (series : JobSeries) : Type 0 where
  pub marks : series.marks.marks ≡ filter (is_of paths) store.marks.marks
  pub schemas : (schema : Schema) → Among schema series.schemas
      ↔ (Among schema store.series × Among schema.path paths)
  pub formed : Each IsSchema series.schemas
  pub rising : EachPair (λ a b. AreNamesBefore (schema_names a) (schema_names b)) series.schemas

-- the schema of the series with the path, where it is there
abbrev pub schemas_at : List Schema → List ℕ → List Schema
schemas_at series path = if_some (option_and_then (slice_get series) (number_of series path))

-- the path of a series, and the names by which a tree is ordered, as they lie in the path
abbrev pub input_path : InputSeries → List ℕ
input_path series = series.path.now

abbrev pub input_names : InputSeries → List ℕ × List ℕ
input_names series = (series.names.0.now, series.names.1.now)

-- the names are those of the path
pub record HasPathNames (series : InputSeries) : Type 0 where
  pub device : 2 ≤ node_count (input_path series) → series.names.0.now ≡ device_of (input_path series)
  pub measurement : 2 ≤ node_count (input_path series) → series.names.1.now ≡ measurement_of (input_path series)
  pub joined : joined_names series.names.0.now series.names.1.now ≡ input_path series

-- they are the series with these paths, one after another
pub record AreOfPaths (paths : List (List ℕ)) (series : List InputSeries) : Type 0 where
  pub are : map input_path series ≡ paths
  pub named : Each HasPathNames series

-- they are the series with these paths, however often and in whatever order
pub record HavePaths (paths : List (List ℕ)) (series : List InputSeries) : Type 0 where
  pub same : (path : List ℕ) → Among path (map input_path series) ↔ Among path paths
  pub named : Each HasPathNames series
