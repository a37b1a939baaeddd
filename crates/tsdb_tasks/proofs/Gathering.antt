-- Gathering the series of the inputs, and their schemas, one after another.
use Rattle.std.proofs.Common.{◌≡◌, ℕ, suc, ◌+◌, ◌<◌, List, [], ◌∷◌, ◌++◌, map, take, length, get_or, Option, Some, None}
use Rattle.std.proofs.Common.{refl, sym, ap, ◌∙◌, arith, slice_get}
use Rattle.std.proofs.Math.Seq.{take-suc}
use Rattle.std.proofs.lemmas.Grind.{flat_map-append}
use Rattle.std.proofs.lemmas.List.{flat_map_more, map-append}
use Rattle.std.proofs.lemmas.List.Folds.{flat_map-map}
use Rattle.std.specs.Prelude.{slice_range}
use Rattle.std.specs.List.{AllByRecursion as Each, flat_map}
use Rattle.std.specs.Option.{option_and_then, option_map}
use Rattle.tsdb_tasks.specs.Series.{AreOfPaths, HasPathNames, input_path, run_paths, schemas_at}
use Rattle.tsdb_tasks.specs.Series.{series_in}
use Rattle.tsdb_tasks.specs.declared.finishing.InputRuns.{InputRuns}
use Rattle.tsdb_tasks.specs.declared.series.InputSeries.{InputSeries}
use Rattle.tsdb_fileset.specs.StateOfFiles.{listed}
use Rattle.tsdb_fileset.specs.Files.{KeptFiles, kept_file}
use Rattle.tsdb_fileset.specs.Places.{KeptFile}
use Rattle.tsdb_base.proofs.Lists.{each_append}
use Rattle.tsdb_base.specs.Lists.{if_some}
use Rattle.tsdb_model.specs.declared.command.Schema.{Schema}
use Rattle.tsdb_memory.proofs.Numbers.{some_same}
use Rattle.tsdb_memory.specs.StateOfMemory.{number_of}
use Rattle.tsdb_plan.specs.declared.entry.FileEntry.{FileEntry}
use Rattle.tsdb_state.specs.State.{File}

-- ---- paths

append_none : {X : Type 0} (xs : List X) → xs ++ [] ≡ xs
append_none [] = refl
append_none (x ∷ xs) = ap (λ rest. x ∷ rest) (append_none xs)

take_next : {X : Type 0} (xs : List X) (i : ℕ) (d : X) → i < length xs → take (i + 1) xs ≡ take i xs ++ get_or xs i d ∷ []
take_next xs i d within =
    let next : i + 1 ≡ suc i = omega arith in
    ap (λ n. take n xs) next ∙ take-suc xs i d within

pub none_added : (all : List InputSeries) → Each HasPathNames all → AreOfPaths (map input_path all ++ []) all
none_added all named = record { are = sym (append_none (map input_path all)); named = named }

pub path_added : (before paths : List (List ℕ)) (i : ℕ) (d : List ℕ) (all : List InputSeries) (one : InputSeries)
    → i < length paths → AreOfPaths (before ++ take i paths) all → input_path one ≡ get_or paths i d → HasPathNames one
    → AreOfPaths (before ++ take (i + 1) paths) (all ++ one ∷ [])
path_added before paths i d all one within are is named = record {
  are = map-append input_path all (one ∷ []) ∙ ap (λ (ps : List (List ℕ)). ps ++ input_path one ∷ []) are.are
      ∙ ap (λ (p : List ℕ). (before ++ take i paths) ++ p ∷ []) is ∙ behind before (take i paths) (get_or paths i d)
      ∙ ap (λ (ps : List (List ℕ)). before ++ ps) (sym (take_next paths i d within));
  named = each_append HasPathNames all (one ∷ []) are.named (named, tt);
}
  where
    behind : (xs ys : List (List ℕ)) (y : List ℕ) → (xs ++ ys) ++ y ∷ [] ≡ xs ++ (ys ++ y ∷ [])
    behind [] ys y = refl
    behind (x ∷ xs) ys y = ap (λ (rest : List (List ℕ)). x ∷ rest) (behind xs ys y)

-- ---- files

pub file_added : (f : FileEntry → List (List ℕ)) (before : List (List ℕ)) (entries : List FileEntry) (i : ℕ)
    (entry : FileEntry) (paths : List (List ℕ)) (all new : List InputSeries) → i < length entries
    → AreOfPaths (before ++ flat_map f (take i entries)) all → entry ≡ get_or entries i entry → f entry ≡ paths
    → AreOfPaths (map input_path all ++ paths) new → AreOfPaths (before ++ flat_map f (take (i + 1) entries)) new
file_added f before entries i entry paths all new within are at has added = record {
  are = added.are ∙ ap (λ (ps : List (List ℕ)). map input_path all ++ ps) (sym has ∙ ap f at)
      ∙ ap (λ (ps : List (List ℕ)). ps ++ f (get_or entries i entry)) are.are
      ∙ flat_map_more f before (take i entries) (get_or entries i entry)
      ∙ ap (λ (es : List FileEntry). before ++ flat_map f es) (sym (take_next entries i entry within));
  named = added.named;
}

pub series_found : {Q : Type 0} (read : Q → List (List ℕ)) (files : KeptFiles) (number : ℕ) (found : Option Q) (paths : Q)
    → option_map read found ≡ option_map (λ (file : KeptFile). file.series) (kept_file number files)
    → found ≡ Some paths → series_in files number ≡ read paths
series_found read files number found paths is some =
    by (kept_file number files) (sym (ap (option_map read) some) ∙ is)
  where
    by : (o : Option KeptFile) → Some (read paths) ≡ option_map (λ (file : KeptFile). file.series) o
        → flat_map (λ (file : KeptFile). file.series) (if_some o) ≡ read paths
    by None is = absurd (cc)
    by (Some file) is = append_none file.series ∙ sym (some_same (read paths) file.series is)

pub no_series : {Q : Type 0} (read : Q → List (List ℕ)) (files : KeptFiles) (number : ℕ) (found : Option Q)
    → option_map read found ≡ option_map (λ (file : KeptFile). file.series) (kept_file number files) → found ≡ None
    → series_in files number ≡ []
no_series read files number found is none = by (kept_file number files) (sym (ap (option_map read) none) ∙ is)
  where
    by : (o : Option KeptFile) → None ≡ option_map (λ (file : KeptFile). file.series) o
        → flat_map (λ (file : KeptFile). file.series) (if_some o) ≡ []
    by None is = refl
    by (Some file) is = absurd (cc)

-- the series of both runs are those of the files of the runs
pub both_lists : (files : KeptFiles) (runs : InputRuns) (sequence unsequence : List FileEntry)
    (none first all : List InputSeries) → sequence ≡ files.sequence → unsequence ≡ files.unsequence → none ≡ []
    → AreOfPaths (map input_path none ++ flat_map (λ (entry : FileEntry). series_in files entry.number.0)
    (slice_range sequence runs.sequence.first runs.sequence.end)) first
    → AreOfPaths (map input_path first ++ flat_map (λ (entry : FileEntry). series_in files entry.number.0)
    (slice_range unsequence runs.unsequence.first runs.unsequence.end)) all → AreOfPaths (run_paths runs files) all
both_lists files runs sequence unsequence none first all same_sequence same_unsequence empty one other = record {
  are = other.are ∙ ap (λ (ps : List (List ℕ)). ps ++ flat_map f (late unsequence))
      (one.are ∙ ap (λ (s : List InputSeries). map input_path s ++ flat_map f (early sequence)) empty)
      ∙ ap (λ (es : List FileEntry). flat_map f (early es) ++ flat_map f (late unsequence)) same_sequence
      ∙ ap (λ (es : List FileEntry). flat_map f (early files.sequence) ++ flat_map f (late es)) same_unsequence
      ∙ sym (flat_map-append g (map listed (early files.sequence)) (map listed (late files.unsequence))
      ∙ ap (λ (ps : List (List ℕ)). ps ++ flat_map g (map listed (late files.unsequence)))
      (flat_map-map g listed (early files.sequence))
      ∙ ap (λ (ps : List (List ℕ)). flat_map f (early files.sequence) ++ ps)
      (flat_map-map g listed (late files.unsequence)));
  named = other.named;
}
  where
    f : FileEntry → List (List ℕ)
    f entry = series_in files entry.number.0

    g : File → List (List ℕ)
    g file = series_in files file.number

    early : List FileEntry → List FileEntry
    early entries = slice_range entries runs.sequence.first runs.sequence.end

    late : List FileEntry → List FileEntry
    late entries = slice_range entries runs.unsequence.first runs.unsequence.end

-- ---- schemas

pub schema_found : {Q : Type 0} (id : Q → ℕ) (all : List Schema) (path : List ℕ) (found : Option Q) (series : Q)
    (schema : Schema) → option_map id found ≡ number_of all path → found ≡ Some series
    → slice_get all (id series) ≡ Some schema → schema ∷ [] ≡ schemas_at all path
schema_found id all path found series schema is some at =
    ap (λ (o : Option Schema). if_some o)
    (sym at ∙ ap (option_and_then (slice_get all)) (sym (ap (option_map id) some) ∙ is))

pub no_schema : {Q : Type 0} (id : Q → ℕ) (all : List Schema) (path : List ℕ) (found : Option Q)
    → option_map id found ≡ number_of all path → found ≡ None → [] ≡ schemas_at all path
no_schema id all path found is none =
    ap (λ (o : Option ℕ). if_some (option_and_then (slice_get all) o)) (sym (ap (option_map id) none) ∙ is)

pub schema_added : (f : InputSeries → List Schema) (series : List InputSeries) (i : ℕ) (one : InputSeries)
    (old new more : List Schema) → i < length series → old ≡ flat_map f (take i series)
    → one ≡ get_or series i one → more ≡ f one → new ≡ old ++ more → new ≡ flat_map f (take (i + 1) series)
schema_added f series i one old new more within are at is added = added
    ∙ ap (λ (ss : List Schema). ss ++ more) are
    ∙ ap (λ (ss : List Schema). flat_map f (take i series) ++ ss) (is ∙ ap f at)
    ∙ flat_map_more f [] (take i series) (get_or series i one)
    ∙ ap (λ (ss : List InputSeries). flat_map f ss) (sym (take_next series i one within))

pub nothing_added : (old : List Schema) → old ≡ old ++ []
nothing_added old = sym (append_none old)
