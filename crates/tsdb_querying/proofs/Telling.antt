-- What a core tells of the files that a pin reads: the pages of its series.
use Rattle.std.proofs.Common.{◌≡◌, ℕ, ◌≤◌, Bool, true, false, cond, List, [], ◌∷◌, ◌++◌, map, Option, None, Some, inl, inr, refl, sym, subst}
use Rattle.std.proofs.Common.{ap, arith, ◌∙◌}
use Rattle.std.specs.Prelude.{IfSome, filter, nat_eq}
use Rattle.std.specs.List.{AllByRecursion as Each, AllZip}
use Rattle.std.proofs.lemmas.Bool.{eqb-true, false≢true}
use Rattle.tsdb_base.specs.declared.point.Point.{Point}
use Rattle.tsdb_base.specs.declared.point.Range.{Range}
use Rattle.tsdb_pins.proofs.Trees.{Listed, listed_pages}
use Rattle.tsdb_pins.specs.Files.{HasPages}
use Rattle.tsdb_pin.specs.StateOfFiles.{TellTheirBytes}
use Rattle.tsdb_state.specs.StoredEngine.{IsKeptWhole, kept_bytes}
use Rattle.tsdb_pin.specs.Files.{KeptFiles, kept_file}
use Rattle.tsdb_pin.specs.Places.{KeptFile}
use Rattle.tsdb_pin.specs.Rights.{IsRightTo}
use Rattle.tsdb_base.proofs.Lists.{among_left, among_map, among_right, each_append}
use Rattle.tsdb_state.specs.Layers.{Layer}
use Rattle.tsdb_base.specs.Lists.{Among}
use Rattle.tsdb_outside.specs.Files.{NamedFile, StoredFile}
use Rattle.tsdb_path.specs.Nodes.{device_of, measurement_of, node_count}
use Rattle.tsdb_pin.specs.Pins.{AreColumnsHeld}
use Rattle.tsdb_pin.specs.StateOfPin.{ArePointsOf, IsColumnOf, IsShownAs}
use Rattle.tsdb_pin.specs.Sources.{AreHeldIn, IsHeldIn}
use Rattle.tsdb_pin.specs.declared.pin.Column.{Column}
use Rattle.tsdb_pin.specs.declared.pin.PinnedSource.{PinnedSource}
use Rattle.tsdb_pin.specs.declared.pin.PinnedSource.TheVariants as pinned
use Rattle.tsdb_pins.proofs.Told.{told_points}
use Rattle.tsdb_pins.specs.Reading.{AreColumnsTold, AreColumnsTrue, HaveNodes, IsToldIn, IsTrueIn, TellPoints, TellsPoints}
use Rattle.tsdb_pins.specs.Pieces.{joined}
use Rattle.tsdb_state.specs.Records.{numbers_of}
use Rattle.tsdb_state.specs.State as state
use Rattle.tsdb_state.specs.State.{KnownFiles, File, FromFile, FromPart, SourceState, StoreState, ToldContents}
use Rattle.tsdb_state.specs.Steps.{file_sources, has_series, part_sources, part_within, sources_of}
use Rattle.tsdb_state.specs.Views.{sequence_layer, unsequence_layer, working_pair}

abbrev Pages : Type 0
Pages = List ℕ → ℕ → Option (List (List Point))

-- ---- the pages of files that are kept

module _ (kept : List StoredFile) (told : ToldContents) where
  -- the points of each page of a series in the file of a number, if it is one of these
  abbrev pub pages_told : (files : List File) → Each (IsKeptWhole kept told) files → Pages
  pages_told [] all path number = None
  pages_told (file ∷ files) all path number = cond (nat_eq file.number number)
      (Some (listed_pages all.0.tree (device_of path, measurement_of path) all.0.is_tree).list)
      (pages_told files all.1 path number)

  pages_true : (files : List File) (all : Each (IsKeptWhole kept told) files) (path : List ℕ) (name : NamedFile)
      → name.bytes ≡ kept_bytes kept name.number
      → IfSome (pages_told files all path name.number) (HasPages (device_of path, measurement_of path) name)
  pages_true [] all path name same = tt
  pages_true (file ∷ files) all path name same =
      by (nat_eq file.number name.number) refl (pages_true files all.1 path name same)
    where
      listed : Listed all.0.tree (device_of path, measurement_of path)
      listed = listed_pages all.0.tree (device_of path, measurement_of path) all.0.is_tree

      by : (b : Bool) → nat_eq file.number name.number ≡ b
          → IfSome (pages_told files all.1 path name.number) (HasPages (device_of path, measurement_of path) name)
          → IfSome (cond b (Some listed.list) (pages_told files all.1 path name.number))
          (HasPages (device_of path, measurement_of path) name)
      by true is rest = record {
        bytes = all.0.bytes;
        told = same ∙ ap (kept_bytes kept) (sym (eqb-true file.number name.number is)) ∙ all.0.there;
        tree = all.0.tree;
        is = all.0.is_tree;
        made = all.0.is_made;
        file = all.0.is_file;
        pages_are = listed.are;
      }
      by false is rest = rest

  -- of one of the files the pages are told, with the points that are told of the file
  record TellsFile (files : List File) (all : Each (IsKeptWhole kept told) files) (path : List ℕ) (number : ℕ) : Type 0 where
    pub lists : List (List Point)
    pub are : pages_told files all path number ≡ Some lists
    pub whole : File
    pub numbered : whole.number ≡ number
    pub is_kept : IsKeptWhole kept told whole

  itself : (n : ℕ) → nat_eq n n ≡ true
  itself n = grind arith

  tells_file : (files : List File) (all : Each (IsKeptWhole kept told) files) (path : List ℕ) (number : ℕ)
      → Among number (numbers_of files) → TellsFile files all path number
  tells_file [] all path number among = absurd among
  tells_file (file ∷ files) all path number among =
      by (nat_eq file.number number) refl among (λ there. tells_file files all.1 path number there)
    where
      listed : Listed all.0.tree (device_of path, measurement_of path)
      listed = listed_pages all.0.tree (device_of path, measurement_of path) all.0.is_tree

      by : (b : Bool) → nat_eq file.number number ≡ b → Among number (numbers_of (file ∷ files))
          → (Among number (numbers_of files) → TellsFile files all.1 path number)
          → TellsFile (file ∷ files) all path number
      by true is among behind = record {
        lists = listed.list;
        are = ap (λ c. cond c (Some listed.list) (pages_told files all.1 path number)) is;
        whole = file;
        numbered = eqb-true file.number number is;
        is_kept = all.0;
      }
      by false is (inl same) behind = absurd (false≢true (sym is ∙ ap (λ n. nat_eq n number) same ∙ itself number))
      by false is (inr among) behind = let rest = behind among in record {
        lists = rest.lists;
        are = ap (λ c. cond c (Some listed.list) (pages_told files all.1 path number)) is ∙ rest.are;
        whole = rest.whole;
        numbered = rest.numbered;
        is_kept = rest.is_kept;
      }

-- ---- the files that a pin reads are listed

abbrev IsListed : List File → SourceState → Type 0
IsListed files (FromFile file) = Among file.number (numbers_of files)
IsListed files (FromPart layer) = Unit {0}

abbrev IsNumbered : {F S R P : Type 0} → List File → PinnedSource F S R P → Type 0
IsNumbered files (pinned.File number born right) = Among number.0 (numbers_of files)
IsNumbered files (pinned.Part born points) = Unit {0}

each_file : (known : KnownFiles) (path : List ℕ) (files all : List File) → ((file : File) → Among file files → Among file all)
    → Each (IsListed all) (file_sources known path files)
each_file known path [] all within = tt
each_file known path (file ∷ files) all within = by (has_series known path file)
    (each_file known path files all (λ f among. within f (inr among)))
  where
    by : (b : Bool) → Each (IsListed all) (file_sources known path files)
        → Each (IsListed all) (map FromFile (cond b (file ∷ filter (has_series known path) files)
        (filter (has_series known path) files)))
    by true rest = (among_map (λ (f : File). f.number) all file (within file (inl refl)), rest)
    by false rest = rest

each_part : (all : List File) (layer_of : Layer → Layer) (layers : List Layer)
    → Each (IsListed all) (map (λ layer. FromPart (layer_of layer)) layers)
each_part all layer_of [] = tt
each_part all layer_of (layer ∷ layers) = (tt, each_part all layer_of layers)

each_listed : (known : KnownFiles) (store : StoreState) (path : List ℕ) (range : Range) (all : List File)
    → ((file : File) → Among file (store.sequence ++ store.unsequence) → Among file all)
    → Each (IsListed all) (sources_of known store path range)
each_listed known store path range all within =
    each_append (IsListed all) (file_sources known path store.sequence ++ first) (file_sources known path store.unsequence ++ late)
    (each_append (IsListed all) (file_sources known path store.sequence) first
    (each_file known path store.sequence all (λ f among. within f (among_left store.sequence store.unsequence f among)))
    (each_part all (part_within path range) _))
    (each_append (IsListed all) (file_sources known path store.unsequence) late
    (each_file known path store.unsequence all
    (λ f among. within f (among_right store.sequence store.unsequence f among)))
    (each_part all (part_within path range) _))
  where
    first : List SourceState
    first = part_sources path range (map sequence_layer (store.frozen ++ working_pair store ∷ []))

    late : List SourceState
    late = part_sources path range (map unsequence_layer (store.frozen ++ working_pair store ∷ []))

one_numbered : {F S R P : Type 0} (path : List ℕ) (all : List File) (source : PinnedSource F S R P) (s : SourceState)
    → IsShownAs path source s → IsListed all s → IsNumbered all source
one_numbered path all (pinned.File number born right) (FromFile file) is there =
    subst (λ n. Among n (numbers_of all)) is.0 there
one_numbered path all (pinned.File number born right) (FromPart layer) is there = absurd is
one_numbered path all (pinned.Part born points) s is there = tt

zip_numbered : {F S R P : Type 0} (path : List ℕ) (all : List File) (sources : List (PinnedSource F S R P))
    (shown : List SourceState) → AllZip (IsShownAs path) sources shown → Each (IsListed all) shown
    → Each (IsNumbered all) sources
zip_numbered path all [] [] zip listed = tt
zip_numbered path all [] (s ∷ shown) zip listed = absurd zip
zip_numbered path all (source ∷ sources) [] zip listed = absurd zip
zip_numbered path all (source ∷ sources) (s ∷ shown) zip listed =
    (one_numbered path all source s zip.0 listed.0, zip_numbered path all sources shown zip.1 listed.1)

-- ---- what is told of them

record IsNamed (kept : List StoredFile) (number : ℕ) (name : NamedFile) : Type 0 where
  pub number_is : name.number ≡ number
  pub bytes_are : name.bytes ≡ kept_bytes kept number

named : {R : Type 0} (name : R → NamedFile) (kept : List StoredFile) (number : ℕ) (right : R) (found : Option KeptFile)
    → IsRightTo name found (Some right)
    → IfSome found (λ file. (file.name.number ≡ number) × (file.name.bytes ≡ kept_bytes kept number))
    → IsNamed kept number (name right)
named name kept number right None is told = absurd is
named name kept number right (Some file) is told = record {
  number_is = ap (λ (n : NamedFile). n.number) is ∙ told.0;
  bytes_are = ap (λ (n : NamedFile). n.bytes) is ∙ told.1;
}

module _ {F S R P : Type 0} (name : R → NamedFile) (files : KeptFiles) (kept : List StoredFile) (told : ToldContents)
    (all : List File) (whole : Each (IsKeptWhole kept told) all) (tells : TellTheirBytes files kept) where
  record TellsSource (path : List ℕ) (source : PinnedSource F S R P) : Type 0 where
    pub true_is : IsTrueIn name (pages_told kept told all whole) path source
    pub told_is : IsToldIn name (pages_told kept told all whole) path source
    pub points : TellsPoints name (pages_told kept told all whole) told path source

  tells_source : (path : List ℕ) → 2 ≤ node_count path → (source : PinnedSource F S R P) → IsHeldIn name files source
      → IsNumbered all source → TellsSource path source
  tells_source path nodes (pinned.Part born points) held numbered = record { true_is = tt; told_is = tt; points = tt }
  tells_source path nodes (pinned.File number born right) held numbered =
      let is = named name kept number.0 right (kept_file number.0 files) held (tells number.0) in
      let bytes : (name right).bytes ≡ kept_bytes kept (name right).number =
      is.bytes_are ∙ ap (kept_bytes kept) (sym is.number_is) in
      let one = tells_file kept told all whole path (name right).number
      (subst (λ n. Among n (numbers_of all)) (sym is.number_is) numbered) in
      let has = pages_true kept told all whole path (name right) bytes in record {
        true_is = has;
        told_is = λ b named. (one.lists, one.are);
        points = (
          one.lists,
          one.are,
          subst (λ n. ArePointsOf path (joined one.lists) (told n)) (one.numbered ∙ is.number_is)
              (told_points path (name right) one.lists (kept_bytes kept) told one.whole one.is_kept.bytes nodes
              (subst (λ o. IfSome o (HasPages (device_of path, measurement_of path) (name right))) one.are has) one.is_kept
              (bytes ∙ ap (kept_bytes kept) (sym one.numbered) ∙ one.is_kept.there) one.is_kept.there),
        );
      }

  record TellsSources (path : List ℕ) (sources : List (PinnedSource F S R P)) : Type 0 where
    pub true_are : Each (IsTrueIn name (pages_told kept told all whole) path) sources
    pub told_are : Each (IsToldIn name (pages_told kept told all whole) path) sources
    pub points : Each (TellsPoints name (pages_told kept told all whole) told path) sources

  tells_sources : (path : List ℕ) → 2 ≤ node_count path → (sources : List (PinnedSource F S R P))
      → AreHeldIn name files sources → Each (IsNumbered all) sources → TellsSources path sources
  tells_sources path nodes [] held numbered = record { true_are = tt; told_are = tt; points = tt }
  tells_sources path nodes (source ∷ sources) held numbered =
      let one = tells_source path nodes source held.0 numbered.0 in
      let rest = tells_sources path nodes sources held.1 numbered.1 in record {
        true_are = (one.true_is, rest.true_are);
        told_are = (one.told_is, rest.told_are);
        points = (one.points, rest.points);
      }

  pub record TellsColumns (columns : List (Column F S R P)) : Type 0 where
    pub true_are : AreColumnsTrue name (pages_told kept told all whole) columns
    pub told_are : AreColumnsTold name (pages_told kept told all whole) columns
    pub points : TellPoints name (pages_told kept told all whole) told columns

  pub tells_columns : (known : KnownFiles) (store : StoreState) (range : Range)
      → ((file : File) → Among file (store.sequence ++ store.unsequence) → Among file all)
      → (columns : List (Column F S R P)) (shown : List state.ColumnState) → AllZip IsColumnOf columns shown
      → Each (λ (column : state.ColumnState). column.sources ≡ sources_of known store column.path range) shown
      → AreColumnsHeld name files columns → HaveNodes columns → TellsColumns columns
  tells_columns known store range within [] [] zip takes held nodes = record { true_are = tt; told_are = tt; points = tt }
  tells_columns known store range within [] (s ∷ shown) zip takes held nodes = absurd zip
  tells_columns known store range within (column ∷ columns) [] zip takes held nodes = absurd zip
  tells_columns known store range within (column ∷ columns) (s ∷ shown) zip takes held nodes =
      let one = tells_sources column.schema.path nodes.0 column.sources held.0
      (zip_numbered column.schema.path all column.sources s.sources zip.0.sources
      (subst (Each (IsListed all)) (sym takes.0) (each_listed known store s.path range all within))) in
      let rest = tells_columns known store range within columns shown zip.1 takes.1 held.1 nodes.1 in record {
        true_are = (one.true_are, rest.true_are);
        told_are = (one.told_are, rest.told_are);
        points = (one.points, rest.points);
      }
