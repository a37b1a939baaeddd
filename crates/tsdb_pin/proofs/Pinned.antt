-- A pin of what is kept is one of the engine state.
use Rattle.std.proofs.Common.{◌≡◌, inl, inr, ℕ, ℤ, ◌+◌, ◌-◌, Bool, true, false, cond, not, List, [], ◌∷◌, ◌++◌, map}
use Rattle.std.proofs.Common.{Option, Some, None, refl, sym, ap, subst, ◌∙◌}
use Rattle.std.specs.Prelude.{◌&&◌, ◌||◌, IfSome, int_le, nat_eq, nat_lt}
use Rattle.std.specs.Cmp.Lexicographic.{pointwise}
use Rattle.std.specs.List.{AllByRecursion as Each, AllZip, filter, flat_map, list_any}
use Rattle.std.specs.Option.{option_map}
use Rattle.std.proofs.lemmas.Bool.{eq-eqb, false≢true}
use Rattle.tsdb_base.specs.declared.point.Range.{Range}
use Rattle.tsdb_fileset.specs.StateOfFiles.{AreFilesOf, entry_of, outgoing_file, listed}
use Rattle.tsdb_fileset.specs.Files.{AreKept, KeptFiles, kept_file}
use Rattle.tsdb_fileset.specs.Places.{KeptFile}
use Rattle.tsdb_base.proofs.Lists.{each_weaker}
use Rattle.tsdb_fileset.proofs.LayerLemmas.Places.{is_path_same}
use Rattle.tsdb_base.specs.Lists.{Among, count}
use Rattle.tsdb_fileset.specs.Marks.{is_over, survives}
use Rattle.tsdb_fileset.specs.StatePlaces.{PointPlace, is_path}
use Rattle.tsdb_model.specs.declared.command.Item.{Item}
use Rattle.tsdb_model.specs.declared.command.Schema.{Schema}
use Rattle.tsdb_marks.specs.Lists.{is_of}
use Rattle.tsdb_marks.specs.declared.marks.Mark.{Mark}
use Rattle.tsdb_fileset.specs.StateOfMemory.{IsMemoryOf, number_of}
use Rattle.tsdb_fileset.specs.Store.{MemoryState}
use Rattle.tsdb_outside.specs.Files.{NamedFile}
use Rattle.tsdb_pin.proofs.Changing.{LeavesNames, gives_names, kept_changed, takes_names}
use Rattle.tsdb_pin.proofs.Stated.{sources_shown}
use Rattle.tsdb_pin.specs.Changes.{ChangesFiles, GivesRights, TakesRights, column_numbers, fewer_rights, more_rights}
use Rattle.tsdb_pin.specs.Items.{IsAsked}
use Rattle.tsdb_pin.specs.Pins.{AreColumnsHeld, AreColumnsTaken, IsColumn, IsColumnFor, IsPinFor, IsPinOver, column_paths}
use Rattle.tsdb_pin.specs.StateOfPin.{IsColumnOf, IsShownAs, IsStated, LeavesState}
use Rattle.tsdb_pin.specs.Sources.{AreSourcesOf, numbers_in, source_numbers as pinned_numbers}
use Rattle.tsdb_pin.specs.declared.items.AskedSeries.{AskedSeries}
use Rattle.tsdb_pin.specs.declared.pin.Column.{Column}
use Rattle.tsdb_pin.specs.declared.pin.Pin.{Pin}
use Rattle.tsdb_pin.specs.declared.pin.PinnedSource.{PinnedSource}
use Rattle.tsdb_pin.specs.declared.pin.PinnedSource.TheVariants as source
use Rattle.tsdb_plan.specs.declared.entry.FileEntry.{FileEntry}
use Rattle.tsdb_fileset.specs.StateJobs.{pin_numbers, source_file_numbers}
use Rattle.tsdb_fileset.specs.State as states
use Rattle.tsdb_fileset.specs.State.{KnownFiles, EngineState, FromFile, FromPart}
use Rattle.tsdb_fileset.specs.Steps.{pinned, sources_of, with_rights, without_rights}

-- ---- marks

pointwise_itself : (path : List ℕ) → pointwise nat_eq path path ≡ true
pointwise_itself [] = refl
pointwise_itself (x ∷ path) = λ i. eq-eqb x x refl i && pointwise_itself path i

-- a mark of none of the paths is not over a place of one of them
not_over : (paths : List (List ℕ)) (mark : Mark) (path : List ℕ) (time : ℤ) → Among path paths → is_of paths mark ≡ false
    → is_over mark (record { path = path; time = time }) ≡ false
not_over paths mark path time among none = by (is_path mark.path path) refl
  where
    any : (paths : List (List ℕ)) → Among path paths → mark.path ≡ path → list_any (λ p. pointwise nat_eq p mark.path) paths ≡ true
    any [] among same = absurd among
    any (p ∷ paths) (inl is) same = ap (λ (b : Bool). b || list_any (λ p. pointwise nat_eq p mark.path) paths)
        (ap (λ (q : List ℕ). pointwise nat_eq q mark.path) (is ∙ sym same) ∙ pointwise_itself mark.path)
    any (p ∷ paths) (inr among) same = either (pointwise nat_eq p mark.path) (any paths among same)
      where
        either : (b : Bool) → list_any (λ p. pointwise nat_eq p mark.path) paths ≡ true
            → (b || list_any (λ p. pointwise nat_eq p mark.path) paths) ≡ true
        either true h = refl
        either false h = h

    by : (b : Bool) → is_path mark.path path ≡ b
        → (is_path mark.path path && (int_le mark.from time && int_le time mark.to)) ≡ false
    by false e = ap (λ (b : Bool). b && (int_le mark.from time && int_le time mark.to)) e
    by true e = absurd (false≢true (sym none ∙ any paths among (is_path_same mark.path path e)))

pub marks_alike : (paths : List (List ℕ)) (path : List ℕ) (time : ℤ) (born : ℕ) → Among path paths → (marks : List Mark)
    → survives (filter (is_of paths) marks) (record { path = path; time = time }) born
    ≡ survives marks (record { path = path; time = time }) born
marks_alike paths path time born among [] = refl
marks_alike paths path time born among (mark ∷ marks) =
    by (is_of paths mark) refl (marks_alike paths path time born among marks)
  where
    here : PointPlace
    here = record { path = path; time = time }

    by : (b : Bool) → is_of paths mark ≡ b → survives (filter (is_of paths) marks) here born ≡ survives marks here born
        → survives (cond (is_of paths mark) (mark ∷ filter (is_of paths) marks) (filter (is_of paths) marks)) here born
        ≡ (not (is_over mark here && nat_lt born mark.version.0) && survives marks here born)
    by true e rest = ap (λ (b : Bool). survives (cond b (mark ∷ filter (is_of paths) marks) (filter (is_of paths) marks)) here born) e
        ∙ ap (λ (b : Bool). not (is_over mark here && nat_lt born mark.version.0) && b) rest
    by false e rest = ap (λ (b : Bool). survives (cond b (mark ∷ filter (is_of paths) marks) (filter (is_of paths) marks)) here born) e
        ∙ rest
        ∙ sym (ap (λ (b : Bool). not (b && nat_lt born mark.version.0) && survives marks here born)
        (not_over paths mark path time among e))

-- ---- rights

-- each file has become another of its name, whose rights are counted so
pub files_with : (change : ℕ → KeptFile → KeptFile) → LeavesNames change → (a b : KeptFiles) (known : KnownFiles)
    (engine : EngineState) (pins : List states.PinState) (rights : ℕ → ℕ) → ChangesFiles change a b
    → ((n : ℕ) (file : KeptFile) → file.rights ≡ engine.rights n → (change n file).rights ≡ rights n)
    → AreFilesOf a known engine → AreFilesOf b known (record engine { pins = pins; rights = rights })
files_with change leaves a b known engine pins rights changes counts are = record {
  sequence = ap (map listed) changes.lists.sequence ∙ are.sequence;
  unsequence = ap (map listed) changes.lists.unsequence ∙ are.unsequence;
  outgoing = ap (map outgoing_file) changes.lists.outgoing ∙ are.outgoing;
  rights = λ n. subst (λ o. IfSome o (λ file. file.rights ≡ rights n)) (sym (kept_changed change a b changes n))
      (counted n (kept_file n a) (are.rights n));
  entries_in_sequence = subst (Each said_by_b) (sym changes.lists.sequence)
      (each_weaker said_by_a said_by_b said files_in_sequence are.entries_in_sequence);
  entries_in_unsequence = subst (Each said_by_b) (sym changes.lists.unsequence)
      (each_weaker said_by_a said_by_b said files_in_unsequence are.entries_in_unsequence);
}
  where
    files_in_sequence : List FileEntry
    files_in_sequence = a.sequence

    files_in_unsequence : List FileEntry
    files_in_unsequence = a.unsequence

    said_by_a : FileEntry → Type 0
    said_by_a entry = IfSome (kept_file entry.number.0 a) (λ file. known entry.number.0 ≡ entry_of entry file.series)

    said_by_b : FileEntry → Type 0
    said_by_b entry = IfSome (kept_file entry.number.0 b) (λ file. known entry.number.0 ≡ entry_of entry file.series)

    counted : (n : ℕ) (o : Option KeptFile) → IfSome o (λ file. file.rights ≡ engine.rights n)
        → IfSome (option_map (change n) o) (λ file. file.rights ≡ rights n)
    counted n None h = tt
    counted n (Some file) h = counts n file h

    said : (entry : FileEntry) → said_by_a entry → said_by_b entry
    said entry h = subst (λ o. IfSome o (λ file. known entry.number.0 ≡ entry_of entry file.series))
        (sym (kept_changed change a b changes entry.number.0)) (by (kept_file entry.number.0 a) h)
      where
        by : (o : Option KeptFile) → IfSome o (λ file. known entry.number.0 ≡ entry_of entry file.series)
            → IfSome (option_map (change entry.number.0) o) (λ file. known entry.number.0 ≡ entry_of entry file.series)
        by None h = tt
        by (Some file) h = h ∙ ap (entry_of entry) (sym (leaves.series entry.number.0 file))

module _ {F S R P : Type 0} where
  -- the state's pin has rights on the same files
  sources_on : (path : List ℕ) (sources : List (PinnedSource F S R P)) (shown : List states.SourceState)
      → AllZip (IsShownAs path) sources shown → flat_map source_file_numbers shown ≡ numbers_in sources
  sources_on path [] [] are = refl
  sources_on path [] (one ∷ shown) are = absurd are
  sources_on path (one ∷ sources) [] are = absurd are
  sources_on path (one ∷ sources) (other ∷ shown) are = by one other are.0 (sources_on path sources shown are.1)
    where
      by : (one : PinnedSource F S R P) (other : states.SourceState) → IsShownAs path one other
          → flat_map source_file_numbers shown ≡ numbers_in sources
          → source_file_numbers other ++ flat_map source_file_numbers shown ≡ pinned_numbers one ++ numbers_in sources
      by (source.File number born right) (FromFile file) h rest = λ i. h.0 i ∷ rest i
      by (source.File number born right) (FromPart layer) h rest = absurd h
      by (source.Part born points) (FromFile file) h rest = absurd h
      by (source.Part born points) (FromPart layer) h rest = rest

  columns_on : (columns : List (Column F S R P)) (shown : List states.ColumnState) → AllZip IsColumnOf columns shown
      → flat_map (λ (c : states.ColumnState). flat_map source_file_numbers c.sources) shown ≡ column_numbers columns
  columns_on [] [] are = refl
  columns_on [] (one ∷ shown) are = absurd are
  columns_on (column ∷ columns) [] are = absurd are
  columns_on (column ∷ columns) (one ∷ shown) are = λ i. sources_on column.schema.path column.sources one.sources are.0.sources i
      ++ columns_on columns shown are.1 i

  files_pinned : (a b : KeptFiles) (known : KnownFiles) (engine : EngineState) (shown : states.PinState)
      (columns : List (Column F S R P)) → AllZip IsColumnOf columns shown.columns
      → TakesRights (column_numbers columns) a b → AreFilesOf a known engine → AreFilesOf b known (pinned shown engine)
  files_pinned a b known engine shown columns are taken files = files_with
      (λ n. more_rights (count n (column_numbers columns))) (takes_names (column_numbers columns)) a b known engine
      (shown ∷ engine.pins) (with_rights (pin_numbers shown) engine.rights) taken counts files
    where
      counts : (n : ℕ) (file : KeptFile) → file.rights ≡ engine.rights n
          → file.rights + count n (column_numbers columns) ≡ engine.rights n + count n (pin_numbers shown)
      counts n file e = λ i. e i + count n (sym (columns_on columns shown.columns are) i)

  pub files_unpinned : (a b : KeptFiles) (pin : Pin F S R P) → GivesRights (column_numbers pin.columns) a b
      → LeavesState a b pin
  files_unpinned a b pin given known engine shown others files is = files_with
      (λ n. fewer_rights (count n (column_numbers pin.columns))) (gives_names (column_numbers pin.columns)) a b known engine
      others (without_rights (pin_numbers shown) engine.rights) given counts files
    where
      counts : (n : ℕ) (file : KeptFile) → file.rights ≡ engine.rights n
          → file.rights - count n (column_numbers pin.columns) ≡ engine.rights n - count n (pin_numbers shown)
      counts n file e = λ i. e i - count n (sym (columns_on pin.columns shown.columns is.columns) i)

-- ---- the pin

module _ {F S R P : Type 0} (name : R → NamedFile) (files : KeptFiles) (store : MemoryState) (known : KnownFiles)
    (state : EngineState) (memory : IsMemoryOf store state.store) (are : AreFilesOf files known state) (kept : AreKept files)
    (device : List ℕ) (range : Range) where
  -- the column of the state
  abbrev shown_column : Column F S R P → states.ColumnState
  shown_column column = record {
    path = column.schema.path;
    sources = sources_of known state.store column.schema.path range;
  }

  columns_shown : (items : List Item) (columns : List (Column F S R P))
      → AllZip (IsColumnFor name files store device range) items columns
      → AllZip IsColumnOf columns (map shown_column columns)
  columns_shown [] [] given = tt
  columns_shown [] (column ∷ columns) given = absurd given
  columns_shown (item ∷ items) [] given = absurd given
  columns_shown (item ∷ items) (column ∷ columns) given = (
    record {
      path = refl;
      sources = sources_shown name files store known state memory are kept column.schema.path given.0.number range
          given.0.numbered column.sources given.0.sources;
    },
    columns_shown items columns given.1,
  )

  same_sources : (columns : List (Column F S R P))
      → Each (λ (c : states.ColumnState). c.sources ≡ sources_of known state.store c.path range) (map shown_column columns)
  same_sources [] = tt
  same_sources (column ∷ columns) = (refl, same_sources columns)

  same_marks : (all columns : List (Column F S R P)) → ((path : List ℕ) → Among path (column_paths columns) → Among path (column_paths all))
      → Each (λ (c : states.ColumnState). (time : ℤ) (born : ℕ)
      → survives (filter (is_of (column_paths all)) store.marks.marks) (record { path = c.path; time = time }) born
      ≡ survives state.store.marks (record { path = c.path; time = time }) born) (map shown_column columns)
  same_marks all [] some = tt
  same_marks all (column ∷ columns) some = (
    λ time born.
        marks_alike (column_paths all) column.schema.path time born (some column.schema.path (inl refl)) store.marks.marks
        ∙ ap (λ (marks : List Mark). survives marks (record { path = column.schema.path; time = time }) born) (sym memory.marks),
    same_marks all columns (λ path among. some path (inr among)),
  )

  pub stated : (new : KeptFiles) (items : List Item) (pin : Pin F S R P)
      → IsPinFor name files store device items range pin → TakesRights (column_numbers pin.columns) files new
      → IsStated new known state pin
  stated new items pin given rights = record {
    shown = shown;
    is = record {
      stamp = refl;
      range = sym given.range_is;
      marks = refl;
      columns = columns_shown items pin.columns given.columns;
    };
    takes = record {
      stamp = given.stamp ∙ sym memory.stamp;
      marks = subst (λ (marks : List Mark). Each (λ (c : states.ColumnState). (time : ℤ) (born : ℕ)
          → survives marks (record { path = c.path; time = time }) born
          ≡ survives state.store.marks (record { path = c.path; time = time }) born) (map shown_column pin.columns))
          (sym given.marks) (same_marks pin.columns pin.columns (λ path among. among));
      columns = same_sources pin.columns;
    };
    files = files_pinned files new known state shown pin.columns
        (columns_shown items pin.columns given.columns) rights are;
  }
    where
      shown : states.PinState
      shown = record {
        stamp = pin.stamp.0;
        range = range;
        marks = pin.marks.marks;
        columns = map shown_column pin.columns;
      }

-- ---- the pin of items

module _ {F S R P : Type 0} (name : R → NamedFile) (files : KeptFiles) (store : MemoryState) (device : List ℕ) (range : Range) where
  column_for : (item : Item) (asked : AskedSeries) (column : Column F S R P) → IsAsked store.series device item asked
      → IsColumn name files store range asked column → IsColumnFor name files store device range item column
  column_for item asked column read is = record {
    number = asked.id.0;
    at = read.at ∙ ap (λ (s : Schema). Some s) (sym is.schema);
    of_path = ap (λ (s : Schema). s.path) is.schema ∙ read.of_path;
    numbered = ap (λ (s : Schema). number_of store.series s.path) is.schema ∙ read.numbered;
    aggregate = is.aggregate ∙ read.same;
    sources = subst (λ (s : Schema). AreSourcesOf name files store s.path asked.id.0 range column.sources) (sym is.schema)
        is.sources;
  }

  columns_for : (items : List Item) (all : List AskedSeries) (columns : List (Column F S R P))
      → AllZip (IsAsked store.series device) items all → AllZip (IsColumn name files store range) all columns
      → AllZip (IsColumnFor name files store device range) items columns
  columns_for [] [] [] read are = tt
  columns_for [] [] (column ∷ columns) read are = absurd are
  columns_for [] (asked ∷ all) columns read are = absurd read
  columns_for (item ∷ items) [] columns read are = absurd read
  columns_for (item ∷ items) (asked ∷ all) [] read are = absurd are
  columns_for (item ∷ items) (asked ∷ all) (column ∷ columns) read are = (
    column_for item asked column read.0 are.0,
    columns_for items all columns read.1 are.1,
  )

  same_paths : (all : List AskedSeries) (columns : List (Column F S R P)) → AllZip (IsColumn name files store range) all columns
      → map (λ (asked : AskedSeries). asked.schema.path) all ≡ column_paths columns
  same_paths [] [] are = refl
  same_paths [] (column ∷ columns) are = absurd are
  same_paths (asked ∷ all) [] are = absurd are
  same_paths (asked ∷ all) (column ∷ columns) are = λ i. (sym are.0.schema i).path ∷ same_paths all columns are.1 i

  -- the pin of the series of the items is that of the items
  pub pin_for : (items : List Item) (all : List AskedSeries) (new : KeptFiles) (pin : Pin F S R P)
      → AllZip (IsAsked store.series device) items all → IsPinOver name store range all files new pin
      → IsPinFor name files store device items range pin
  pin_for items all new pin read over = record {
    stamp = over.stamp;
    range_is = over.range_is;
    marks = over.marks ∙ ap (λ (paths : List (List ℕ)). filter (is_of paths) store.marks.marks)
        (same_paths all pin.columns over.columns);
    columns = columns_for items all pin.columns read over.columns;
  }

module _ {F S R P : Type 0} (name : R → NamedFile) (store : MemoryState) (range : Range) (all : List AskedSeries) where
  -- the pin with columns that were taken
  pub pin_over : (old new : KeptFiles) (columns : List (Column F S R P)) (pin : Pin F S R P)
      → AreColumnsTaken name store range all old new [] columns → pin.stamp.0 ≡ store.stamp → pin.range ≡ range
      → pin.marks.marks ≡ filter (is_of (map (λ asked. asked.schema.path) all)) store.marks.marks → pin.columns ≡ columns
      → IsPinOver name store range all old new pin
  pin_over old new columns pin taken stamp range_is marks same = record {
    stamp = stamp;
    range_is = range_is;
    marks = marks;
    columns = subst (AllZip (IsColumn name old store range) all) (sym is) taken.2;
    rights = subst (λ (l : List (Column F S R P)). TakesRights (column_numbers l) old new) (sym is) taken.1.rights;
    held = subst (AreColumnsHeld name old) (sym is) taken.1.held;
  }
    where
      is : pin.columns ≡ taken.0
      is = same ∙ taken.1.are
