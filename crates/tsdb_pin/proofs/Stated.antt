-- The sources of a series are those that the engine state gives a pin.
use Rattle.std.proofs.Common.{◌≡◌, ℕ, suc, ℤ, ◌+◌, ◌≤◌, ◌==◌, Bool, true, false, cond, not, List, [], ◌∷◌, ◌++◌, length, map}
use Rattle.std.proofs.Common.{inl, inr, Option, Some, None, refl, sym, ap, subst, ◌∙◌, arith, nat_lt}
use Rattle.std.specs.Prelude.{◌&&◌, ◌<ℤ◌, IfSome, IsSome, find}
use Rattle.std.specs.FinMap.{empty, empty_of_len, get, get-empty, get-retain_keys, len, len-empty, retain_keys}
use Rattle.std.specs.List.{AllByRecursion as Each, AllZip, filter, list_any}
use Rattle.std.specs.Option.{option_and_then, option_map, unwrap_or}
use Rattle.std.specs.Ordering.{int_eq}
use Rattle.std.proofs.lemmas.Bool.{false≢true}
use Rattle.std.proofs.lemmas.Bool.Decides.{nat_tests}
use Rattle.std.proofs.lemmas.Int.{ints}
use Rattle.std.proofs.lemmas.List.Kept.{AllPairs-filter}
use Rattle.tsdb_base.specs.declared.ids.Space.{Space}
use Rattle.tsdb_base.specs.declared.ids.Space.TheVariants.{Sequence, Unsequence}
use Rattle.tsdb_base.specs.declared.point.Point.{Point}
use Rattle.tsdb_base.specs.declared.point.Range.{Range}
use Rattle.tsdb_base.specs.declared.value.Value.{Value}
use Rattle.tsdb_fileset.specs.StateOfFiles.{AreFilesOf, entry_of, listed}
use Rattle.tsdb_fileset.specs.Files.{AreKept, KeptFiles, entries_in, entry_numbers, has_path, kept_file, all_numbers}
use Rattle.tsdb_fileset.specs.Files.{outgoing_numbers}
use Rattle.tsdb_fileset.specs.Places.{KeptFile}
use Rattle.tsdb_base.proofs.Lists.{count_append, each_from_among, each_both}
use Rattle.tsdb_fileset.proofs.LayerLemmas.Places.{is_path_same, path_itself, place_cmp-IsAntisymmetric, same_content}
use Rattle.tsdb_fileset.specs.Layers.{Layer}
use Rattle.tsdb_base.specs.Lists.{Among, count, if_some}
use Rattle.tsdb_fileset.specs.StatePlaces.{Content, PointPlace, is_path, is_within as is_within_place, place_cmp}
use Rattle.tsdb_model.specs.World.{is_in}
use Rattle.tsdb_model.specs.declared.command.Schema.{Schema}
use Rattle.tsdb_fileset.proofs.Emptiness.{part_is}
use Rattle.tsdb_fileset.specs.StateOfMemory.{IsFrozenOf, IsMemoryOf, number_of, part_of, point_value_at}
use Rattle.tsdb_fileset.specs.Store as memory
use Rattle.tsdb_fileset.specs.Store.{MemoryState}
use Rattle.tsdb_memtable.specs.Pairs.{points_of}
use Rattle.tsdb_base.specs.Points.{IsRising}
use Rattle.tsdb_memtable.specs.Points.{is_point_within}
use Rattle.tsdb_outside.specs.Files.{NamedFile}
use Rattle.tsdb_pin.proofs.Listed.{zip_append}
use Rattle.tsdb_pin.specs.StateOfPin.{ArePointsOf, IsShownAs}
use Rattle.tsdb_pin.specs.Sources.{AreOfFiles, AreRisingIn, AreSourcesOf, IsOfEntry, has_slice, pairs_in, part_in}
use Rattle.tsdb_pin.specs.Sources.{parts_in, slice_of}
use Rattle.tsdb_pin.specs.declared.pin.PinnedSource.{PinnedSource}
use Rattle.tsdb_pin.specs.declared.pin.PinnedSource.TheVariants as source
use Rattle.tsdb_plan.specs.declared.entry.FileEntry.{FileEntry}
use Rattle.tsdb_fileset.specs.State as states
use Rattle.tsdb_fileset.specs.State.{KnownFiles, EngineState, File, FromFile, FromPart, SourceState, StoreState}
use Rattle.tsdb_fileset.specs.Steps.{file_sources, has_series, part_sources, part_within, sources_of}
use Rattle.tsdb_fileset.specs.Views.{sequence_layer, unsequence_layer, working_pair}

-- ---- listed files

some_count : (x n : ℕ) (xs : List ℕ) → Among x xs → 1 ≤ count x xs
some_count x n [] among = absurd among
some_count x n (y ∷ xs) (inl is) = subst (λ (b : Bool). 1 ≤ cond b 1 0 + count x xs) (sym (same y x is)) (omega arith)
  where
    same : (a b : ℕ) → a ≡ b → (a == b) ≡ true
    same a b e = grind (arith, nat_tests)
some_count x n (y ∷ xs) (inr among) = more (cond (y == x) 1 0) (count x xs) (some_count x n xs among)
  where
    more : (a b : ℕ) → 1 ≤ b → 1 ≤ a + b
    more a b h = omega (arith, h)

entry_number : (entry : FileEntry) (entries : List FileEntry) → Among entry entries
    → Among entry.number.0 (entry_numbers entries)
entry_number entry [] among = absurd among
entry_number entry (first ∷ entries) (inl is) = inl (ap (λ (e : FileEntry). e.number.0) is)
entry_number entry (first ∷ entries) (inr among) = inr (entry_number entry entries among)

-- a file of which one is counted is kept
is_there : (o : Option KeptFile) (n : ℕ) → n ≡ length (if_some o) → 1 ≤ n → IsSome o
is_there None n e h = absurd (none n e h)
  where
    none : (n : ℕ) → n ≡ 0 → 1 ≤ n → ⊥
    none n e h = omega (arith, e, h)
is_there (Some file) n e h = refl

module _ (files : KeptFiles) (known : KnownFiles) (state : EngineState) (are : AreFilesOf files known state)
    (kept : AreKept files) (path : List ℕ) where
  counted : (space : Space) (n : ℕ) → 1 ≤ count n (entry_numbers (entries_in space files)) → 1 ≤ count n (all_numbers files)
  counted space n h = by space h
    where
      all : count n (all_numbers files)
          ≡ (count n (entry_numbers files.sequence) + count n (entry_numbers files.unsequence))
          + count n (outgoing_numbers files.outgoing)
      all = count_append n (entry_numbers files.sequence ++ entry_numbers files.unsequence) (outgoing_numbers files.outgoing)
          ∙ ap (λ (m : ℕ). m + count n (outgoing_numbers files.outgoing))
          (count_append n (entry_numbers files.sequence) (entry_numbers files.unsequence))

      first : (a b c d : ℕ) → d ≡ (a + b) + c → 1 ≤ a → 1 ≤ d
      first a b c d e h = omega (arith, e, h)

      second : (a b c d : ℕ) → d ≡ (a + b) + c → 1 ≤ b → 1 ≤ d
      second a b c d e h = omega (arith, e, h)

      by : (space : Space) → 1 ≤ count n (entry_numbers (entries_in space files)) → 1 ≤ count n (all_numbers files)
      by Sequence h = first (count n (entry_numbers files.sequence)) (count n (entry_numbers files.unsequence))
          (count n (outgoing_numbers files.outgoing)) (count n (all_numbers files)) all h
      by Unsequence h = second (count n (entry_numbers files.sequence)) (count n (entry_numbers files.unsequence))
          (count n (outgoing_numbers files.outgoing)) (count n (all_numbers files)) all h

  kept_entry : (space : Space) (entry : FileEntry) → Among entry (entries_in space files)
      → IsSome (kept_file entry.number.0 files)
  kept_entry space entry among = is_there (kept_file entry.number.0 files) (count entry.number.0 (all_numbers files))
      (kept entry.number.0) (counted space entry.number.0
      (some_count entry.number.0 0 (entry_numbers (entries_in space files)) (entry_number entry (entries_in space files) among)))

  -- what is known of the file has the series exactly where what is kept of it has
  abbrev IsAsKept : FileEntry → Type 0
  IsAsKept entry = has_series known path (listed entry) ≡ has_path path files entry.number.0

  as_kept : (entry : FileEntry) → IsSome (kept_file entry.number.0 files)
      → IfSome (kept_file entry.number.0 files) (λ file. known entry.number.0 ≡ entry_of entry file.series)
      → IsAsKept entry
  as_kept entry some said = by (kept_file entry.number.0 files) refl some said
    where
      by : (o : Option KeptFile) → kept_file entry.number.0 files ≡ o → IsSome o
          → IfSome o (λ file. known entry.number.0 ≡ entry_of entry file.series) → IsAsKept entry
      by None e some said = absurd (false≢true some)
      by (Some file) e some said = ap (λ (k : states.KnownFile). list_any (is_path path) k.series) said
          ∙ sym (ap (λ (o : Option KeptFile). list_any (is_path path)
          (unwrap_or (option_map (λ (f : KeptFile). f.series) o) [])) e)

  said_of : (space : Space) → Each (λ (entry : FileEntry). IfSome (kept_file entry.number.0 files)
      (λ file. known entry.number.0 ≡ entry_of entry file.series)) (entries_in space files)
  said_of Sequence = are.entries_in_sequence
  said_of Unsequence = are.entries_in_unsequence

  all_as_kept : (space : Space) → Each IsAsKept (entries_in space files)
  all_as_kept space = each_both (λ (entry : FileEntry). IsSome (kept_file entry.number.0 files))
      (λ (entry : FileEntry). IfSome (kept_file entry.number.0 files) (λ file. known entry.number.0 ≡ entry_of entry file.series))
      IsAsKept as_kept (entries_in space files)
      (each_from_among (λ (entry : FileEntry). IsSome (kept_file entry.number.0 files)) (entries_in space files)
      (λ entry among. kept_entry space entry among))
      (said_of space)

  module _ {F S R P : Type 0} (name : R → NamedFile) where
    files_shown : (entries : List FileEntry) (sources : List (PinnedSource F S R P)) → Each IsAsKept entries
        → AreOfFiles name files path entries sources
        → AllZip (IsShownAs path) sources (file_sources known path (map listed entries))
    files_shown [] [] known_as of = tt
    files_shown [] (one ∷ sources) known_as of = absurd of
    files_shown (entry ∷ entries) sources known_as of =
        by (has_path path files entry.number.0) sources refl of
        (λ rest h. files_shown entries rest known_as.1 h)
      where
        rest_of : List FileEntry
        rest_of = filter (λ (e : FileEntry). has_path path files e.number.0) entries

        rest_files : List File
        rest_files = filter (has_series known path) (map listed entries)

        one_shown : (one : PinnedSource F S R P) → IsOfEntry name files entry one → IsShownAs path one (FromFile (listed entry))
        one_shown (source.File number born right) h = (ap (λ n. n.0) (sym h.0), ap (λ s. s.0) (sym h.1))
        one_shown (source.Part born points) h = absurd h

        by : (b : Bool) (sources : List (PinnedSource F S R P)) → has_path path files entry.number.0 ≡ b
            → AllZip (IsOfEntry {F = F} {S = S} {P = P} name files) (cond (has_path path files entry.number.0) (entry ∷ rest_of) rest_of) sources
            → ((rest : List (PinnedSource F S R P)) → AllZip (IsOfEntry {F = F} {S = S} {P = P} name files) rest_of rest
            → AllZip (IsShownAs path) rest (map FromFile rest_files))
            → AllZip (IsShownAs path) sources
            (map FromFile (cond (has_series known path (listed entry)) (listed entry ∷ rest_files) rest_files))
        by true [] e of next = absurd (subst (λ (b : Bool). AllZip (IsOfEntry {F = F} {S = S} {P = P} name files) (cond b (entry ∷ rest_of) rest_of) []) e of)
        by true (one ∷ rest) e of next =
            let h = subst (λ (b : Bool). AllZip (IsOfEntry {F = F} {S = S} {P = P} name files) (cond b (entry ∷ rest_of) rest_of) (one ∷ rest)) e of in
            subst (λ (b : Bool). AllZip (IsShownAs path) (one ∷ rest) (map FromFile (cond b (listed entry ∷ rest_files) rest_files)))
            (sym (known_as.0 ∙ e)) (one_shown one h.0, next rest h.1)
        by false sources e of next =
            subst (λ (b : Bool). AllZip (IsShownAs path) sources (map FromFile (cond b (listed entry ∷ rest_files) rest_files)))
            (sym (known_as.0 ∙ e))
            (next sources (subst (λ (b : Bool). AllZip (IsOfEntry {F = F} {S = S} {P = P} name files) (cond b (entry ∷ rest_of) rest_of) sources) e of))

-- ---- parts in memory

not_none : (n : ℕ) → (suc n == 0) ≡ false
not_none n = grind (arith, nat_tests)

same_time : (a b : ℤ) → int_eq a b ≡ true → a ≡ b
same_time a b h = grind (arith, ints)

time_itself : (a : ℤ) → int_eq a a ≡ true
time_itself a = grind (arith, ints)

none_within : (b : Bool) → ◌≡◌ {A = Option Value} None (cond {A = Option Value} b None None)
none_within true = refl
none_within false = refl

-- the value of the points in a range
value_within : (range : Range) (time : ℤ) (points : List Point)
    → point_value_at time (filter (is_point_within range) points) ≡ cond (is_in range time) (point_value_at time points) None
value_within range time [] = none_within (is_in range time)
value_within range time (p ∷ points) = by (is_in range p.time) (int_eq time p.time) refl refl (value_within range time points)
  where
    found : List Point → Option Value
    found l = point_value_at time l

    first : Option Point → Option Value
    first o = option_map (λ (q : Point). q.value) o

    by : (inside here : Bool) → is_in range p.time ≡ inside → int_eq time p.time ≡ here
        → found (filter (is_point_within range) points) ≡ cond (is_in range time) (found points) None
        → found (cond (is_in range p.time) (p ∷ filter (is_point_within range) points) (filter (is_point_within range) points))
        ≡ cond (is_in range time) (first (cond (int_eq time p.time) (Some p) (find (λ (q : Point). int_eq time q.time) points))) None
    by true true e f rest =
        ap (λ (b : Bool). found (cond b (p ∷ filter (is_point_within range) points) (filter (is_point_within range) points))) e
        ∙ ap (λ (b : Bool). first (cond b (Some p) (find (λ (q : Point). int_eq time q.time) (filter (is_point_within range) points)))) f
        ∙ sym ((λ i. cond ((ap (is_in range) (same_time time p.time f) ∙ e) i)
        (first (cond (f i) (Some p) (find (λ (q : Point). int_eq time q.time) points))) None))
    by true false e f rest =
        ap (λ (b : Bool). found (cond b (p ∷ filter (is_point_within range) points) (filter (is_point_within range) points))) e
        ∙ ap (λ (b : Bool). first (cond b (Some p) (find (λ (q : Point). int_eq time q.time) (filter (is_point_within range) points)))) f
        ∙ rest
        ∙ ap (λ (b : Bool). cond (is_in range time) (first (cond b (Some p) (find (λ (q : Point). int_eq time q.time) points))) None) (sym f)
    by false true e f rest =
        ap (λ (b : Bool). found (cond b (p ∷ filter (is_point_within range) points) (filter (is_point_within range) points))) e
        ∙ rest
        ∙ ap (λ (b : Bool). cond b (found points) None) (ap (is_in range) (same_time time p.time f) ∙ e)
        ∙ sym (ap (λ (b : Bool). cond b (first (cond (int_eq time p.time) (Some p) (find (λ (q : Point). int_eq time q.time) points))) None)
        (ap (is_in range) (same_time time p.time f) ∙ e))
    by false false e f rest =
        ap (λ (b : Bool). found (cond b (p ∷ filter (is_point_within range) points) (filter (is_point_within range) points))) e
        ∙ rest
        ∙ ap (λ (b : Bool). cond (is_in range time) (first (cond b (Some p) (find (λ (q : Point). int_eq time q.time) points))) None) (sym f)

module _ (series : List Schema) (path : List ℕ) (number : ℕ) (numbered : number_of series path ≡ Some number) (range : Range)
    (space : Space) where
  abbrev at : ℤ → PointPlace
  at time = record { path = path; time = time }

  abbrev cut_to : Content → Content
  cut_to content = retain_keys content (is_within_place path range)

  abbrev layer_in : states.FrozenContent → Layer
  layer_in pair = record { born = pair.born; content = part_of space pair.pair }

  cut_at : (content : Content) (q : PointPlace)
      → get (cut_to content) q ≡ cond (is_within_place path range q) (get content q) None
  cut_at content q = get-retain_keys content (is_within_place path range) q
      (λ x e. ap (is_within_place path range) (sym (place_cmp-IsAntisymmetric q x e)))

  module _ (pair : memory.FrozenPair) (shown : states.FrozenContent) (is : IsFrozenOf series pair shown) where
    abbrev content : Content
    content = part_of space shown.pair

    points_are : (time : ℤ) → point_value_at time (points_of space number pair.pair) ≡ get content (at time)
    points_are time = sym (part_is series pair.pair shown.pair space is.pair (at time)
        ∙ ap (λ (o : Option ℕ). option_and_then (λ n. point_value_at time (points_of space n pair.pair)) o) numbered)

    slice_are : (time : ℤ) → point_value_at time (slice_of space number range pair) ≡ get (cut_to content) (at time)
    slice_are time = value_within range time (points_of space number pair.pair)
        ∙ ap (λ (o : Option Value). cond (is_in range time) o None) (points_are time)
        ∙ sym (cut_at content (at time)
        ∙ ap (λ (b : Bool). cond (b && is_in range time) (get content (at time)) None) (path_itself path))

    -- no point of another series is in it
    elsewhere : (q : PointPlace) → slice_of space number range pair ≡ [] → get (cut_to content) q ≡ None
    elsewhere q none = by (is_path path q.path) refl
      where
        by : (b : Bool) → is_path path q.path ≡ b → get (cut_to content) q ≡ None
        by false e = cut_at content q ∙ ap (λ (b : Bool). cond (b && is_in range q.time) (get content q) None) e
        by true e = ap (λ (p : List ℕ). get (cut_to content) (record { path = p; time = q.time })) (sym (is_path_same path q.path e))
            ∙ sym (slice_are q.time) ∙ ap (point_value_at q.time) none

    not_empty : (p : Point) (points : List Point) → slice_of space number range pair ≡ p ∷ points
        → nat_lt 0 (len (cut_to content)) ≡ true
    not_empty p points are = by (nat_lt 0 (len (cut_to content))) refl
      where
        zero_is : (n : ℕ) → nat_lt 0 n ≡ false → n ≡ 0
        zero_is n e = grind (arith, nat_tests)

        there : get (cut_to content) (at p.time) ≡ Some p.value
        there = sym (slice_are p.time) ∙ ap (point_value_at p.time) are
            ∙ ap (λ (b : Bool). option_map (λ (q : Point). q.value) (cond b (Some p) (find (λ (q : Point). int_eq p.time q.time) points)))
            (time_itself p.time)

        never : {A : Type 0} → None ≡ Some p.value → A
        never e = cc

        by : (b : Bool) → nat_lt 0 (len (cut_to content)) ≡ b → b ≡ true
        by true e = refl
        by false e = never (sym (ap (λ (c : Content). get c (at p.time)) (empty_of_len (cut_to content) (zero_is _ e))
            ∙ get-empty place_cmp (at p.time)) ∙ there)

    same_test : has_slice space number range pair ≡ nat_lt 0 (len (cut_to content))
    same_test = by (slice_of space number range pair) refl
      where
        by : (points : List Point) → slice_of space number range pair ≡ points
            → not (length points == 0) ≡ nat_lt 0 (len (cut_to content))
        by [] e = sym (ap (λ (c : Content). nat_lt 0 (len c))
            (same_content (cut_to content) empty (λ q. elsewhere q e ∙ sym (get-empty place_cmp q)))
            ∙ ap (nat_lt 0) (len-empty place_cmp Value))
        by (p ∷ points) e = some (length points) ∙ sym (not_empty p points e)
          where
            some : (n : ℕ) → not (suc n == 0) ≡ true
            some n = ap not (not_none n)

    points_shown : IsRising (points_of space number pair.pair)
        → ArePointsOf path (slice_of space number range pair) (cut_to content)
    points_shown rising = record {
      rising = AllPairs-filter (λ a b. a.time <ℤ b.time) (is_point_within range) (points_of space number pair.pair) rising;
      are = slice_are;
    }

  parts_shown : (F S R P : Type 0) (pairs : List memory.FrozenPair) (shown : List states.FrozenContent)
      → AllZip (IsFrozenOf series) pairs shown → AreRisingIn space number pairs
      → AllZip (IsShownAs {F = F} {S = S} {R = R} {P = P} path) (parts_in space number range pairs) (part_sources path range (map layer_in shown))
  parts_shown F S R P [] [] are rising = tt
  parts_shown F S R P [] (one ∷ shown) are rising = absurd are
  parts_shown F S R P (pair ∷ pairs) [] are rising = absurd are
  parts_shown F S R P (pair ∷ pairs) (one ∷ shown) are rising =
      by (has_slice space number range pair) refl (parts_shown F S R P pairs shown are.1 rising.1)
    where
      rest_pairs : List memory.FrozenPair
      rest_pairs = filter (has_slice space number range) pairs

      has_some : Layer → Bool
      has_some layer = nat_lt 0 (len (cut_to layer.content))

      rest_layers : List Layer
      rest_layers = filter has_some (map layer_in shown)

      source_of : Layer → SourceState
      source_of layer = FromPart (part_within path range layer)

      by : (b : Bool) → has_slice space number range pair ≡ b
          → AllZip (IsShownAs {F = F} {S = S} {R = R} {P = P} path) (map (part_in space number range) rest_pairs) (map source_of rest_layers)
          → AllZip (IsShownAs {F = F} {S = S} {R = R} {P = P} path)
          (map (part_in space number range) (cond (has_slice space number range pair) (pair ∷ rest_pairs) rest_pairs))
          (map source_of (cond (has_some (layer_in one)) (layer_in one ∷ rest_layers) rest_layers))
      by true e rest =
          subst (λ (b : Bool). AllZip (IsShownAs {F = F} {S = S} {R = R} {P = P} path)
          (map (part_in space number range) (cond (has_slice space number range pair) (pair ∷ rest_pairs) rest_pairs))
          (map source_of (cond b (layer_in one ∷ rest_layers) rest_layers))) (same_test pair one are.0)
          (subst (λ (b : Bool). AllZip (IsShownAs {F = F} {S = S} {R = R} {P = P} path)
          (map (part_in space number range) (cond b (pair ∷ rest_pairs) rest_pairs))
          (map source_of (cond b (layer_in one ∷ rest_layers) rest_layers))) (sym e)
          ((are.0.born, points_shown pair one are.0 rising.0), rest))
      by false e rest =
          subst (λ (b : Bool). AllZip (IsShownAs {F = F} {S = S} {R = R} {P = P} path)
          (map (part_in space number range) (cond (has_slice space number range pair) (pair ∷ rest_pairs) rest_pairs))
          (map source_of (cond b (layer_in one ∷ rest_layers) rest_layers))) (same_test pair one are.0)
          (subst (λ (b : Bool). AllZip (IsShownAs {F = F} {S = S} {R = R} {P = P} path)
          (map (part_in space number range) (cond b (pair ∷ rest_pairs) rest_pairs))
          (map source_of (cond b (layer_in one ∷ rest_layers) rest_layers))) (sym e) rest)

-- ---- a column

-- the pairs in memory are those of the state
pairs_shown : (store : MemoryState) (shown : StoreState) → IsMemoryOf store shown
    → AllZip (IsFrozenOf store.series) (pairs_in store) (shown.frozen ++ working_pair shown ∷ [])
pairs_shown store shown is = zip_append (IsFrozenOf store.series) store.frozen
    (record { born = store.stamp; pair = store.working } ∷ []) shown.frozen (working_pair shown ∷ []) is.frozen
    (record { born = is.stamp; pair = is.working }, tt)

pub sources_shown : {F S R P : Type 0} (name : R → NamedFile) (files : KeptFiles) (store : MemoryState) (known : KnownFiles)
    (state : EngineState) → IsMemoryOf store state.store → AreFilesOf files known state → AreKept files
    → (path : List ℕ) (number : ℕ) (range : Range) → number_of store.series path ≡ Some number
    → (sources : List (PinnedSource F S R P)) → AreSourcesOf name files store path number range sources
    → AllZip (IsShownAs path) sources (sources_of known state.store path range)
sources_shown {F = F} {S = S} {R = R} {P = P} name files store known state memory are kept path number range numbered sources of =
    subst (λ l. AllZip (IsShownAs path) l (sources_of known state.store path range)) (sym of.are)
    (zip_append (IsShownAs path) of.sequence of.unsequence low high
    (subst (λ l. AllZip (IsShownAs path) l low) (sym of.in_sequence.are)
    (zip_append (IsShownAs path) of.in_sequence.listed (parts_in Sequence number range (pairs_in store))
    (file_sources known path state.store.sequence) (part_sources path range (map sequence_layer pairs))
    (subst (λ l. AllZip (IsShownAs path) of.in_sequence.listed (file_sources known path l)) are.sequence
    (files_shown files known state are kept path name files.sequence of.in_sequence.listed
    (all_as_kept files known state are kept path Sequence) of.in_sequence.of_files))
    (parts_shown store.series path number numbered range Sequence F S R P (pairs_in store) pairs (pairs_shown store state.store memory)
    of.in_sequence.rising)))
    (subst (λ l. AllZip (IsShownAs path) l high) (sym of.in_unsequence.are)
    (zip_append (IsShownAs path) of.in_unsequence.listed (parts_in Unsequence number range (pairs_in store))
    (file_sources known path state.store.unsequence) (part_sources path range (map unsequence_layer pairs))
    (subst (λ l. AllZip (IsShownAs path) of.in_unsequence.listed (file_sources known path l)) are.unsequence
    (files_shown files known state are kept path name files.unsequence of.in_unsequence.listed
    (all_as_kept files known state are kept path Unsequence) of.in_unsequence.of_files))
    (parts_shown store.series path number numbered range Unsequence F S R P (pairs_in store) pairs (pairs_shown store state.store memory)
    of.in_unsequence.rising))))
  where
    pairs : List states.FrozenContent
    pairs = state.store.frozen ++ working_pair state.store ∷ []

    low : List SourceState
    low = file_sources known path state.store.sequence ++ part_sources path range (map sequence_layer pairs)

    high : List SourceState
    high = file_sources known path state.store.unsequence ++ part_sources path range (map unsequence_layer pairs)
