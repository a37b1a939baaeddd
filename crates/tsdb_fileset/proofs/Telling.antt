-- The line of a file tells the points of the file, where what is kept of it says them.
use Rattle.std.proofs.Common.{◌≡◌, ℕ, ℤ, List, [], ◌∷◌, ◌++◌, map, length, Option, Some, None, inl, inr}
use Rattle.std.proofs.Common.{ap, arith, refl, sym, subst, ◌∙◌, nat_eq}
use Rattle.std.specs.Prelude.{◌≤ℤ◌, IfSome}
use Rattle.std.specs.FinMap.{empty, get, get-empty, len, len-empty}
use Rattle.std.specs.List.{AllByRecursion as Each, AllZip}
use Rattle.std.proofs.lemmas.Bool.{eq-eqb}
use Rattle.std.proofs.lemmas.Int.{ints}
use Rattle.tsdb_base.specs.declared.ids.Space.{Space}
use Rattle.tsdb_base.specs.declared.ids.Space.TheVariants.{Sequence, Unsequence}
use Rattle.tsdb_base.specs.declared.value.Value.{Value}
use Rattle.tsdb_fileset.specs.StateOfFiles.{AreFilesOf, entry_of, listed}
use Rattle.tsdb_fileset.proofs.Counts.{counted}
use Rattle.tsdb_fileset.specs.Files.{AreKept, KeptFiles, entry_numbers, kept_file, all_numbers, outgoing_numbers}
use Rattle.tsdb_fileset.specs.Places.{KeptFile}
use Rattle.tsdb_base.proofs.Lists.{among_left, among_map, among_right, any_among, each_among, each_left, each_right}
use Rattle.tsdb_flush.proofs.LayerLemmas.Places.{same_content}
use Rattle.tsdb_base.specs.Lists.{Among, if_some}
use Rattle.tsdb_flush.specs.Places.{Content, PointPlace, place_cmp}
use Rattle.tsdb_fileset.proofs.Spans.{greatest_each, greatest_is, least_each, least_is}
use Rattle.tsdb_fileset.specs.Lines.{hulls_end, hulls_start, line_of, file_lines_of}
use Rattle.tsdb_fileset.specs.Listings.{HasPointAt, TellFiles, TellsFile}
use Rattle.tsdb_plan.specs.declared.entry.FileEntry.{FileEntry}
use Rattle.tsdb_plan.specs.declared.entry.Hull.{Hull}
use Rattle.tsdb_flush.specs.StateJobs.{Describes, EntriesMatch, HasTime}
use Rattle.tsdb_flush.specs.State.{EngineState, KnownFiles, KnownFile, File, ToldContents}

-- the hulls of a file span its points
record Span (content : Content) (hulls : List Hull) : Type 0 where
  pub between : (place : PointPlace) (value : Value) → get content place ≡ Some value
      → (hulls_start hulls ≤ℤ place.time) × (place.time ≤ℤ hulls_end hulls)
  pub from : HasPointAt content (hulls_start hulls)
  pub to : HasPointAt content (hulls_end hulls)

point_at : (content : Content) (device : List ℕ) (time other : ℤ) → HasTime content device time → time ≡ other
    → HasPointAt content other
point_at content device time other has same =
    record { place = has.place; value = has.value; has = has.has; at = has.at ∙ same }

module _ (content : Content) (entry : KnownFile) (says : Describes entry content) where
  nothing_over : (found : Option Value) (place : PointPlace) → entry.hulls ≡ [] → get content place ≡ found → found ≡ None
  nothing_over None place none is = refl
  nothing_over (Some value) place none is =
      let over = says.over place value is in
      absurd (subst (Among over.0) none over.1)

  no_hull : entry.hulls ≡ [] → ⊥
  no_hull none =
      let nothing = same_content content empty (λ place. nothing_over (get content place) place none refl ∙ sym (get-empty place_cmp place)) in
      let none_there : len content ≡ 0 = ap len nothing ∙ len-empty place_cmp Value in
      omega (arith, says.some, says.points, none_there)

  span : (hulls : List Hull) → entry.hulls ≡ hulls → Span content hulls
  span [] is = absurd (no_hull is)
  span (first ∷ hulls) is = record {
    between = λ place value has.
        let over = says.over place value has in
        let among = subst (Among over.0) is over.1 in
        let least = least_each first hulls over.0 among in
        let greatest = greatest_each first hulls over.0 among in
        let from = over.2.from in
        let to = over.2.to in
        (omega (arith, ints, least, from), omega (arith, ints, to, greatest));
    from =
        let least = least_is first hulls in
        point_at content least.hull.device least.hull.from (hulls_start (first ∷ hulls))
        (tight least.hull least.among).0 least.is;
    to =
        let greatest = greatest_is first hulls in
        point_at content greatest.hull.device greatest.hull.to (hulls_end (first ∷ hulls))
        (tight greatest.hull greatest.among).1 greatest.is;
  }
    where
      tight : (hull : Hull) → Among hull (first ∷ hulls)
          → HasTime content hull.device hull.from × HasTime content hull.device hull.to
      tight hull among = each_among (λ (h : Hull). HasTime content h.device h.from × HasTime content h.device h.to)
          (first ∷ hulls) hull (subst (Each (λ (h : Hull). HasTime content h.device h.from × HasTime content h.device h.to))
          is says.tight) among

line_tells : (told : ToldContents) (space : Space) (entry : FileEntry) (series : List (List ℕ))
    → Describes (entry_of entry series) (told entry.number.0) → TellsFile told space (listed entry) (line_of space entry)
line_tells told space entry series says =
    let spans = span (told entry.number.0) (entry_of entry series) says entry.hulls refl in
    record {
      space_is = refl;
      number_is = refl;
      born_is = refl;
      points = says.points;
      between = spans.between;
      from = spans.from;
      to = spans.to;
    }

module _ (files : KeptFiles) (told : ToldContents) (known : KnownFiles) (kept : AreKept files) where
  -- what is kept of a file whose number is one of those of the files
  says_of : (entry : FileEntry) → Among entry.number.0 (all_numbers files)
      → IfSome (kept_file entry.number.0 files) (λ file. known entry.number.0 ≡ entry_of entry file.series)
      → Describes (known entry.number.0) (told entry.number.0) → (series : List (List ℕ))
      × Describes (entry_of entry series) (told entry.number.0)
  says_of entry among = by (kept_file entry.number.0 files) refl
    where
      by : (found : Option KeptFile) → kept_file entry.number.0 files ≡ found
          → IfSome found (λ file. known entry.number.0 ≡ entry_of entry file.series)
          → Describes (known entry.number.0) (told entry.number.0)
          → (series : List (List ℕ)) × Describes (entry_of entry series) (told entry.number.0)
      by None is known_is says =
          let some = counted entry.number.0 (all_numbers files) (any_among (nat_eq entry.number.0) (all_numbers files)
          entry.number.0 among (eq-eqb entry.number.0 entry.number.0 refl)) in
          let none : length (if_some (kept_file entry.number.0 files)) ≡ 0 = ap (λ found. length (if_some found)) is in
          absurd (omega (arith, some, none, kept entry.number.0))
      by (Some file) is known_is says = (
        file.series,
        subst (λ (e : KnownFile). Describes e (told entry.number.0)) known_is says,
      )

  lines_tell : (space : Space) (entries : List FileEntry)
      → ((entry : FileEntry) → Among entry entries → Among entry.number.0 (all_numbers files))
      → Each (λ entry. IfSome (kept_file entry.number.0 files)
      (λ file. known entry.number.0 ≡ entry_of entry file.series)) entries
      → Each (λ (file : File). Describes (known file.number) (told file.number)) (map listed entries)
      → AllZip (TellsFile told space) (map listed entries) (file_lines_of space entries)
  lines_tell space [] within kept_so says = tt
  lines_tell space (entry ∷ entries) within kept_so says =
      let said = says_of entry (within entry (inl refl)) kept_so.0 says.0 in (
        line_tells told space entry said.0 said.1,
        lines_tell space entries (λ other among. within other (inr among)) kept_so.1 says.1,
      )

  pub lines_tell_files : (state : EngineState) → AreFilesOf files known state
      → EntriesMatch told known (state.store.sequence ++ state.store.unsequence)
      → TellFiles told state.store (file_lines_of Sequence files.sequence ++ file_lines_of Unsequence files.unsequence)
  lines_tell_files state are match = record {
    sequence = file_lines_of Sequence files.sequence;
    unsequence = file_lines_of Unsequence files.unsequence;
    are = refl;
    tell_sequence = subst (λ (list : List File). AllZip (TellsFile told Sequence) list (file_lines_of Sequence files.sequence))
        are.sequence
        (lines_tell Sequence files.sequence (λ entry among. among_left (entry_numbers files.sequence
        ++ entry_numbers files.unsequence) (outgoing_numbers files.outgoing) entry.number.0
        (among_left (entry_numbers files.sequence) (entry_numbers files.unsequence) entry.number.0
        (among_map (λ (e : FileEntry). e.number.0) files.sequence entry among)))
        are.entries_in_sequence
        (subst (Each Said) (sym are.sequence) (each_left Said state.store.sequence state.store.unsequence match)));
    tell_unsequence = subst (λ (list : List File). AllZip (TellsFile told Unsequence) list
        (file_lines_of Unsequence files.unsequence)) are.unsequence
        (lines_tell Unsequence files.unsequence (λ entry among. among_left (entry_numbers files.sequence
        ++ entry_numbers files.unsequence) (outgoing_numbers files.outgoing) entry.number.0
        (among_right (entry_numbers files.sequence) (entry_numbers files.unsequence) entry.number.0
        (among_map (λ (e : FileEntry). e.number.0) files.unsequence entry among)))
        are.entries_in_unsequence
        (subst (Each Said) (sym are.unsequence) (each_right Said state.store.sequence state.store.unsequence match)));
  }
    where
      Said : File → Type 0
      Said file = Describes (known file.number) (told file.number)
