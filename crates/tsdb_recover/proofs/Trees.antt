-- Kept files that are files of trees, in the order of the lists, and the first file that is not.
use Rattle.std.proofs.Common.{◌≡◌, ◌⊎◌, ◌∙◌, ℕ, List, [], ◌∷◌, ◌++◌, length, map, Option, None, Some, IfSome}
use Rattle.std.proofs.Common.{inl, inr, refl, sym, ap, subst, append_assoc}
use Rattle.std.proofs.lemmas.List.{map-append}
use Rattle.std.specs.Prelude.{slice_get}
use Rattle.std.specs.List.{AllByRecursion as Each}
use Rattle.std.specs.Option.{IsSomeAnd, option_map}
use Rattle.tsdb_recover.proofs.Counting.{are_all}
use Rattle.tsdb_recover.proofs.First.{first_all, next_behind, wanted_is}
use Rattle.tsdb_recover.specs.Adopting.{AreFirstOf, next_in, wanted_file, wanted_of}
use Rattle.tsdb_base.specs.declared.ids.Space.{Space}
use Rattle.tsdb_base.specs.declared.ids.Space.TheVariants.{Sequence, Unsequence}
use Rattle.tsdb_fileset.specs.StateOfFiles.{listed}
use Rattle.tsdb_state.specs.StoredEngine.{kept_bytes}
use Rattle.tsdb_fileset.specs.Files.{Appends, KeptFiles, kept_file}
use Rattle.tsdb_base.proofs.Lists.{each_append, each_left, each_right}
use Rattle.tsdb_outside.specs.Files.{StoredFile}
use Rattle.tsdb_plan.specs.declared.entry.FileEntry.{FileEntry}
use Rattle.tsdb_recover.specs.Files.{IsDamagedAmong}
use Rattle.tsdb_recover.proofs.Rest.{contains_found, found_contains, none_is_some}
use Rattle.tsdb_recover.specs.Damage.{IsBadAt, IsDamagedFile, IsTreeFile}
use Rattle.tsdb_recover.specs.Taking.{IsNextFile, IsRestIn, rests_of}
use Rattle.tsdb_recover.specs.StoredFiles.{AreStored}
use Rattle.tsdb_state.specs.State.{File, StoreState}

spaces_differ : Sequence ≡ Unsequence → ⊥
spaces_differ same = cc

some_is : (a b : Space × File) → Some a ≡ Some b → a ≡ b
some_is a b same = cc

-- an unsequence file is wanted only where no sequence file is
late_wanted : (first late : Option File) (file : File) → wanted_of first late ≡ Some (Unsequence, file) → first ≡ None
late_wanted None late file is = refl
late_wanted (Some x) late file is =
    absurd (spaces_differ (ap (λ (p : Space × File). p.0) (some_is (Sequence, x) (Unsequence, file) is)))

-- ---- the number of the wanted file

pub next_is : (number : ℕ) (files : KeptFiles) (store : StoreState) (wanted : Space × File)
    → wanted_file files store ≡ Some wanted → IsNextFile number files store → wanted.1.number ≡ number
next_is number files store wanted is next = by (wanted_file files store) is next
  where
    by : (found : Option (Space × File)) → found ≡ Some wanted → IsSomeAnd found (λ w. w.1.number ≡ number)
        → wanted.1.number ≡ number
    by None is next = absurd next
    by (Some other) is next = let same : other ≡ wanted = cc in subst (λ w. w.1.number ≡ number) same next

-- what the call says of it
pub said_next : (number : ℕ) (wanted : Option (Space × File))
    → Some number ≡ option_map (λ (wanted : Space × File). wanted.1.number) wanted
    → IsSomeAnd wanted (λ wanted. wanted.1.number ≡ number)
said_next number None is = absurd cc
said_next number (Some wanted) is = let same : number ≡ wanted.1.number = cc in sym same

pub said_none : (wanted : Option (Space × File))
    → None ≡ option_map (λ (wanted : Space × File). wanted.1.number) wanted → wanted ≡ None
said_none None is = refl
said_none (Some wanted) is = absurd cc

-- ---- files of trees

module _ (stored : List StoredFile) (store : StoreState) where
  abbrev Are : KeptFiles → Type 0
  Are files = Each (IsTreeFile (kept_bytes stored)) (map listed files.sequence ++ map listed files.unsequence)

  abbrev InOrder : KeptFiles → Type 0
  InOrder files = (next_in Sequence files store ≡ None) ⊎ (files.unsequence ≡ [])

  -- a file more is kept, which is that of a tree
  pub tree_with : (space : Space) (file : File) (entry : FileEntry) (old new : KeptFiles) → Appends space entry old new
      → wanted_file old store ≡ Some (space, file) → listed entry ≡ file → IsTreeFile (kept_bytes stored) file
      → Are old → InOrder old → Are new × InOrder new
  tree_with Sequence file entry old new list wanted same is all order =
      let P : File → Type 0 = IsTreeFile (kept_bytes stored) in (
        each_append P (map listed new.sequence) (map listed new.unsequence)
            (subst (λ l. Each P (map listed l)) (sym list.0)
            (subst (Each P) (sym (map-append listed old.sequence (entry ∷ [])))
            (each_append P (map listed old.sequence) (listed entry ∷ [])
            (each_left P (map listed old.sequence) (map listed old.unsequence) all) (subst P (sym same) is, tt))))
            (subst (λ l. Each P (map listed l)) (sym list.1)
            (each_right P (map listed old.sequence) (map listed old.unsequence) all)),
        inr (list.1 ∙ empty order),
      )
    where
      empty : (next_in Sequence old store ≡ None) ⊎ (old.unsequence ≡ []) → old.unsequence ≡ []
      empty (inl none) = absurd (none_is_some file (sym none
          ∙ wanted_is (next_in Sequence old store) (next_in Unsequence old store) Sequence file wanted))
      empty (inr is) = is
  tree_with Unsequence file entry old new list wanted same is all order =
      let P : File → Type 0 = IsTreeFile (kept_bytes stored) in (
        each_append P (map listed new.sequence) (map listed new.unsequence)
            (subst (λ l. Each P (map listed l)) (sym list.0)
            (each_left P (map listed old.sequence) (map listed old.unsequence) all))
            (subst (λ l. Each P (map listed l)) (sym list.1)
            (subst (Each P) (sym (map-append listed old.unsequence (entry ∷ [])))
            (each_append P (map listed old.unsequence) (listed entry ∷ [])
            (each_right P (map listed old.sequence) (map listed old.unsequence) all) (subst P (sym same) is, tt)))),
        inl (ap (λ l. slice_get store.sequence (length l)) list.0
            ∙ late_wanted (next_in Sequence old store) (next_in Unsequence old store) file wanted),
      )

  -- once all are kept, all listed files are
  pub all_trees : (files : KeptFiles) → AreFirstOf files store → wanted_file files store ≡ None → Are files
      → Each (IsTreeFile (kept_bytes stored)) (store.sequence ++ store.unsequence)
  all_trees files first none all =
      let are = are_all files store first none in
      subst (λ l. Each (IsTreeFile (kept_bytes stored)) (l ++ store.unsequence)) are.sequence
      (subst (λ l. Each (IsTreeFile (kept_bytes stored)) (map listed files.sequence ++ l)) are.unsequence all)

  -- the wanted file is the first that is bad
  first_bad : (files : KeptFiles) (space : Space) (file : File) (at : ℕ) → AreFirstOf files store
      → wanted_file files store ≡ Some (space, file) → Are files → IsBadAt (kept_bytes stored file.number) at
      → IsDamagedFile (kept_bytes stored) store file.number at
  first_bad files Sequence file at first wanted all bad =
      let next = next_behind files.sequence store.sequence file first.sequence
      (wanted_is (next_in Sequence files store) (next_in Unsequence files store) Sequence file wanted) in
      record {
        before = map listed files.sequence;
        file = file;
        after = next.more ++ store.unsequence;
        split = ap (λ l. l ++ store.unsequence) (first.sequence.is ∙ ap (λ l. map listed files.sequence ++ l) next.is)
            ∙ append_assoc (map listed files.sequence) (file ∷ next.more) store.unsequence;
        whole = each_left (IsTreeFile (kept_bytes stored)) (map listed files.sequence)
            (map listed files.unsequence) all;
        is = refl;
        bad = bad;
      }
  first_bad files Unsequence file at first wanted all bad =
      let next = next_behind files.unsequence store.unsequence file first.unsequence
      (wanted_is (next_in Sequence files store) (next_in Unsequence files store) Unsequence file wanted) in
      let whole = first_all files.sequence store.sequence first.sequence
      (late_wanted (next_in Sequence files store) (next_in Unsequence files store) file wanted) in
      record {
        before = map listed files.sequence ++ map listed files.unsequence;
        file = file;
        after = next.more;
        split = ap (λ l. l ++ store.unsequence) (sym whole)
            ∙ ap (λ l. map listed files.sequence ++ l)
            (first.unsequence.is ∙ ap (λ l. map listed files.unsequence ++ l) next.is)
            ∙ sym (append_assoc (map listed files.sequence) (map listed files.unsequence) (file ∷ next.more));
        whole = all;
        is = refl;
        bad = bad;
      }

  pub damaged_next : (files : KeptFiles) (number at : ℕ) → AreFirstOf files store → IsNextFile number files store
      → Are files → IsBadAt (kept_bytes stored number) at → IsDamagedFile (kept_bytes stored) store number at
  damaged_next files number at first next all bad = by (wanted_file files store) refl
    where
      by : (found : Option (Space × File)) → wanted_file files store ≡ found
          → IsDamagedFile (kept_bytes stored) store number at
      by None is = absurd (subst (λ w. IsSomeAnd w (λ w. w.1.number ≡ number)) is next)
      by (Some wanted) is =
          let same = next_is number files store wanted is next in
          subst (λ n. IsDamagedFile (kept_bytes stored) store n at) same
          (first_bad files wanted.0 wanted.1 at first is all
          (subst (λ n. IsBadAt (kept_bytes stored n) at) (sym same) bad))

-- ---- a file that cannot be read, by its number

bad_at : (rest : List StoredFile) (number at : ℕ) → AreStored rest → IsDamagedAmong rest number at
    → IsBadAt (kept_bytes rest number) at
bad_at rest number at are (inl missing) = by (kept_bytes rest number) refl
  where
    by : (found : Option (List ℕ)) → kept_bytes rest number ≡ found → IsBadAt found at
    by None is = missing.1
    by (Some bytes) is = absurd (missing.0 (found_contains rest number bytes is))
bad_at rest number at are (inr bad) =
    subst (λ found. IsBadAt found at)
    (sym (ap (kept_bytes rest) (sym bad.number_is) ∙ contains_found rest bad.file are.differ bad.there))
    (bad.none, bad.blamed)

pub bad_in : (stored : List StoredFile) (files : KeptFiles) (rest : Option (List StoredFile)) (number at : ℕ)
    → IfSome rest (λ rest. IsDamagedAmong rest number at) → IsRestIn stored files rest → kept_file number files ≡ None
    → IsBadAt (kept_bytes stored number) at
bad_in stored files None number at bad up none = absurd up
bad_in stored files (Some rest) number at bad up none =
    subst (λ found. IsBadAt found at)
    (up.each number ∙ ap (λ found. rests_of found (kept_bytes stored number)) none)
    (bad_at rest number at up.are_stored bad)
