-- What the entries of the listed files are to a plan, and what a claim of late files leaves claimed.
use Rattle.std.proofs.Common.{◌≡◌, ℕ, ◌+◌, ◌≤◌, ◌==◌, Bool, true, false, cond, List, [], ◌∷◌, ◌++◌, drop, length}
use Rattle.std.proofs.Common.{map, take}
use Rattle.std.proofs.Common.{inl, inr, Option, Some, None, arith, ap, refl, sym, ◌∙◌}
use Rattle.std.proofs.lemmas.List.Folds.{list_any-append}
use Rattle.std.proofs.lemmas.List.{map-append}
use Rattle.std.specs.Cmp.{unsigned_Decides}
use Rattle.std.specs.List.{AllByRecursion as Each, list_any}
use Rattle.std.specs.Prelude.{◌&&◌, ◌||◌, IfSome, IsSome, slice_range}
use Rattle.tsdb_base.specs.declared.ids.Space.{Space}
use Rattle.tsdb_base.specs.declared.ids.Space.TheVariants.{Sequence, Unsequence}
use Rattle.tsdb_tasks.proofs.InState.{IsKnown, counted_among, kept_among}
use Rattle.tsdb_tasks.proofs.Taken.{all_counted}
use Rattle.tsdb_core.specs.Core.{is_claimed}
use Rattle.tsdb_fileset.specs.StateOfFiles.{AreFilesOf, entry_of, listed}
use Rattle.tsdb_fileset.proofs.Replaced.{run_parts}
use Rattle.tsdb_fileset.specs.Files.{AreKept, KeptFiles, entries_in, entry_numbers, kept_file, all_numbers}
use Rattle.tsdb_fileset.specs.Places.{KeptFile}
use Rattle.tsdb_fileset.specs.Replacing.{IsWithin, claim_run, with_claim}
use Rattle.tsdb_base.proofs.Lists.{among_left, among_right, count_append, each_among}
use Rattle.tsdb_base.specs.Lists.{Among, count, if_some}
use Rattle.tsdb_plan.specs.declared.entry.FileEntry.{FileEntry}
use Rattle.tsdb_plan.specs.declared.entry.Run.{Run}
use Rattle.tsdb_state.specs.Plans.{file_entries, file_entry}
use Rattle.tsdb_state.specs.State.{EngineState, KnownFiles, File}

abbrev is_claim_of : File → FileEntry → Bool
is_claim_of file entry = (entry.number.0 == file.number) && entry.claimed

-- ---- an entry is claimed where its file is

same_test : (n : ℕ) → (n == n) ≡ true
same_test n = (unsigned_Decides n n).1 refl

-- no file of the number: none is claimed
none_claimed : (file : File) (entries : List FileEntry) → count file.number (entry_numbers entries) ≡ 0
    → list_any (is_claim_of file) entries ≡ false
none_claimed file [] none = refl
none_claimed file (e ∷ entries) none =
    by (e.number.0 == file.number) refl (none_claimed file entries (omega (arith, none)))
  where
    by : (b : Bool) → (e.number.0 == file.number) ≡ b → list_any (is_claim_of file) entries ≡ false
        → list_any (is_claim_of file) (e ∷ entries) ≡ false
    by true is rest = absurd (omega (arith, none, ap {B = ℕ} (λ t. cond t 1 0) is))
    by false is rest = (λ i. (is i && e.claimed) || rest i)

or_false : (b : Bool) → (b || false) ≡ b
or_false true = refl
or_false false = refl

claimed_once : (entries : List FileEntry) (entry : FileEntry) → Among entry entries
    → count entry.number.0 (entry_numbers entries) ≤ 1 → list_any (is_claim_of (listed entry)) entries ≡ entry.claimed
claimed_once [] entry among once = absurd among
claimed_once (e ∷ entries) entry (inl is) once =
    let same : (e.number.0 == entry.number.0) ≡ true =
    (unsigned_Decides e.number.0 entry.number.0).1 (ap (λ (x : FileEntry). x.number.0) is) in
    let rest : count entry.number.0 (entry_numbers entries) ≡ 0 =
    omega (arith, once, ap {B = ℕ} (λ t. cond t 1 0) same) in
    (λ i. (same i && (ap (λ (x : FileEntry). x.claimed) is) i) || none_claimed (listed entry) entries rest i)
    ∙ or_false entry.claimed
claimed_once (e ∷ entries) entry (inr among) once =
    by (e.number.0 == entry.number.0) refl
    (claimed_once entries entry among (omega (arith, once)))
  where
    by : (b : Bool) → (e.number.0 == entry.number.0) ≡ b
        → list_any (is_claim_of (listed entry)) entries ≡ entry.claimed
        → list_any (is_claim_of (listed entry)) (e ∷ entries) ≡ entry.claimed
    by true is rest = absurd (omega (
      arith,
      once,
      counted_among entries entry among,
      ap {B = ℕ} (λ t. cond t 1 0) is,
    ))
    by false is rest = (λ i. (is i && e.claimed) || rest i)

-- ---- a plan of the files of the state is one of what is kept of them

module _ (files : KeptFiles) (known : KnownFiles) (engine : EngineState) (are : AreFilesOf files known engine)
    (kept : AreKept files) where
  listed_once : (n : ℕ) → count n (entry_numbers (files.sequence ++ files.unsequence)) ≤ 1
  listed_once n = by (kept_file n files) (kept n)
    where
      split : count n (entry_numbers (files.sequence ++ files.unsequence))
          ≡ count n (entry_numbers files.sequence) + count n (entry_numbers files.unsequence)
      split = ap (count n) (map-append (λ (e : FileEntry). e.number.0) files.sequence files.unsequence)
          ∙ count_append n (entry_numbers files.sequence) (entry_numbers files.unsequence)

      by : (o : Option KeptFile) → count n (all_numbers files) ≡ length (if_some o)
          → count n (entry_numbers (files.sequence ++ files.unsequence)) ≤ 1
      by None is = omega (arith, is, all_counted n files, split)
      by (Some file) is = omega (arith, is, all_counted n files, split)

  known_in : (space : Space) → Each (IsKnown known files) (entries_in space files)
  known_in Sequence = are.entries_in_sequence
  known_in Unsequence = are.entries_in_unsequence

  in_lists : (space : Space) (entry : FileEntry) → Among entry (entries_in space files)
      → Among entry (files.sequence ++ files.unsequence)
  in_lists Sequence entry among = among_left files.sequence files.unsequence entry among
  in_lists Unsequence entry among = among_right files.sequence files.unsequence entry among

  entry_is : (space : Space) (entry : FileEntry) → Among entry (entries_in space files)
      → file_entry known (is_claimed files) (listed entry) ≡ entry
  entry_is space entry among = by (kept_file entry.number.0 files) (kept_among space files kept entry among)
      (each_among (IsKnown known files) (entries_in space files) entry (known_in space) among)
    where
      claimed : is_claimed files (listed entry) ≡ entry.claimed
      claimed = claimed_once (files.sequence ++ files.unsequence) entry (in_lists space entry among)
          (listed_once entry.number.0)

      by : (o : Option KeptFile) → IsSome o → IfSome o (λ file. known entry.number.0 ≡ entry_of entry file.series)
          → file_entry known (is_claimed files) (listed entry) ≡ entry
      by None some is = absurd cc
      by (Some file) some is = λ i. record {
        number = entry.number;
        born = entry.born;
        size = (is i).size;
        points = (is i).points;
        hulls = (is i).hulls;
        claimed = claimed i;
      }

  entries_are : (entries : List FileEntry)
      → ((entry : FileEntry) → Among entry entries → file_entry known (is_claimed files) (listed entry) ≡ entry)
      → file_entries known (is_claimed files) (map listed entries) ≡ entries
  entries_are [] same = refl
  entries_are (e ∷ entries) same =
      λ i. same e (inl refl) i ∷ entries_are entries (λ entry among. same entry (inr among)) i

  pub in_sequence : file_entries known (is_claimed files) engine.store.sequence ≡ files.sequence
  in_sequence = ap (file_entries known (is_claimed files)) (sym are.sequence)
      ∙ entries_are files.sequence (entry_is Sequence)

  pub in_unsequence : file_entries known (is_claimed files) engine.store.unsequence ≡ files.unsequence
  in_unsequence = ap (file_entries known (is_claimed files)) (sym are.unsequence)
      ∙ entries_are files.unsequence (entry_is Unsequence)

-- ---- what is claimed once the late files of a run are

any_stays : (file : File) (xs ys : List FileEntry) → list_any (is_claim_of file) ys ≡ true
    → list_any (is_claim_of file) (xs ++ ys) ≡ true
any_stays file [] ys is = is
any_stays file (x ∷ xs) ys is = by (is_claim_of file x) (any_stays file xs ys is)
  where
    by : (b : Bool) → list_any (is_claim_of file) (xs ++ ys) ≡ true
        → (b || list_any (is_claim_of file) (xs ++ ys)) ≡ true
    by true rest = refl
    by false rest = rest

or_more : (a b c d : Bool) → (a ≡ true → c ≡ true) → (b ≡ true → d ≡ true) → (a || b) ≡ true → (c || d) ≡ true
or_more true b c d first second is = ap (λ x. x || d) (first refl)
or_more false b true d first second is = refl
or_more false b false d first second is = second is

claim_more : (file : File) (x : FileEntry) → is_claim_of file x ≡ true → is_claim_of file (with_claim true x) ≡ true
claim_more file x is = by (x.number.0 == file.number) x.claimed is
  where
    by : (a c : Bool) → (a && c) ≡ true → (a && true) ≡ true
    by true c is = refl
    by false c is = is

claimed_more : (file : File) (xs : List FileEntry) → list_any (is_claim_of file) xs ≡ true
    → list_any (is_claim_of file) (map (with_claim true) xs) ≡ true
claimed_more file [] is = is
claimed_more file (x ∷ xs) is = or_more (is_claim_of file x) (list_any (is_claim_of file) xs)
    (is_claim_of file (with_claim true x)) (list_any (is_claim_of file) (map (with_claim true) xs))
    (claim_more file x) (claimed_more file xs) is

-- what was claimed in the list stays so
run_stays : (file : File) (run : Run) (entries : List FileEntry) → IsWithin run entries
    → list_any (is_claim_of file) entries ≡ true → list_any (is_claim_of file) (claim_run run true entries) ≡ true
run_stays file run entries within is =
    let any = list_any (is_claim_of file) in
    let front = take run.first entries in
    let mid = slice_range entries run.first run.end in
    let back = drop run.end entries in
    let parts = sym (list_any-append (is_claim_of file) front (mid ++ back)
    ∙ (λ i. any front || list_any-append (is_claim_of file) mid back i))
    ∙ ap any (run_parts run.first run.end entries within.rises) ∙ is in
    list_any-append (is_claim_of file) front (map (with_claim true) mid ++ back)
    ∙ (λ i. any front || list_any-append (is_claim_of file) (map (with_claim true) mid) back i)
    ∙ or_more (any front) (any mid || any back) (any front) (any (map (with_claim true) mid) || any back) (λ a. a)
    (or_more (any mid) (any back) (any (map (with_claim true) mid)) (any back) (claimed_more file mid) (λ b. b)) parts

-- the files of the run are claimed
claimed_all : (file : File) (xs : List FileEntry) → Among file (map listed xs)
    → list_any (is_claim_of file) (map (with_claim true) xs) ≡ true
claimed_all file [] among = absurd among
claimed_all file (x ∷ xs) (inl is) =
    let same : (x.number.0 == file.number) ≡ true =
    (unsigned_Decides x.number.0 file.number).1 (ap (λ (f : File). f.number) is) in
    (λ i. (same i && true) || list_any (is_claim_of file) (map (with_claim true) xs))
claimed_all file (x ∷ xs) (inr among) =
    by (is_claim_of file (with_claim true x)) (claimed_all file xs among)
  where
    by : (b : Bool) → list_any (is_claim_of file) (map (with_claim true) xs) ≡ true
        → (b || list_any (is_claim_of file) (map (with_claim true) xs)) ≡ true
    by true rest = refl
    by false rest = rest

module _ (run : Run) (old new : KeptFiles) (within : IsWithin run old.unsequence) (early : new.sequence ≡ old.sequence)
    (late : new.unsequence ≡ claim_run run true old.unsequence) where
  lists_new : (file : File)
      → is_claimed new file ≡ (list_any (is_claim_of file) old.sequence
      || list_any (is_claim_of file) (claim_run run true old.unsequence))
  lists_new file = list_any-append (is_claim_of file) new.sequence new.unsequence
      ∙ (λ i. list_any (is_claim_of file) (early i) || list_any (is_claim_of file) (late i))

  pub claims_stay : (file : File) → is_claimed old file ≡ true → is_claimed new file ≡ true
  claims_stay file is = lists_new file
      ∙ or_more (list_any (is_claim_of file) old.sequence) (list_any (is_claim_of file) old.unsequence)
      (list_any (is_claim_of file) old.sequence) (list_any (is_claim_of file) (claim_run run true old.unsequence))
      (λ a. a) (run_stays file run old.unsequence within)
      (sym (list_any-append (is_claim_of file) old.sequence old.unsequence) ∙ is)

  pub run_claimed : (file : File) → Among file (map listed (slice_range old.unsequence run.first run.end))
      → is_claimed new file ≡ true
  run_claimed file among = lists_new file
      ∙ or_true (list_any (is_claim_of file) old.sequence)
      (list_any (is_claim_of file) (claim_run run true old.unsequence))
      (any_stays file (take run.first old.unsequence) (map (with_claim true) mid ++ drop run.end old.unsequence)
      (list_any-append (is_claim_of file) (map (with_claim true) mid) (drop run.end old.unsequence)
      ∙ ap (λ b. b || list_any (is_claim_of file) (drop run.end old.unsequence)) (claimed_all file mid among)))
    where
      mid : List FileEntry
      mid = slice_range old.unsequence run.first run.end

      or_true : (a b : Bool) → b ≡ true → (a || b) ≡ true
      or_true true b is = refl
      or_true false b is = is
