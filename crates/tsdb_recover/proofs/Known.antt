-- What is known of a listed file is what is kept of it.
use Rattle.std.proofs.Common.{◌≡◌, ℕ, ◌+◌, ◌≤◌, ◌==◌, Bool, true, false, cond, List, [], ◌∷◌, ◌++◌, length, Option, None, Some, inl, inr, refl, sym, ap, ◌∙◌, subst, arith, nat_eq}
use Rattle.std.proofs.lemmas.Bool.{eq-eqb, eqb-true}
use Rattle.std.proofs.lemmas.List.{map-append}
use Rattle.std.specs.Prelude.{IfSome, find}
use Rattle.std.specs.List.{AllByRecursion as Each}
use Rattle.tsdb_recover.specs.FileEntries.{known_by, known_of}
use Rattle.tsdb_fileset.specs.StateOfFiles.{entry_of}
use Rattle.tsdb_fileset.specs.Files.{AreKept, KeptFiles, entry_numbers, kept_file, outgoing_numbers}
use Rattle.tsdb_fileset.specs.Places.{KeptFile}
use Rattle.tsdb_base.proofs.Lists.{among_map, count_append, each_from_among}
use Rattle.tsdb_base.specs.Lists.{Among, count, if_some}
use Rattle.tsdb_plan.specs.declared.entry.FileEntry.{FileEntry}
use Rattle.tsdb_state.proofs.Fresh.{count_here}

some_there : (n : ℕ) (xs : List ℕ) → Among n xs → 1 ≤ count n xs
some_there n [] among = absurd among
some_there n (x ∷ xs) (inl is) = subst (λ y. 1 ≤ count n (y ∷ xs)) (sym is) (omega (arith, count_here n xs))
some_there n (x ∷ xs) (inr among) = let rest = some_there n xs among in omega (arith, rest)

-- of entries with different numbers the one of a number is found by it
found : (entries : List FileEntry) (entry : FileEntry) → Among entry entries
    → count entry.number.0 (entry_numbers entries) ≤ 1
    → find (λ (other : FileEntry). nat_eq other.number.0 entry.number.0) entries ≡ Some entry
found [] entry among once = absurd among
found (first ∷ entries) entry (inl is) once =
    ap (λ b. cond b (Some first) (find (λ (other : FileEntry). nat_eq other.number.0 entry.number.0) entries))
    (eq-eqb first.number.0 entry.number.0 (ap (λ (e : FileEntry). e.number.0) is)) ∙ ap Some is
found (first ∷ entries) entry (inr among) once = by (nat_eq first.number.0 entry.number.0) refl
    (found entries entry among)
  where
    test : FileEntry → Bool
    test other = nat_eq other.number.0 entry.number.0

    behind : (b : Bool) (m : ℕ) → cond b 1 0 + m ≤ 1 → m ≤ 1
    behind true m few = omega (arith, few)
    behind false m few = omega (arith, few)

    by : (b : Bool) → nat_eq first.number.0 entry.number.0 ≡ b
        → (count entry.number.0 (entry_numbers entries) ≤ 1 → find test entries ≡ Some entry) → cond (test first) (Some first) (find test entries) ≡ Some entry
    by true e rest_found =
        let same = eqb-true first.number.0 entry.number.0 e in
        let here = subst (λ n. count entry.number.0 (n ∷ entry_numbers entries) ≤ 1) same once in
        let rest = some_there entry.number.0 (entry_numbers entries)
        (among_map (λ (other : FileEntry). other.number.0) entries entry among) in
        absurd (omega (arith, here, rest, count_here entry.number.0 (entry_numbers entries)))
    by false e rest_found = ap (λ b. cond b (Some first) (find test entries)) e
        ∙ rest_found (behind (first.number.0 == entry.number.0) (count entry.number.0 (entry_numbers entries)) once)

at_most_one : {X : Type 0} (o : Option X) → length (if_some o) ≤ 1
at_most_one None = omega arith
at_most_one (Some x) = omega arith

-- what is known of the number of an entry of the lists is that entry, with the series of its file
pub known_is : (files : KeptFiles) (entry : FileEntry) → AreKept files
    → Among entry (files.sequence ++ files.unsequence)
    → IfSome (kept_file entry.number.0 files) (λ file. known_of files entry.number.0 ≡ entry_of entry file.series)
known_is files entry kept among = by (kept_file entry.number.0 files) refl
  where
    all : List FileEntry
    all = files.sequence ++ files.unsequence

    once : count entry.number.0 (entry_numbers all) ≤ 1
    once = omega (
      arith,
      kept entry.number.0,
      at_most_one (kept_file entry.number.0 files),
      count_append entry.number.0 (entry_numbers files.sequence ++ entry_numbers files.unsequence)
          (outgoing_numbers files.outgoing),
      ap (count entry.number.0) (map-append (λ (e : FileEntry). e.number.0) files.sequence files.unsequence),
    )

    by : (o : Option KeptFile) → kept_file entry.number.0 files ≡ o
        → IfSome o (λ file. known_of files entry.number.0 ≡ entry_of entry file.series)
    by None e = tt
    by (Some file) e = ap (λ o. known_by o (kept_file entry.number.0 files)) (found all entry among once)
        ∙ ap (known_by (Some entry)) e

pub known_in : (files : KeptFiles) (entries : List FileEntry) → AreKept files
    → ((entry : FileEntry) → Among entry entries → Among entry (files.sequence ++ files.unsequence))
    → Each (λ entry. IfSome (kept_file entry.number.0 files)
    (λ file. known_of files entry.number.0 ≡ entry_of entry file.series)) entries
known_in files entries kept among = each_from_among _ entries (λ entry there. known_is files entry kept (among entry there))
