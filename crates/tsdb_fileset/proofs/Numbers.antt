-- The numbers of the files, once one more is in a list or outgoing.
use Rattle.std.proofs.Common.{◌≡◌, ◌≢◌, ℕ, ◌+◌, ◌==◌, Bool, true, false, cond, List, [], ◌∷◌, ◌++◌, length, Some}
use Rattle.std.proofs.Common.{refl, sym, ap, ◌∙◌, arith}
use Rattle.std.specs.Cmp.{unsigned_Decides}
use Rattle.std.proofs.lemmas.Bool.{false≢true}
use Rattle.std.proofs.lemmas.List.{map-append}
use Rattle.tsdb_base.specs.declared.ids.Space.{Space}
use Rattle.tsdb_base.specs.declared.ids.Space.TheVariants.{Sequence, Unsequence}
use Rattle.tsdb_fileset.specs.declared.files.Outgoing.{Outgoing}
use Rattle.tsdb_fileset.specs.Files.{Appends, AreKept, IsOpen, KeptFiles, entry_numbers, kept_file, all_numbers}
use Rattle.tsdb_fileset.specs.Files.{outgoing_numbers}
use Rattle.tsdb_fileset.specs.Places.{KeptFile, OthersStay, file_at, place_of_number}
use Rattle.tsdb_base.specs.Lists.{count, if_some}
use Rattle.tsdb_base.proofs.Lists.{count_append}
use Rattle.tsdb_plan.specs.declared.entry.FileEntry.{FileEntry}

-- how often a number is that of a file
pub all_counted : (n : ℕ) (files : KeptFiles) → count n (all_numbers files)
    ≡ (count n (entry_numbers files.sequence) + count n (entry_numbers files.unsequence))
    + count n (outgoing_numbers files.outgoing)
all_counted n files =
    let listed = entry_numbers files.sequence ++ entry_numbers files.unsequence in
    count_append n listed (outgoing_numbers files.outgoing)
    ∙ ap (λ m. m + count n (outgoing_numbers files.outgoing))
    (count_append n (entry_numbers files.sequence) (entry_numbers files.unsequence))

count_entries : (n : ℕ) (entries : List FileEntry) (entry : FileEntry)
    → count n (entry_numbers (entries ++ entry ∷ [])) ≡ count n (entry_numbers entries) + cond (entry.number.0 == n) 1 0
count_entries n entries entry =
    let all = ap (count n) (map-append (λ e. e.number.0) entries (entry ∷ []))
    ∙ count_append n (entry_numbers entries) (entry.number.0 ∷ []) in
    omega (arith, all)

count_outgoing : (n : ℕ) (files : List Outgoing) (file : Outgoing)
    → count n (outgoing_numbers (files ++ file ∷ [])) ≡ count n (outgoing_numbers files) + cond (file.number.0 == n) 1 0
count_outgoing n files file =
    let all = ap (count n) (map-append (λ e. e.number.0) files (file ∷ []))
    ∙ count_append n (outgoing_numbers files) (file.number.0 ∷ []) in
    omega (arith, all)

-- the number of one more file counts once more
abbrev pub HasNumberMore : ℕ → KeptFiles → KeptFiles → Type 0
HasNumberMore number old new =
    (n : ℕ) → count n (all_numbers new) ≡ count n (all_numbers old) + cond (number == n) 1 0

pub appended : (space : Space) (entry : FileEntry) (old new : KeptFiles) → Appends space entry old new
    → new.outgoing ≡ old.outgoing → HasNumberMore entry.number.0 old new
appended Sequence entry old new is same n =
    let was = all_counted n old in
    let now = all_counted n new in
    let one = ap (λ entries. count n (entry_numbers entries)) is.0 ∙ count_entries n old.sequence entry in
    let two = ap (λ entries. count n (entry_numbers entries)) is.1 in
    let three = ap (λ files. count n (outgoing_numbers files)) same in
    omega (arith, was, now, one, two, three)
appended Unsequence entry old new is same n =
    let was = all_counted n old in
    let now = all_counted n new in
    let one = ap (λ entries. count n (entry_numbers entries)) is.0 in
    let two = ap (λ entries. count n (entry_numbers entries)) is.1 ∙ count_entries n old.unsequence entry in
    let three = ap (λ files. count n (outgoing_numbers files)) same in
    omega (arith, was, now, one, two, three)

pub sent_out : (file : Outgoing) (old new : KeptFiles) → new.sequence ≡ old.sequence → new.unsequence ≡ old.unsequence
    → new.outgoing ≡ old.outgoing ++ file ∷ [] → HasNumberMore file.number.0 old new
sent_out file old new sequence unsequence outgoing n =
    let was = all_counted n old in
    let now = all_counted n new in
    let one = ap (λ entries. count n (entry_numbers entries)) sequence in
    let two = ap (λ entries. count n (entry_numbers entries)) unsequence in
    let three = ap (λ files. count n (outgoing_numbers files)) outgoing ∙ count_outgoing n old.outgoing file in
    omega (arith, was, now, one, two, three)

-- one more file is kept, in the place that was made for it
pub kept_more : (number : ℕ) (file : KeptFile) (old new : KeptFiles) → AreKept old → IsOpen number old
    → place_of_number number new.places ≡ Some (Some file) → OthersStay number old.places new.places
    → HasNumberMore number old new → AreKept new
kept_more number file old new kept empty here others more n = by (number == n) refl
  where
    by : (b : Bool) → (number == n) ≡ b → count n (all_numbers new) ≡ length (if_some (kept_file n new))
    by true is =
        let same : number ≡ n = (unsigned_Decides number n).0 is in
        let was = ap (λ m. place_of_number m old.places) (sym same) ∙ empty in
        let now = ap (λ m. place_of_number m new.places) (sym same) ∙ here in
        let none = ap (λ place. length (if_some (file_at place))) was in
        let one = ap (λ place. length (if_some (file_at place))) now in
        let added = more n ∙ ap (λ b. count n (all_numbers old) + cond b 1 0) is in
        omega (arith, kept n, added, none, one)
    by false is =
        let apart : number ≢ n = λ same. false≢true (sym is ∙ (unsigned_Decides number n).1 same) in
        let same = ap (λ place. length (if_some (file_at place))) (others n apart) in
        let added = more n ∙ ap (λ b. count n (all_numbers old) + cond b 1 0) is in
        omega (arith, kept n, added, same)
