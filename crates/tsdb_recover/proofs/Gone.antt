-- Files that no list has, as they go.
use Rattle.std.proofs.Common.{◌≡◌, ◌⊎◌, ◌∙◌, ℕ, false, List, [], ◌∷◌, ◌++◌, Option, None, Some, IfSome, inl, inr, refl}
use Rattle.std.proofs.Common.{sym, ap, subst, arith, take, get_or, length, ◌+◌, ◌<◌}
use Rattle.std.proofs.lemmas.Bool.{false≢true}
use Rattle.std.proofs.lemmas.List.{map-append, take_more}
use Rattle.std.proofs.lemmas.List.Elements.{Contains-append_cases, Contains-push_cases}
use Rattle.std.specs.Prelude.{◌↔◌, Contains, IsSome, IsTrue, MatchOption}
use Rattle.tsdb_recover.proofs.Counting.{differ}
use Rattle.tsdb_base.specs.declared.ids.FileNumber.{FileNumber}
use Rattle.tsdb_state.specs.StoredEngine.{kept_bytes}
use Rattle.tsdb_fileset.specs.Files.{KeptFiles, kept_file}
use Rattle.tsdb_fileset.specs.Places.{KeptFile}
use Rattle.tsdb_outside.specs.Disk.{WhereTold}
use Rattle.tsdb_outside.specs.Files.{NamedFile, StoredFile, TakesOut, stored_file_numbers, plain_numbers}
use Rattle.tsdb_recover.proofs.Rest.{found_contains, not_left, others_left, still_stored}
use Rattle.tsdb_recover.specs.Taking.{AreGone, AreGoneIn}
use Rattle.tsdb_recover.specs.StoredFiles.{AreStored}
use Rattle.tsdb_state.proofs.Counting.{is_or_not}

-- ---- one file

-- it is not there
missing_gone : (number : ℕ) (files : KeptFiles) (old : List StoredFile) → (Contains (stored_file_numbers old) number → ⊥)
    → AreStored old → AreGone (number ∷ []) files old old
missing_gone number files old none are = record {
  stored = are;
  gone = λ n there free. by n (Contains-push_cases [] number n there) (kept_bytes old n) refl;
  others = λ n. inl refl;
}
  where
    by : (n : ℕ) → Contains [] n ⊎ (number ≡ n) → (found : Option (List ℕ)) → kept_bytes old n ≡ found → found ≡ None
    by n (inl nothing) found is = absurd (omega (arith, nothing.1))
    by n (inr same) None is = refl
    by n (inr same) (Some bytes) is =
        absurd (none (subst (Contains (stored_file_numbers old)) (sym same) (found_contains old n bytes is)))

-- it is taken out
taken_gone : (number : ℕ) (files : KeptFiles) (name : NamedFile) (old new : List StoredFile) → name.number ≡ number
    → kept_file number files ≡ None → TakesOut name old new → AreStored old → AreGone (number ∷ []) files old new
taken_gone number files name old new is free taken are =
    let parted = subst AreStored taken.old_is are in
    let file_is : taken.file.number ≡ number = sym taken.names.number_is ∙ is in
    let here : kept_bytes new number ≡ None = ap (λ l. kept_bytes l number) taken.new_is
    ∙ ap (kept_bytes (taken.before ++ taken.after)) (sym file_is)
    ∙ not_left taken.before taken.file taken.after parted in
    record {
      stored = subst AreStored (sym taken.new_is) (still_stored taken.before taken.file taken.after parted);
      gone = λ n there none. by n (Contains-push_cases [] number n there) here;
      others = λ n. is_or_not number n
          (λ same. inr (
            subst (λ m. kept_bytes new m ≡ None) same here,
            subst (λ m. kept_file m files ≡ None) same free,
          ))
          (λ other. inl (ap (λ l. kept_bytes l n) taken.new_is
          ∙ others_left taken.before taken.file taken.after parted n (λ same. differ number n other
          (sym file_is ∙ same))
          ∙ ap (λ l. kept_bytes l n) (sym taken.old_is)));
    }
  where
    by : (n : ℕ) → Contains [] n ⊎ (number ≡ n) → kept_bytes new number ≡ None → kept_bytes new n ≡ None
    by n (inl nothing) here = absurd (omega (arith, nothing.1))
    by n (inr same) here = subst (λ m. kept_bytes new m ≡ None) same here

-- ---- the same where it is told

pub missing_in : (number : ℕ) (files : KeptFiles) (old new : Option (List StoredFile))
    → IfSome old (λ files. Contains (stored_file_numbers files) number → ⊥) → new ≡ old → AreGoneIn (number ∷ []) files old new
missing_in number files None new none same = tt
missing_in number files (Some old) new none same =
    subst (λ o. AreGoneIn (number ∷ []) files (Some old) o) (sym same) (missing_gone number files old none)

pub taken_in : (number : ℕ) (files : KeptFiles) (name : NamedFile) (old new : Option (List StoredFile))
    → name.number ≡ number → kept_file number files ≡ None → WhereTold (TakesOut name) old new
    → AreGoneIn (number ∷ []) files old new
taken_in number files name None new is free taken = tt
taken_in number files name (Some old) None is free taken = absurd taken
taken_in number files name (Some old) (Some new) is free taken = taken_gone number files name old new is free taken

pub none_in : (files : KeptFiles) (old new : Option (List StoredFile)) → new ≡ old → AreGoneIn [] files old new
none_in files None new same = tt
none_in files (Some old) new same = subst (λ o. AreGoneIn [] files (Some old) o) (sym same) (λ are. record {
  stored = are;
  gone = λ n there none. absurd (omega (arith, there.1));
  others = λ n. inl refl;
})

-- ---- one behind another

gone_then : (xs ys : List ℕ) (files : KeptFiles) (a b c : List StoredFile) → AreGone xs files a b → AreGone ys files b c
    → AreGone (xs ++ ys) files a c
gone_then xs ys files a b c one two = record {
  stored = two.stored;
  gone = λ n there none. by n none (Contains-append_cases xs ys n there);
  others = λ n. joined n (one.others n) (two.others n);
}
  where
    still : (n : ℕ) → (kept_bytes c n ≡ kept_bytes b n) ⊎ ((kept_bytes c n ≡ None) × (kept_file n files ≡ None))
        → kept_bytes b n ≡ None → kept_bytes c n ≡ None
    still n (inl same) none = same ∙ none
    still n (inr lost) none = lost.0

    by : (n : ℕ) → kept_file n files ≡ None → Contains xs n ⊎ Contains ys n → kept_bytes c n ≡ None
    by n none (inl first) = still n (two.others n) (one.gone n first none)
    by n none (inr later) = two.gone n later none

    joined : (n : ℕ) → (kept_bytes b n ≡ kept_bytes a n) ⊎ ((kept_bytes b n ≡ None) × (kept_file n files ≡ None))
        → (kept_bytes c n ≡ kept_bytes b n) ⊎ ((kept_bytes c n ≡ None) × (kept_file n files ≡ None))
        → (kept_bytes c n ≡ kept_bytes a n) ⊎ ((kept_bytes c n ≡ None) × (kept_file n files ≡ None))
    joined n (inl same) (inl also) = inl (also ∙ same)
    joined n (inr lost) (inl also) = inr (also ∙ lost.0, lost.1)
    joined n first (inr lost) = inr lost

pub then_in : (xs ys : List ℕ) (files : KeptFiles) (a b c : Option (List StoredFile)) → AreGoneIn xs files a b
    → AreGoneIn ys files b c → AreGoneIn (xs ++ ys) files a c
then_in xs ys files None b c one two = tt
then_in xs ys files (Some a) None c one two = absurd one
then_in xs ys files (Some a) (Some b) None one two = absurd two
then_in xs ys files (Some a) (Some b) (Some c) one two =
    λ are. gone_then xs ys files a b c (one are) (two (one are).stored)

-- the first of these, and one more
pub next_gone : (numbers : List FileNumber) (i : ℕ) (other : FileNumber) (files : KeptFiles)
    (a b c : Option (List StoredFile)) → i < length numbers → AreGoneIn (plain_numbers (take i numbers)) files a b
    → AreGoneIn ((get_or numbers i other).0 ∷ []) files b c → AreGoneIn (plain_numbers (take (i + 1) numbers)) files a c
next_gone numbers i other files a b c below one two =
    let number = get_or numbers i other in
    let grown : plain_numbers (take (i + 1) numbers) ≡ plain_numbers (take i numbers) ++ number.0 ∷ [] =
    ap plain_numbers (take_more numbers i other below)
    ∙ map-append (λ (number : FileNumber). number.0) (take i numbers) (number ∷ []) in
    subst (λ l. AreGoneIn l files a c) (sym grown) (then_in (plain_numbers (take i numbers))
    (number.0 ∷ []) files a b c one two)

-- fewer are said to be gone
pub less_in : (numbers : List ℕ) (files : KeptFiles) (old new : Option (List StoredFile))
    → AreGoneIn numbers files old new
    → AreGoneIn [] files old new
less_in numbers files None new gone = tt
less_in numbers files (Some old) None gone = absurd gone
less_in numbers files (Some old) (Some new) gone = λ are. record {
  stored = (gone are).stored;
  gone = λ n there none. absurd (omega (arith, there.1));
  others = (gone are).others;
}

-- what is not said to be kept is not
pub not_kept : (found : Option KeptFile) → (IsTrue false ↔ IsSome found) → found ≡ None
not_kept None kept = refl
not_kept (Some file) kept = absurd (false≢true (kept.1 refl))

pub match_none : {S : Type 0} (found : Option S) (N : Type 0) (P : S → Type 0) → found ≡ None
    → MatchOption found N P → N
match_none None N P is holds = holds
match_none (Some x) N P is holds = absurd cc
