-- A new file among those that are kept.
use Rattle.std.proofs.Common.{◌≡◌, ℕ, ◌≢◌, Bool, true, false, List, [], ◌∷◌, ◌++◌, map, length, Some, None}
use Rattle.std.proofs.Common.{ap, arith, refl, sym, subst, ◌∙◌, nat_eq}
use Rattle.std.proofs.lemmas.Bool.{eq-eqb, eqb-true, false≢true}
use Rattle.std.proofs.lemmas.List.{map-append}
use Rattle.std.specs.Prelude.{IfSome}
use Rattle.std.specs.List.{AllByRecursion as Each}
use Rattle.tsdb_base.specs.declared.ids.Space.{Space}
use Rattle.tsdb_base.specs.declared.ids.Space.TheVariants.{Sequence, Unsequence}
use Rattle.tsdb_fileset.specs.StateOfFiles.{AreFilesOf, IsEnlisted, IsSentOut, IsUnread, entry_of, outgoing_file, listed, with_listed, with_outgoing}
use Rattle.tsdb_fileset.proofs.Counts.{counted}
use Rattle.tsdb_fileset.specs.Files.{AreKept, KeepsLists, KeptFiles, entry_numbers, kept_file, all_numbers, outgoing_numbers}
use Rattle.tsdb_fileset.specs.Places.{KeptFile, OnlyMakesPlaces, OthersStay, file_at}
use Rattle.tsdb_fileset.specs.declared.files.Outgoing.{Outgoing}
use Rattle.tsdb_base.proofs.Lists.{among_left, among_map, among_right, any_among, each_append, each_from_among, each_among}
use Rattle.tsdb_base.specs.Lists.{Among, if_some}
use Rattle.tsdb_plan.specs.declared.entry.FileEntry.{FileEntry}
use Rattle.tsdb_flush.specs.State.{EngineState, KnownFiles}

-- a number is the one, or another
data IsThat (a b : ℕ) : Type 0 where
  Same : a ≡ b → IsThat a b
  Other : a ≢ b → IsThat a b

which : (a b : ℕ) → IsThat a b
which a b = by (nat_eq a b) refl
  where
    by : (c : Bool) → nat_eq a b ≡ c → IsThat a b
    by true is = Same (eqb-true a b is)
    by false is = Other (λ same. false≢true (sym is ∙ eq-eqb a b same))

module _ (files new : KeptFiles) (number : ℕ) (token : KeptFile) (kept : AreKept files)
    (free : kept_file number files ≡ None) (here : kept_file number new ≡ Some token)
    (others : OthersStay number files.places new.places) where
  -- no listed file has the number
  differs : (entry : FileEntry) → Among entry.number.0 (all_numbers files) → number ≢ entry.number.0
  differs entry among same =
      let some = counted entry.number.0 (all_numbers files)
      (any_among (nat_eq entry.number.0) (all_numbers files) entry.number.0 among (eq-eqb entry.number.0 entry.number.0 refl)) in
      let none : length (if_some (kept_file entry.number.0 files)) ≡ 0 =
      ap (λ found. length (if_some found)) (subst (λ n. kept_file n files ≡ None) same free) in
      omega (arith, some, none, kept entry.number.0)

  -- what holds of each kept file, and of the new one, holds of each
  of_each : (P : ℕ → KeptFile → Type 0) → ((n : ℕ) → IfSome (kept_file n files) (P n)) → P number token → (n : ℕ)
      → IfSome (kept_file n new) (P n)
  of_each P all this n = by (which number n)
    where
      by : IsThat number n → IfSome (kept_file n new) (P n)
      by (Same same) = subst (λ m. IfSome (kept_file m new) (P m)) same
          (subst (λ found. IfSome found (P number)) (sym here) this)
      by (Other other) = subst (λ place. IfSome (file_at place) (P n)) (sym (others n other)) (all n)

  -- what is known of the files of a list
  still_known : (known : KnownFiles) (entries : List FileEntry)
      → ((entry : FileEntry) → Among entry entries → Among entry.number.0 (all_numbers files))
      → Each (λ entry. IfSome (kept_file entry.number.0 files)
      (λ file. known entry.number.0 ≡ entry_of entry file.series)) entries
      → Each (λ entry. IfSome (kept_file entry.number.0 new)
      (λ file. known entry.number.0 ≡ entry_of entry file.series)) entries
  still_known known entries among all = each_from_among _ entries (λ entry there.
      subst (λ place. IfSome (file_at place) (λ (file : KeptFile). known entry.number.0 ≡ entry_of entry file.series))
      (sym (others entry.number.0 (differs entry (among entry there)))) (each_among _ entries entry all there))

in_sequence : (files : KeptFiles) (entry : FileEntry) → Among entry files.sequence → Among entry.number.0 (all_numbers files)
in_sequence files entry there = among_left (entry_numbers files.sequence ++ entry_numbers files.unsequence)
    (outgoing_numbers files.outgoing) entry.number.0
    (among_left (entry_numbers files.sequence) (entry_numbers files.unsequence) entry.number.0
    (among_map (λ (entry : FileEntry). entry.number.0) files.sequence entry there))

in_unsequence : (files : KeptFiles) (entry : FileEntry) → Among entry files.unsequence
    → Among entry.number.0 (all_numbers files)
in_unsequence files entry there = among_left (entry_numbers files.sequence ++ entry_numbers files.unsequence)
    (outgoing_numbers files.outgoing) entry.number.0
    (among_right (entry_numbers files.sequence) (entry_numbers files.unsequence) entry.number.0
    (among_map (λ (entry : FileEntry). entry.number.0) files.unsequence entry there))

-- what holds of a list holds of an equal one
moved : {X : Type 0} (P : X → Type 0) (xs ys : List X) → ys ≡ xs → Each P xs → Each P ys
moved P xs ys same all = subst (Each P) (sym same) all

pub sent_out : (files new : KeptFiles) (known : KnownFiles) (state : EngineState) (file : Outgoing) (token : KeptFile)
    → AreFilesOf files known state → AreKept files → kept_file file.number.0 files ≡ None
    → IsUnread token file.number.0 state → IsSentOut file token files new
    → AreFilesOf new known (with_outgoing file state)
sent_out files new known state file token are kept free unread sent = record {
  sequence = ap (map listed) sent.sequence ∙ are.sequence;
  unsequence = ap (map listed) sent.unsequence ∙ are.unsequence;
  outgoing = ap (map outgoing_file) sent.outgoing ∙ map-append outgoing_file files.outgoing (file ∷ [])
      ∙ ap (λ list. list ++ outgoing_file file ∷ []) are.outgoing;
  rights = of_each files new file.number.0 token kept free sent.here sent.others
      (λ n (f : KeptFile). f.rights ≡ state.rights n) are.rights (unread.0 ∙ sym unread.1);
  entries_in_sequence = moved _ files.sequence new.sequence sent.sequence
      (still_known files new file.number.0 token kept free sent.here sent.others known files.sequence
      (in_sequence files) are.entries_in_sequence);
  entries_in_unsequence = moved _ files.unsequence new.unsequence sent.unsequence
      (still_known files new file.number.0 token kept free sent.here sent.others known files.unsequence
      (in_unsequence files) are.entries_in_unsequence);
}

pub enlisted : (files new : KeptFiles) (known : KnownFiles) (state : EngineState) (space : Space) (entry : FileEntry)
    (token : KeptFile) → AreFilesOf files known state → AreKept files → kept_file entry.number.0 files ≡ None
    → IsUnread token entry.number.0 state → known entry.number.0 ≡ entry_of entry token.series
    → IsEnlisted space entry token files new → AreFilesOf new known (with_listed space entry state)
enlisted files new known state Sequence entry token are kept free unread is joined = record {
  sequence = ap (map listed) joined.list.0 ∙ map-append listed files.sequence (entry ∷ [])
      ∙ ap (λ list. list ++ listed entry ∷ []) are.sequence;
  unsequence = ap (map listed) joined.list.1 ∙ are.unsequence;
  outgoing = ap (map outgoing_file) joined.outgoing ∙ are.outgoing;
  rights = of_each files new entry.number.0 token kept free joined.here joined.others
      (λ n (f : KeptFile). f.rights ≡ state.rights n) are.rights (unread.0 ∙ sym unread.1);
  entries_in_sequence = moved _ (files.sequence ++ entry ∷ []) new.sequence joined.list.0
      (each_append _ files.sequence (entry ∷ [])
      (still_known files new entry.number.0 token kept free joined.here joined.others known files.sequence
      (in_sequence files) are.entries_in_sequence)
      (subst (λ found. IfSome found (λ (f : KeptFile). known entry.number.0 ≡ entry_of entry f.series)) (sym joined.here) is, tt));
  entries_in_unsequence = moved _ files.unsequence new.unsequence joined.list.1
      (still_known files new entry.number.0 token kept free joined.here joined.others known files.unsequence
      (in_unsequence files) are.entries_in_unsequence);
}
enlisted files new known state Unsequence entry token are kept free unread is joined = record {
  sequence = ap (map listed) joined.list.0 ∙ are.sequence;
  unsequence = ap (map listed) joined.list.1 ∙ map-append listed files.unsequence (entry ∷ [])
      ∙ ap (λ list. list ++ listed entry ∷ []) are.unsequence;
  outgoing = ap (map outgoing_file) joined.outgoing ∙ are.outgoing;
  rights = of_each files new entry.number.0 token kept free joined.here joined.others
      (λ n (f : KeptFile). f.rights ≡ state.rights n) are.rights (unread.0 ∙ sym unread.1);
  entries_in_sequence = moved _ files.sequence new.sequence joined.list.0
      (still_known files new entry.number.0 token kept free joined.here joined.others known files.sequence
      (in_sequence files) are.entries_in_sequence);
  entries_in_unsequence = moved _ (files.unsequence ++ entry ∷ []) new.unsequence joined.list.1
      (each_append _ files.unsequence (entry ∷ [])
      (still_known files new entry.number.0 token kept free joined.here joined.others known files.unsequence
      (in_unsequence files) are.entries_in_unsequence)
      (subst (λ found. IfSome found (λ (f : KeptFile). known entry.number.0 ≡ entry_of entry f.series)) (sym joined.here) is, tt));
}

pub only_places : (files new : KeptFiles) (known : KnownFiles) (state : EngineState) → AreFilesOf files known state
    → KeepsLists files new → OnlyMakesPlaces files.places new.places → AreFilesOf new known state
only_places files new known state are lists places = record {
  sequence = ap (map listed) lists.sequence ∙ are.sequence;
  unsequence = ap (map listed) lists.unsequence ∙ are.unsequence;
  outgoing = ap (map outgoing_file) lists.outgoing ∙ are.outgoing;
  rights = λ n. subst (λ found. IfSome found (λ (f : KeptFile). f.rights ≡ state.rights n)) (sym (places.files n))
      (are.rights n);
  entries_in_sequence = moved _ files.sequence new.sequence lists.sequence (known_as files.sequence are.entries_in_sequence);
  entries_in_unsequence = moved _ files.unsequence new.unsequence lists.unsequence
      (known_as files.unsequence are.entries_in_unsequence);
}
  where
    known_as : (entries : List FileEntry)
        → Each (λ entry. IfSome (kept_file entry.number.0 files)
        (λ file. known entry.number.0 ≡ entry_of entry file.series)) entries
        → Each (λ entry. IfSome (kept_file entry.number.0 new)
        (λ file. known entry.number.0 ≡ entry_of entry file.series)) entries
    known_as entries all = each_from_among _ entries (λ entry there.
        subst (λ found. IfSome found (λ (file : KeptFile). known entry.number.0 ≡ entry_of entry file.series))
        (sym (places.files entry.number.0)) (each_among _ entries entry all there))
