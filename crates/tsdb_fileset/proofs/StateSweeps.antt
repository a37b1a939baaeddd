-- What a sweep makes of the files, and of the state that they show.
use Rattle.std.proofs.Common.{◌≡◌, ℕ, Bool, true, false, not, cond, List, [], ◌∷◌, ◌++◌, map, inl, inr, Option, Some, None}
use Rattle.std.proofs.Common.{ap, refl, sym, subst, ◌∙◌, nat_eq}
use Rattle.std.specs.Prelude.{◌&&◌, ◌||◌, IfSome}
use Rattle.std.specs.List.{AllByRecursion as Each, filter, flat_map, list_any}
use Rattle.std.specs.Option.{option_map}
use Rattle.std.proofs.lemmas.Bool.{eq-eqb, eqb-true}
use Rattle.std.proofs.lemmas.List.{map-append}
use Rattle.tsdb_base.specs.declared.ids.FileNumber.{FileNumber}
use Rattle.tsdb_fileset.specs.StateOfFiles.{AreFilesOf, AreSomeOf, IsDoubtOf, IsSweep, TellTheirBytes, entry_of, outgoing_file, listed, may_go}
use Rattle.tsdb_flush.proofs.ImageLemmas.Kept.{found_without}
use Rattle.tsdb_flush.specs.StoredEngine.{kept_bytes, without_numbers}
use Rattle.tsdb_fileset.specs.Files.{IsOpen, KeptFiles, kept_file}
use Rattle.tsdb_fileset.specs.Places.{KeptFile, Places, file_at, is_one_of, place_of_number}
use Rattle.tsdb_fileset.specs.Sweeps.{LeavesWithout, free_numbers, has_no_right, is_free, is_that}
use Rattle.tsdb_fileset.specs.declared.files.Outgoing.{Outgoing}
use Rattle.tsdb_base.proofs.Lists.{among_map, each_from_among, each_weaker}
use Rattle.tsdb_base.specs.Lists.{Among, if_some}
use Rattle.tsdb_flush.specs.LogRecord.{LogRecord}
use Rattle.tsdb_outside.specs.Files.{StoredFile}
use Rattle.tsdb_plan.specs.declared.entry.FileEntry.{FileEntry}
use Rattle.tsdb_flush.specs.Records.{names, numbers_of}
use Rattle.tsdb_flush.specs.State.{EngineState, KnownFiles, File}

-- what holds of each kept file holds of those that stay
pub of_those_that_stay : (P : ℕ → KeptFile → Type 0) (numbers : List ℕ) (old new : Places)
    → ((number : ℕ) → place_of_number number new ≡ cond (is_one_of numbers number) None (place_of_number number old))
    → ((number : ℕ) → IfSome (file_at (place_of_number number old)) (P number))
    → (number : ℕ) → IfSome (file_at (place_of_number number new)) (P number)
of_those_that_stay P numbers old new takes all number =
    subst (λ place. IfSome (file_at place) (P number)) (sym (takes number)) (by (is_one_of numbers number))
  where
    by : (b : Bool) → IfSome (file_at (cond b None (place_of_number number old))) (P number)
    by true = tt
    by false = all number

-- the files that leave, in both views
outgoing_left : (numbers : List ℕ) (files : List Outgoing)
    → map outgoing_file (filter (λ file. not (is_one_of numbers file.number.0)) files)
    ≡ filter (λ (file : File). not (list_any (nat_eq file.number) numbers)) (map outgoing_file files)
outgoing_left numbers [] = refl
outgoing_left numbers (file ∷ files) = by (not (is_one_of numbers file.number.0)) (outgoing_left numbers files)
  where
    by : (b : Bool) → map outgoing_file (filter (λ file. not (is_one_of numbers file.number.0)) files)
        ≡ filter (λ (file : File). not (list_any (nat_eq file.number) numbers)) (map outgoing_file files)
        → map outgoing_file (cond b (file ∷ filter (λ file. not (is_one_of numbers file.number.0)) files)
        (filter (λ file. not (is_one_of numbers file.number.0)) files))
        ≡ cond b (outgoing_file file ∷ filter (λ (file : File). not (list_any (nat_eq file.number) numbers)) (map outgoing_file files))
        (filter (λ (file : File). not (list_any (nat_eq file.number) numbers)) (map outgoing_file files))
    by true rest = ap (λ list. outgoing_file file ∷ list) rest
    by false rest = rest

-- a number that may go is that of an outgoing file, which is free
record IsFreeFile (doubted : List (Option FileNumber)) (places : Places) (outgoing : List Outgoing) (number : ℕ) : Type 0 where
  pub file : Outgoing
  pub among : Among file outgoing
  pub is : file.number.0 ≡ number
  pub free : is_free doubted places file ≡ true

free_file : (doubted : List (Option FileNumber)) (places : Places) (outgoing : List Outgoing) (number : ℕ)
    → Among number (free_numbers doubted places outgoing) → IsFreeFile doubted places outgoing number
free_file doubted places [] number among = absurd among
free_file doubted places (file ∷ outgoing) number among =
    by (λ rest. free_file doubted places outgoing number rest) (is_free doubted places file) refl among
  where
    later : IsFreeFile doubted places outgoing number → IsFreeFile doubted places (file ∷ outgoing) number
    later rest = record { file = rest.file; among = inr rest.among; is = rest.is; free = rest.free }

    by : (Among number (free_numbers doubted places outgoing) → IsFreeFile doubted places outgoing number)
        → (b : Bool) → is_free doubted places file ≡ b
        → Among number (map (λ (file : Outgoing). file.number.0) (cond b (file ∷ filter (is_free doubted places) outgoing)
        (filter (is_free doubted places) outgoing)))
        → IsFreeFile doubted places (file ∷ outgoing) number
    by next true free (inl is) = record { file = file; among = inl refl; is = is; free = free }
    by next true free (inr rest) = later (next rest)
    by next false free rest = later (next rest)

first_of : (a b : Bool) → (a && b) ≡ true → a ≡ true
first_of true b both = refl
first_of false b both = absurd cc

second_of : (a b : Bool) → (a && b) ≡ true → b ≡ true
second_of true b both = both
second_of false b both = absurd cc

no_rights : (found : Option KeptFile) (rights : ℕ) → has_no_right found ≡ true
    → IfSome found (λ file. file.rights ≡ rights) → rights ≡ 0
no_rights None rights free same = absurd cc
no_rights (Some file) rights free same = sym same ∙ eqb-true file.rights 0 free

-- a number among those of the files is one that is told
is_told : (doubted : List (Option FileNumber)) (number : ℕ)
    → Among number (map (λ (file : FileNumber). file.0) (flat_map if_some doubted))
    → list_any (is_that number) doubted ≡ true
is_told [] number among = absurd among
is_told (None ∷ doubted) number among = is_told doubted number among
is_told (Some file ∷ doubted) number (inl is) =
    ap (λ b. b || list_any (is_that number) doubted) (eq-eqb number file.0 (sym is))
is_told (Some file ∷ doubted) number (inr among) = by (nat_eq number file.0) (is_told doubted number among)
  where
    by : (b : Bool) → list_any (is_that number) doubted ≡ true → (b || list_any (is_that number) doubted) ≡ true
    by true rest = refl
    by false rest = rest

-- a number that is found in a list is one of it
found_among : (number : ℕ) (numbers : List ℕ) → list_any (nat_eq number) numbers ≡ true → Among number numbers
found_among number [] found = absurd cc
found_among number (other ∷ numbers) found = by (λ rest. found_among number numbers rest) (nat_eq number other) refl found
  where
    by : (list_any (nat_eq number) numbers ≡ true → Among number numbers) → (b : Bool) → nat_eq number other ≡ b
        → (b || list_any (nat_eq number) numbers) ≡ true → Among number (other ∷ numbers)
    by next true same found = inl (sym (eqb-true number other same))
    by next false differs found = inr (next found)

module _ (files new : KeptFiles) (doubted : List (Option FileNumber)) (part : List Outgoing) where
  abbrev numbers : List ℕ
  numbers = may_go doubted files part

  -- a place without a file is not taken away
  pub places_stay : LeavesWithout numbers files new → (number : ℕ) → IsOpen number files → IsOpen number new
  places_stay leaves number made = leaves.places number ∙ by (is_one_of numbers number) refl
    where
      no_file : IsFreeFile doubted files.places part number → ⊥
      no_file one =
          let unread : has_no_right (file_at (place_of_number number files.places)) ≡ true =
          subst (λ n. has_no_right (file_at (place_of_number n files.places)) ≡ true) one.is
          (first_of (has_no_right (file_at (place_of_number one.file.number.0 files.places)))
          (not (list_any (is_that one.file.number.0) doubted)) one.free) in
          let none : false ≡ true = subst (λ place. has_no_right (file_at place) ≡ true) made unread in
          cc

      by : (b : Bool) → is_one_of numbers number ≡ b → cond b None (place_of_number number files.places) ≡ Some None
      by true gone = absurd (no_file (free_file doubted files.places part number (found_among number numbers gone)))
      by false stays = made

  pub tell_on : (kept : List StoredFile) → TellTheirBytes files kept → LeavesWithout numbers files new
      → TellTheirBytes new (without_numbers numbers kept)
  tell_on kept told leaves number =
      subst (λ place. IfSome (file_at place) (Tells number (without_numbers numbers kept))) (sym (leaves.places number))
      (by (is_one_of numbers number) refl (told number))
    where
      Tells : ℕ → List StoredFile → KeptFile → Type 0
      Tells n kept file = (file.name.number ≡ n) × (file.name.bytes ≡ kept_bytes kept n)

      moved : (found : Option KeptFile) → list_any (nat_eq number) numbers ≡ false → IfSome found (Tells number kept)
          → IfSome found (Tells number (without_numbers numbers kept))
      moved None stays tells = tt
      moved (Some file) stays tells = (
        tells.0,
        tells.1 ∙ sym (ap (λ found. option_map (λ (file : StoredFile). file.bytes) found) (found_without numbers kept number stays)),
      )

      by : (b : Bool) → is_one_of numbers number ≡ b → IfSome (file_at (place_of_number number files.places)) (Tells number kept)
          → IfSome (file_at (cond b None (place_of_number number files.places))) (Tells number (without_numbers numbers kept))
      by true gone tells = tt
      by false stays tells = moved (file_at (place_of_number number files.places)) stays tells

  module _ (known : KnownFiles) (state : EngineState) (are : AreFilesOf files known state) (doubt : IsDoubtOf doubted state)
      (some : AreSomeOf files part) (leaves : LeavesWithout numbers files new) where
    freed : (number : ℕ) → Among number numbers → IsFreeFile doubted files.places part number
    freed number among = free_file doubted files.places part number among

    free_of_rights : (number : ℕ) → Among number numbers → state.rights number ≡ 0
    free_of_rights number among =
        let one = freed number among in
        no_rights (file_at (place_of_number number files.places)) (state.rights number)
        (subst (λ n. has_no_right (file_at (place_of_number n files.places)) ≡ true) one.is
        (first_of (has_no_right (file_at (place_of_number one.file.number.0 files.places)))
        (not (list_any (is_that one.file.number.0) doubted)) one.free)) (are.rights number)

    undoubted : (number : ℕ) → Among number numbers → list_any (is_that number) doubted ≡ true → ⊥
    undoubted number among told =
        let one = freed number among in
        let not_told = subst (λ n. not (list_any (is_that n) doubted) ≡ true) one.is
        (second_of (has_no_right (file_at (place_of_number one.file.number.0 files.places)))
        (not (list_any (is_that one.file.number.0) doubted)) one.free) in
        cc

    settled_from : (found : Option LogRecord)
        → IfSome found (λ item. names item ≡ map (λ (file : FileNumber). file.0) (flat_map if_some doubted))
        → Each (λ number. IfSome found (λ item. Among number (names item) → ⊥)) numbers
    settled_from None is = each_from_among _ numbers (λ number among. tt)
    settled_from (Some item) is = each_from_among _ numbers (λ number among named.
        undoubted number among (is_told doubted number (subst (Among number) is named)))

    pub sweep_is : IsSweep numbers new known state
    sweep_is = record {
      sweeps = record {
        free = each_from_among _ numbers free_of_rights;
        settled = settled_from state.doubt doubt;
      };
      outgoing = each_from_among _ numbers (λ number among.
          let one = freed number among in
          subst (λ n. Among n (numbers_of state.outgoing)) one.is
          (subst (λ list. Among one.file.number.0 (numbers_of list)) are.outgoing
          (among_map (λ (file : File). file.number) (map outgoing_file files.outgoing) (outgoing_file one.file)
          (among_map outgoing_file files.outgoing one.file (some one.file one.among)))));
      files = record {
        sequence = ap (map listed) leaves.sequence ∙ are.sequence;
        unsequence = ap (map listed) leaves.unsequence ∙ are.unsequence;
        outgoing = ap (map outgoing_file) leaves.outgoing ∙ outgoing_left numbers files.outgoing
            ∙ ap (filter (λ (file : File). not (list_any (nat_eq file.number) numbers))) are.outgoing;
        rights = of_those_that_stay (λ number file. file.rights ≡ state.rights number) numbers files.places new.places
            leaves.places are.rights;
        entries_in_sequence = entries files.sequence new.sequence leaves.sequence are.entries_in_sequence;
        entries_in_unsequence = entries files.unsequence new.unsequence leaves.unsequence are.entries_in_unsequence;
      };
    }
      where
        entries : (old later : List FileEntry) → later ≡ old
            → Each (λ entry. IfSome (kept_file entry.number.0 files)
            (λ file. known entry.number.0 ≡ entry_of entry file.series)) old
            → Each (λ entry. IfSome (kept_file entry.number.0 new)
            (λ file. known entry.number.0 ≡ entry_of entry file.series)) later
        entries old later same all = subst (λ list. Each (λ entry. IfSome (kept_file entry.number.0 new)
            (λ file. known entry.number.0 ≡ entry_of entry file.series)) list) (sym same)
            (each_weaker _ _ (λ entry has. stays entry has) old all)
          where
            stays : (entry : FileEntry)
                → IfSome (kept_file entry.number.0 files) (λ file. known entry.number.0 ≡ entry_of entry file.series)
                → IfSome (kept_file entry.number.0 new) (λ file. known entry.number.0 ≡ entry_of entry file.series)
            stays entry has = subst (λ place. IfSome (file_at place)
                (λ (file : KeptFile). known entry.number.0 ≡ entry_of entry file.series)) (sym (leaves.places entry.number.0))
                (by (is_one_of numbers entry.number.0))
              where
                by : (b : Bool) → IfSome (file_at (cond b None (place_of_number entry.number.0 files.places)))
                    (λ (file : KeptFile). known entry.number.0 ≡ entry_of entry file.series)
                by true = tt
                by false = has

pub borns_are : (files : KeptFiles) (known : KnownFiles) (state : EngineState) → AreFilesOf files known state
    → map (λ (entry : FileEntry). entry.born.0) (files.sequence ++ files.unsequence)
    ≡ map (λ (file : File). file.born) (state.store.sequence ++ state.store.unsequence)
borns_are files known state are =
    born_list (files.sequence ++ files.unsequence)
    ∙ ap (map (λ (file : File). file.born)) (map-append listed files.sequence files.unsequence
    ∙ ap (λ list. list ++ map listed files.unsequence) are.sequence
    ∙ ap (λ list. state.store.sequence ++ list) are.unsequence)
  where
    born_list : (entries : List FileEntry)
        → map (λ (entry : FileEntry). entry.born.0) entries ≡ map (λ (file : File). file.born) (map listed entries)
    born_list [] = refl
    born_list (entry ∷ entries) = ap (λ list. entry.born.0 ∷ list) (born_list entries)
