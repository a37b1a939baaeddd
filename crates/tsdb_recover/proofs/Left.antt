-- What is left of the files of a store that could not be opened: each token goes back.
use Rattle.std.proofs.Common.{◌≡◌, ◌≢◌, ◌⊎◌, ◌∙◌, ℕ, ◌≤◌, true, false, Bool, cond, List, [], ◌∷◌, ◌++◌, length, map}
use Rattle.std.proofs.Common.{Option, None, Some, Result, Ok, Err, IfSome, inl, inr, refl, sym, ap, subst}
use Rattle.std.proofs.Common.{arith, nat_eq, append-nil, length-append}
use Rattle.std.proofs.lemmas.Bool.{eq-eqb, false≢true}
use Rattle.std.proofs.lemmas.List.{map-append}
use Rattle.std.specs.Prelude.{◌+◌, ◌^◌, ◌<◌, is_some}
use Rattle.std.specs.List.{AllByRecursion as Each, find}
use Rattle.std.specs.Option.{IsSomeAnd}
use Rattle.tsdb_recover.proofs.Counting.{entries_are, kept_where_listed}
use Rattle.tsdb_recover.proofs.AdoptedCore.{same_wanted}
use Rattle.tsdb_recover.specs.Adopting.{AreFirstOf, HasAdoptedAll, IsAdoptingOf, adopting_files, opening_of}
use Rattle.tsdb_recover.specs.declared.adopting.Adopting.{Adopting}
use Rattle.tsdb_core.proofs.Jobs.{is_there}
use Rattle.tsdb_fileset.specs.StateOfFiles.{listed}
use Rattle.tsdb_state.proofs.ImageLemmas.Kept.{found_bytes, has_number}
use Rattle.tsdb_state.specs.StoredEngine.{kept_bytes}
use Rattle.tsdb_fileset.specs.Closing.{ArePutBack, AreNumbersRising, names_at}
use Rattle.tsdb_fileset.specs.Files.{AreKept, KeptFiles, entry_numbers, kept_file, none_kept, outgoing_numbers}
use Rattle.tsdb_fileset.specs.Files as kept
use Rattle.tsdb_fileset.specs.Places.{KeptFile, file_at}
use Rattle.tsdb_base.proofs.Lists.{each_append, each_from_among, each_weaker}
use Rattle.tsdb_base.specs.Lists.{Among, EachPair, if_some}
use Rattle.tsdb_log.specs.declared.record.LogRecord.{LogRecord}
use Rattle.tsdb_redo.specs.Opening.{IsOpeningOf}
use Rattle.tsdb_redo.specs.declared.opening.Opening.{Opening}
use Rattle.tsdb_outside.specs.Disk.{WhereTold}
use Rattle.tsdb_outside.specs.Files.{IsFileNumber, Store, StoredFile}
use Rattle.tsdb_recover.specs.declared.fault.OpenFault.{OpenFault}
use Rattle.tsdb_recover.specs.declared.fault.OpenFault.TheVariants as fault
use Rattle.tsdb_recover.specs.declared.fault.Part.{Part}
use Rattle.tsdb_recover.proofs.Opened.{begun}
use Rattle.tsdb_recover.proofs.Rest.{behind, found_each, none_is_some, none_there}
use Rattle.tsdb_recover.specs.Damage.{IsTreeFile}
use Rattle.tsdb_recover.specs.Strays.{AreLeft, IsUnlisted, NoneMayGo}
use Rattle.tsdb_recover.specs.OpenedStore.{IsReplay}
use Rattle.tsdb_recover.specs.Taking.{AreGone, AreGoneIn, AreTakenUp, HasTakenUp, IsRest, IsTakingUp, NoDamage, rests_of}
use Rattle.tsdb_state.specs.Replays.{Replays}
use Rattle.tsdb_state.specs.Stores.{Recorded, store_steps}
use Rattle.tsdb_fileset.proofs.StoredPlaces.{IsToldAt, at_place, each_stored, found, named, stored_at}
use Rattle.tsdb_recover.proofs.Stored.{few_stored, places_stored}
use Rattle.tsdb_recover.specs.StoredFiles.{AreStored, DifferInNumber, HasFileNumber}
use Rattle.tsdb_state.specs.Records.{numbers_of as state_numbers}
use Rattle.tsdb_state.specs.State.{File, StoreState}

-- ---- lists of files

-- a file of another number does not come before one that is not found
none_each : (files : List StoredFile) (n : ℕ) → kept_bytes files n ≡ None → Each (λ file. file.number ≢ n) files
none_each [] n none = tt
none_each (f ∷ fs) n none = by (nat_eq f.number n) refl (none_each fs n) none
  where
    by : (b : Bool) → nat_eq f.number n ≡ b → (kept_bytes fs n ≡ None → Each (λ file. file.number ≢ n) fs)
        → found_bytes (cond b (Some f) (find (has_number n) fs)) ≡ None → Each (λ file. file.number ≢ n) (f ∷ fs)
    by true same rest none = absurd (none_is_some f.bytes (sym none))
    by false other rest none = (λ same. false≢true (sym other ∙ eq-eqb f.number n same), rest none)

-- what is not found behind others is not found there
ahead : (n : ℕ) (xs ys : List StoredFile) → kept_bytes ys n ≡ None → kept_bytes (xs ++ ys) n ≡ kept_bytes xs n
ahead n [] ys none = none
ahead n (x ∷ xs) ys none = by (nat_eq x.number n) (ahead n xs ys none)
  where
    by : (b : Bool) → kept_bytes (xs ++ ys) n ≡ kept_bytes xs n
        → found_bytes (cond b (Some x) (find (has_number n) (xs ++ ys)))
        ≡ found_bytes (cond b (Some x) (find (has_number n) xs))
    by true rest = refl
    by false rest = rest

pairs_joined : (xs ys : List StoredFile) → EachPair DifferInNumber xs → EachPair DifferInNumber ys
    → Each (λ y. Each (λ x. DifferInNumber x y) xs) ys → EachPair DifferInNumber (xs ++ ys)
pairs_joined [] ys first second apart = second
pairs_joined (x ∷ xs) ys first second apart = (
  each_append (DifferInNumber x) xs ys first.0
      (each_weaker (λ y. Each (λ x. DifferInNumber x y) (x ∷ xs)) (DifferInNumber x) (λ y all. all.0) ys apart),
  pairs_joined xs ys first.1 second (each_weaker (λ y. Each (λ x. DifferInNumber x y) (x ∷ xs))
      (λ y. Each (λ x. DifferInNumber x y) xs) (λ y all. all.1) ys apart),
)

each_number : (P : File → Type 0) (files : List File) (n : ℕ) → Each P files → Among n (state_numbers files)
    → (file : File) × (file.number ≡ n) × P file
each_number P [] n all among = absurd among
each_number P (file ∷ files) n all (inl is) = (file, is, all.0)
each_number P (file ∷ files) n all (inr among) = each_number P files n all.1 among

-- ---- the kept files go back

module _ (stored : List StoredFile) (store : StoreState) (files : KeptFiles) (are : AreStored stored)
    (are_kept : AreKept files) (rising : AreNumbersRising files.places) (first : AreFirstOf files store)
    (taken : AreTakenUp stored store files) where
  record Known (n : ℕ) (file : KeptFile) : Type 0 where
    pub number : file.name.number ≡ n
    pub bytes : List ℕ
    pub told : file.name.bytes ≡ Some bytes
    pub there : kept_bytes stored n ≡ Some bytes
    pub is_number : IsFileNumber n

  numbers_are : kept.all_numbers files ≡ state_numbers (map listed files.sequence ++ map listed files.unsequence)
  numbers_are = ap (λ l. (entry_numbers files.sequence ++ entry_numbers files.unsequence) ++ outgoing_numbers l)
      first.outgoing ∙ append-nil (entry_numbers files.sequence ++ entry_numbers files.unsequence)
      ∙ (λ i. sym (entries_are files.sequence) i ++ sym (entries_are files.unsequence) i)
      ∙ sym (map-append (λ (f : File). f.number) (map listed files.sequence) (map listed files.unsequence))

  -- a kept file is stored
  known : (n : ℕ) (file : KeptFile) → kept_file n files ≡ Some file → Known n file
  known n file is =
      let among = subst (Among n) numbers_are (is_there n (kept.all_numbers files)
      (let c = are_kept n ∙ ap (λ f. length (if_some f)) is in omega (arith, c))) in
      let whole = each_number (IsTreeFile (kept_bytes stored))
      (map listed files.sequence ++ map listed files.unsequence) n taken.whole among in
      let there = subst (λ m. kept_bytes stored m ≡ Some whole.2.bytes) whole.1 whole.2.there in
      let tells = subst (λ found. IfSome found (λ (file : KeptFile). (file.name.number ≡ n)
      × (file.name.bytes ≡ kept_bytes stored n))) is (taken.told n) in
      record {
        number = tells.0;
        bytes = whole.2.bytes;
        told = tells.1 ∙ there;
        there = there;
        is_number = found_each HasFileNumber stored n whole.2.bytes are.each there;
      }

  known_at : (place : ℕ × Option KeptFile) → Among place files.places → IfSome place.1 (λ file.
      (kept_file place.0 files ≡ Some file) × Known place.0 file)
  known_at (n, None) among = tt
  known_at (n, Some file) among =
      let here = ap file_at (at_place files.places rising (n, Some file) among) in (here, known n file here)

  each_place : (Q : (n : ℕ) → KeptFile → Type 0)
      → ((n : ℕ) (file : KeptFile) → kept_file n files ≡ Some file → Known n file → Q n file)
      → Each (λ (place : ℕ × Option KeptFile). IfSome place.1 (Q place.0)) files.places
  each_place Q holds = each_from_among (λ (place : ℕ × Option KeptFile). IfSome place.1 (Q place.0)) files.places
      (λ place among. by place (known_at place among))
    where
      by : (place : ℕ × Option KeptFile) → IfSome place.1 (λ file. (kept_file place.0 files ≡ Some file)
          × Known place.0 file) → IfSome place.1 (Q place.0)
      by (n, None) is = tt
      by (n, Some file) is = holds n file is.0 is.1

  abbrev back : List StoredFile
  back = stored_at files.places

  back_stored : AreStored back
  back_stored = places_stored files.places rising (each_place (λ n file. IsFileNumber n) (λ n file here is. is.is_number))

  told : Each IsToldAt files.places
  told = each_place (λ n file. (file.name.number ≡ n) × (bytes : List ℕ) × (file.name.bytes ≡ Some bytes))
      (λ n file here is. (is.number, is.bytes, is.told))

  -- no file comes back that is not kept
  not_back : (n : ℕ) → kept_file n files ≡ None → kept_bytes back n ≡ None
  not_back n none = none_there back n (each_stored (λ (file : StoredFile). file.number ≢ n) files.places
      (each_place (λ m file. (bytes : List ℕ) → file.name.bytes ≡ Some bytes → m ≢ n)
      (λ m file here is bytes tells same. some_none m file here (ap (λ k. kept_file k files) same ∙ none))))
    where
      some_none : (m : ℕ) (file : KeptFile) → kept_file m files ≡ Some file → kept_file m files ≡ None → ⊥
      some_none m file here none = cc

  -- of the others each stays, or it is gone and no list has it
  module _ (MayGo : ℕ → Type 0) (rest : List StoredFile) (are_rest : AreStored rest)
      (hidden : (n : ℕ) (file : KeptFile) → kept_file n files ≡ Some file → kept_bytes rest n ≡ None)
      (others : (n : ℕ) → kept_file n files ≡ None → (kept_bytes rest n ≡ kept_bytes stored n)
      ⊎ ((kept_bytes rest n ≡ None) × MayGo n)) where
    apart : Each (λ y. Each (λ x. DifferInNumber x y) rest) back
    apart = each_stored (λ y. Each (λ x. DifferInNumber x y) rest) files.places
        (each_place (λ n file. (bytes : List ℕ) → file.name.bytes ≡ Some bytes
        → Each (λ x. DifferInNumber x (record { number = n; bytes = bytes })) rest)
        (λ n file here is bytes tells. none_each rest n (hidden n file here)))

    all_stored : AreStored (rest ++ back)
    all_stored = record {
      differ = pairs_joined rest back are_rest.differ back_stored.differ apart;
      each = each_append HasFileNumber rest back are_rest.each back_stored.each;
    }

    at_number : (n : ℕ) (found : Option KeptFile) → kept_file n files ≡ found
        → (kept_bytes (rest ++ back) n ≡ kept_bytes stored n) ⊎ ((kept_bytes (rest ++ back) n ≡ None) × MayGo n)
    at_number n (Some file) here =
        let is = known n file here in
        inl (behind n rest back (none_each rest n (hidden n file here))
        ∙ found n files.places file is.bytes here is.told ∙ sym is.there)
    at_number n None none = by (others n none)
      where
        same : kept_bytes (rest ++ back) n ≡ kept_bytes rest n
        same = ahead n rest back (not_back n none)

        by : (kept_bytes rest n ≡ kept_bytes stored n) ⊎ ((kept_bytes rest n ≡ None) × MayGo n)
            → (kept_bytes (rest ++ back) n ≡ kept_bytes stored n) ⊎ ((kept_bytes (rest ++ back) n ≡ None) × MayGo n)
        by (inl stays) = inl (same ∙ stays)
        by (inr goes) = inr (same ∙ goes.0, goes.1)

    all_left : AreLeft MayGo stored (rest ++ back)
    all_left = record { are_stored = all_stored; each = λ n. at_number n (kept_file n files) refl }

    pub put_back : (now : Option (List StoredFile)) → WhereTold (ArePutBack (names_at files.places)) (Some rest) now
        → IsSomeAnd now (AreLeft MayGo stored)
    put_back None puts = absurd puts
    put_back (Some now) puts = subst (AreLeft MayGo stored)
        (sym (puts back (named files.places told) (by (few_stored (rest ++ back) all_stored)))) all_left
      where
        by : length (rest ++ back) < 2 ^ 63 → length rest + length back < 2 ^ 63
        by less = omega (arith, less, length-append rest back)

  -- those that were at rest before the others went
  module _ (before : List StoredFile) (up : IsRest stored files before) where
    hidden_before : (n : ℕ) (file : KeptFile) → kept_file n files ≡ Some file → kept_bytes before n ≡ None
    hidden_before n file here = up.each n ∙ ap (λ found. rests_of found (kept_bytes stored n)) here

    same_before : (n : ℕ) → kept_file n files ≡ None → kept_bytes before n ≡ kept_bytes stored n
    same_before n none = up.each n ∙ ap (λ found. rests_of found (kept_bytes stored n)) none

    module _ (rest : List StoredFile) (gone : AreGone [] files before rest)
        (unlisted : (n : ℕ) → kept_file n files ≡ None → IsUnlisted store n) where
      hidden_behind : (n : ℕ) (file : KeptFile) → kept_file n files ≡ Some file → kept_bytes rest n ≡ None
      hidden_behind n file here = by (gone.others n)
        where
          by : (kept_bytes rest n ≡ kept_bytes before n) ⊎ ((kept_bytes rest n ≡ None) × (kept_file n files ≡ None))
              → kept_bytes rest n ≡ None
          by (inl same) = same ∙ hidden_before n file here
          by (inr lost) = lost.0

      others_behind : (n : ℕ) → kept_file n files ≡ None → (kept_bytes rest n ≡ kept_bytes stored n)
          ⊎ ((kept_bytes rest n ≡ None) × IsUnlisted store n)
      others_behind n none = by (gone.others n)
        where
          by : (kept_bytes rest n ≡ kept_bytes before n) ⊎ ((kept_bytes rest n ≡ None) × (kept_file n files ≡ None))
              → (kept_bytes rest n ≡ kept_bytes stored n) ⊎ ((kept_bytes rest n ≡ None) × IsUnlisted store n)
          by (inl same) = inl (same ∙ same_before n none)
          by (inr lost) = inr (lost.0, unlisted n none)

-- ---- where it is told

module _ {F S R P : Type 0} (old new : Adopting F S R P) (opening : Opening)
    (begins : (items : List LogRecord) (recorded : Recorded) → IsOpeningOf opening recorded
    → Replays store_steps store_steps.new_store items recorded → IsAdoptingOf old recorded) where
  -- what is at rest after an error, once each token is given back
  pub has_left : {directory : Store} (start mid now : Option (List StoredFile)) (answer : OpenFault)
      → adopting_files old ≡ none_kept directory → HasTakenUp old new start mid (Err answer)
      → WhereTold (ArePutBack (names_at (adopting_files new).places)) mid now → AreNumbersRising (adopting_files new).places
      → AreKept (adopting_files new) → IfSome start (λ stored. (items : List LogRecord) (recorded : Recorded)
      → IsReplay opening items recorded → AreStored stored → IsSomeAnd now (AreLeft (IsUnlisted recorded.store) stored))
  has_left None mid now answer none takes puts rising are_kept = tt
  has_left (Some stored) mid now answer none takes puts rising are_kept = λ items recorded replay are.
      let adopting = begins items recorded replay.shown replay.replayed in
      by recorded are (takes.goes_on.adopting recorded adopting) takes.left.before mid takes.left.gone
      (takes.left.taken stored recorded adopting (begun stored recorded.store (adopting_files old) none are)) puts
    where
      files : KeptFiles
      files = adopting_files new

      by : (recorded : Recorded) → AreStored stored → IsAdoptingOf new recorded → (before mid : Option (List StoredFile))
          → (mid ≡ before) ⊎ (HasAdoptedAll new × AreGoneIn [] files before mid × NoDamage answer)
          → IsTakingUp stored recorded.store files before → WhereTold (ArePutBack (names_at files.places)) mid now
          → IsSomeAnd now (AreLeft (IsUnlisted recorded.store) stored)
      by recorded are later None mid gone up puts = absurd up.others
      by recorded are later (Some before) mid (inl same) up puts =
          put_back stored recorded.store files are are_kept rising later.first up.taken (IsUnlisted recorded.store) before
          up.others.are_stored (hidden_before stored recorded.store files are are_kept rising later.first up.taken before
          up.others)
          (λ n none. inl (same_before stored recorded.store files are are_kept rising later.first up.taken before up.others
          n none)) now
          (subst (λ m. WhereTold (ArePutBack (names_at files.places)) m now) same puts)
      by recorded are later (Some before) None (inr gone) up puts = absurd gone.1
      by recorded are later (Some before) (Some rest) (inr gone) up puts =
          let went = gone.1 up.others.are_stored in
          put_back stored recorded.store files are are_kept rising later.first up.taken (IsUnlisted recorded.store) rest
          went.stored
          (hidden_behind stored recorded.store files are are_kept rising later.first up.taken before up.others rest went
          (unlisted recorded later gone.0))
          (others_behind stored recorded.store files are are_kept rising later.first up.taken before up.others rest went
          (unlisted recorded later gone.0)) now puts
        where
          unlisted : (recorded : Recorded) → IsAdoptingOf new recorded → HasAdoptedAll new → (n : ℕ)
              → kept_file n files ≡ None → IsUnlisted recorded.store n
          unlisted recorded later all n none among =
              let wanted = same_wanted files (opening_of new) all.recorded recorded all.is.opening later.opening all.all in
              false≢true (ap (λ found. is_some found) (sym none)
              ∙ (kept_where_listed files recorded.store n are_kept later.first wanted).1 among)

  -- a damaged store has each of its files
  pub has_kept : {directory : Store} (start mid now : Option (List StoredFile)) (answer : OpenFault)
      → adopting_files old ≡ none_kept directory → HasTakenUp old new start mid (Err answer)
      → WhereTold (ArePutBack (names_at (adopting_files new).places)) mid now → AreNumbersRising (adopting_files new).places
      → AreKept (adopting_files new) → IfSome start (λ stored. (items : List LogRecord) (recorded : Recorded)
      → IsReplay opening items recorded → AreStored stored → (part : Part) (at : ℕ) → answer ≡ fault.Damaged part at
      → IsSomeAnd now (AreLeft NoneMayGo stored))
  has_kept None mid now answer none takes puts rising are_kept = tt
  has_kept (Some stored) mid now answer none takes puts rising are_kept = λ items recorded replay are part at is.
      let adopting = begins items recorded replay.shown replay.replayed in
      by recorded are (takes.goes_on.adopting recorded adopting) takes.left.before mid part at is takes.left.gone
      (takes.left.taken stored recorded adopting (begun stored recorded.store (adopting_files old) none are)) puts
    where
      files : KeptFiles
      files = adopting_files new

      by : (recorded : Recorded) → AreStored stored → IsAdoptingOf new recorded → (before mid : Option (List StoredFile))
          → (part : Part) (at : ℕ) → answer ≡ fault.Damaged part at
          → (mid ≡ before) ⊎ (HasAdoptedAll new × AreGoneIn [] files before mid × NoDamage answer)
          → IsTakingUp stored recorded.store files before → WhereTold (ArePutBack (names_at files.places)) mid now
          → IsSomeAnd now (AreLeft NoneMayGo stored)
      by recorded are later None mid part at is gone up puts = absurd up.others
      by recorded are later (Some before) mid part at is (inl same) up puts =
          put_back stored recorded.store files are are_kept rising later.first up.taken NoneMayGo before
          up.others.are_stored (hidden_before stored recorded.store files are are_kept rising later.first up.taken before
          up.others)
          (λ n none. inl (same_before stored recorded.store files are are_kept rising later.first up.taken before up.others
          n none)) now
          (subst (λ m. WhereTold (ArePutBack (names_at files.places)) m now) same puts)
      by recorded are later (Some before) mid part at is (inr gone) up puts = absurd (subst NoDamage is gone.2)
