-- The sources of listed files, taken file by file, and sources taken one part after another.
use Rattle.std.proofs.Common.{◌≡◌, ℕ, ◌+◌, ◌<◌, ◌≤◌, Bool, true, false, cond, List, [], ◌∷◌, ◌++◌, length, take, get_or}
use Rattle.std.proofs.Common.{Option, Some, None, Result, Ok, Err, refl, sym, ap, subst, ◌∙◌, append_assoc}
use Rattle.std.specs.Prelude.{IsSome, OnErr, OnOk}
use Rattle.std.specs.List.{AllZip, filter, list_any}
use Rattle.std.specs.Option.{option_map, unwrap_or}
use Rattle.std.proofs.lemmas.Bool.{false≢true}
use Rattle.std.proofs.lemmas.List.{append-nil, take_all, take_more}
use Rattle.tsdb_base.specs.declared.ids.FileNumber.{FileNumber}
use Rattle.tsdb_base.specs.declared.ids.Space.{Space}
use Rattle.tsdb_base.specs.declared.ids.Space.TheVariants.{Sequence, Unsequence}
use Rattle.tsdb_base.specs.declared.ids.Stamp.{Stamp}
use Rattle.tsdb_fileset.specs.Files.{KeepsLists, KeptFiles, entries_in, has_path, kept_file, paths_at}
use Rattle.tsdb_fileset.specs.Places.{KeptFile}
use Rattle.tsdb_fileset.specs.Rights.{HasChanged, IsRightTo, one_more}
use Rattle.tsdb_fileset.specs.Places.{OthersStay}
use Rattle.tsdb_base.proofs.Lists.{each_append, each_weaker, filter_append}
use Rattle.tsdb_base.specs.Lists.{count}
use Rattle.tsdb_fileset.specs.StatePlaces.{is_path}
use Rattle.tsdb_outside.specs.Files.{NamedFile}
use Rattle.tsdb_pin.proofs.Changing.{LeavesNames, kept_changed, none_shared, right_stays, right_was, takes_names}
use Rattle.tsdb_pin.proofs.Changing.{takes_none, takes_one, takes_then, nothing_changed}
use Rattle.tsdb_pin.specs.Changes.{ChangesFiles, ChangesNoFile, TakesSources, TakesAll, TakesRights, TakesSomeSources, more_rights}
use Rattle.tsdb_pin.specs.Sources.{AreHeldIn, AreOfFiles, IsFileWithRight, IsHeldIn, IsOfEntry, numbers_in}
use Rattle.tsdb_pin.specs.Sources.{source_numbers}
use Rattle.tsdb_pin.specs.declared.pin.PinnedSource.{PinnedSource}
use Rattle.tsdb_pin.specs.declared.pin.PinnedSource.TheVariants.{File, Part}
use Rattle.tsdb_plan.specs.declared.entry.FileEntry.{FileEntry}

pub zip_append : {X Y : Type 0} (R : X → Y → Type 0) (xs xs' : List X) (ys ys' : List Y) → AllZip R xs ys → AllZip R xs' ys'
    → AllZip R (xs ++ xs') (ys ++ ys')
zip_append R [] xs' [] ys' h k = k
zip_append R [] xs' (y ∷ ys) ys' h k = absurd h
zip_append R (x ∷ xs) xs' [] ys' h k = absurd h
zip_append R (x ∷ xs) xs' (y ∷ ys) ys' h k = (h.0, zip_append R xs xs' ys ys' h.1 k)

pub zip_weaker : {X Y : Type 0} (R Q : X → Y → Type 0) → ((x : X) (y : Y) → R x y → Q x y) → (xs : List X) (ys : List Y)
    → AllZip R xs ys → AllZip Q xs ys
zip_weaker R Q f [] [] h = h
zip_weaker R Q f [] (y ∷ ys) h = absurd h
zip_weaker R Q f (x ∷ xs) [] h = absurd h
zip_weaker R Q f (x ∷ xs) (y ∷ ys) h = (f x y h.0, zip_weaker R Q f xs ys h.1)

-- what a call returns, by how it ended

pub on_err : {T E P : Type 0} (r : Result T E) → P → OnErr r P
on_err (Ok x) p = tt
on_err (Err x) p = p

pub when_ok : {T E A B : Type 0} (r : Result T E) → (A → B) → OnOk r A → OnOk r B
when_ok (Ok x) f a = f a
when_ok (Err e) f a = tt

pub ok_of_both : {T E A B C : Type 0} (r : Result T E) → (A → B → C) → OnOk r A → OnOk r B → OnOk r C
ok_of_both (Ok x) f a b = f a b
ok_of_both (Err e) f a b = tt

pub when_err : {T E A B : Type 0} (r : Result T E) → (A → B) → OnErr r A → OnErr r B
when_err (Ok x) f a = tt
when_err (Err e) f a = f a

-- what a file with points of a series is known by

any_none : (path : List ℕ) (o : Option KeptFile)
    → list_any (is_path path) (unwrap_or (option_map (λ (file : KeptFile). file.series) o) []) ≡ true → IsSome o
any_none path None e = absurd (false≢true e)
any_none path (Some file) e = refl

pub kept_with_path : (path : List ℕ) (files : KeptFiles) (n : ℕ) → has_path path files n ≡ true → IsSome (kept_file n files)
kept_with_path path files n e = any_none path (kept_file n files) e

pub series_stay : (change : ℕ → KeptFile → KeptFile) → LeavesNames change → (a b : KeptFiles) → ChangesFiles change a b
    → (n : ℕ) → paths_at n b ≡ paths_at n a
series_stay change leaves a b changes n = ap (λ (o : Option KeptFile). unwrap_or (option_map (λ (file : KeptFile). file.series) o) [])
    (kept_changed change a b changes n) ∙ by (kept_file n a)
  where
    by : (o : Option KeptFile) → unwrap_or (option_map (λ (file : KeptFile). file.series) (option_map (change n) o)) []
        ≡ unwrap_or (option_map (λ (file : KeptFile). file.series) o) []
    by None = refl
    by (Some file) = leaves.series n file

pub path_stays : (change : ℕ → KeptFile → KeptFile) → LeavesNames change → (a b : KeptFiles) → ChangesFiles change a b
    → (path : List ℕ) (n : ℕ) → has_path path b n ≡ has_path path a n
path_stays change leaves a b changes path n = ap (list_any (is_path path)) (series_stay change leaves a b changes n)

pub entries_stay : (space : Space) (a b : KeptFiles) → KeepsLists a b → entries_in space b ≡ entries_in space a
entries_stay Sequence a b keeps = keeps.sequence
entries_stay Unsequence a b keeps = keeps.unsequence

pub numbers_append : {F S R P : Type 0} (xs ys : List (PinnedSource F S R P))
    → numbers_in (xs ++ ys) ≡ numbers_in xs ++ numbers_in ys
numbers_append [] ys = refl
numbers_append (x ∷ xs) ys = ap (λ (l : List ℕ). source_numbers x ++ l) (numbers_append xs ys)
    ∙ sym (append_assoc (source_numbers x) (numbers_in xs) (numbers_in ys))

-- the files up to one more place
files_to : (path : List ℕ) (space : Space) (old : KeptFiles) (i : ℕ) (entry : FileEntry) (b : Bool)
    → i < length (entries_in space old) → entry ≡ get_or (entries_in space old) i entry
    → has_path path old entry.number.0 ≡ b
    → filter (λ (e : FileEntry). has_path path old e.number.0) (take (i + 1) (entries_in space old))
    ≡ filter (λ (e : FileEntry). has_path path old e.number.0) (take i (entries_in space old)) ++ cond b (entry ∷ []) []
files_to path space old i entry b inside at is =
    ap (filter (λ (e : FileEntry). has_path path old e.number.0)) (take_more (entries_in space old) i entry inside
    ∙ ap (λ (e : FileEntry). take i (entries_in space old) ++ e ∷ []) (sym at))
    ∙ filter_append (λ (e : FileEntry). has_path path old e.number.0) (take i (entries_in space old)) (entry ∷ [])
    ∙ ap (λ (t : Bool). filter (λ (e : FileEntry). has_path path old e.number.0) (take i (entries_in space old)) ++ cond t (entry ∷ []) []) is

module _ {F S R P : Type 0} (name : R → NamedFile) where
  -- a right stays one to its file, and was one before
  pub held_was : (change : ℕ → KeptFile → KeptFile) → LeavesNames change → (a b : KeptFiles) → ChangesFiles change a b
      → (sources : List (PinnedSource F S R P)) → AreHeldIn name b sources → AreHeldIn name a sources
  held_was change leaves a b changes sources held = each_weaker (IsHeldIn name b) (IsHeldIn name a) one sources held
    where
      one : (source : PinnedSource F S R P) → IsHeldIn name b source → IsHeldIn name a source
      one (File number born right) h = right_was name change leaves a b changes number.0 right h
      one (Part born points) h = h

  pub held_stays : (change : ℕ → KeptFile → KeptFile) → LeavesNames change → (a b : KeptFiles) → ChangesFiles change a b
      → (sources : List (PinnedSource F S R P)) → AreHeldIn name a sources → AreHeldIn name b sources
  held_stays change leaves a b changes sources held = each_weaker (IsHeldIn name a) (IsHeldIn name b) one sources held
    where
      one : (source : PinnedSource F S R P) → IsHeldIn name a source → IsHeldIn name b source
      one (File number born right) h = right_stays name change leaves a b changes number.0 right h
      one (Part born points) h = h

  -- the sources of listed files, as the files were before
  pub files_was : (change : ℕ → KeptFile → KeptFile) → LeavesNames change → (a b : KeptFiles) → ChangesFiles change a b
      → (path : List ℕ) (entries : List FileEntry) (sources : List (PinnedSource F S R P)) → AreOfFiles name b path entries sources
      → AreOfFiles name a path entries sources
  files_was change leaves a b changes path entries sources are =
      zip_weaker (IsOfEntry name b) (IsOfEntry name a) one (filter (λ (entry : FileEntry). has_path path a entry.number.0) entries)
      sources (subst (λ (test : FileEntry → Bool). AllZip (IsOfEntry name b) (filter test entries) sources)
      (λ i entry. path_stays change leaves a b changes path entry.number.0 i) are)
    where
      one : (entry : FileEntry) (source : PinnedSource F S R P) → IsOfEntry name b entry source → IsOfEntry name a entry source
      one entry (File number born right) h =
          (h.0, h.1, right_was name change leaves a b changes entry.number.0 right h.2)
      one entry (Part born points) h = h

  -- ---- one part after another

  pub nothing_taken : (a b : KeptFiles) (before after : List (PinnedSource F S R P)) → ChangesNoFile a b → after ≡ before
      → TakesSources name a b before after []
  nothing_taken a b before after keeps same = record {
    are = same ∙ sym (append-nil before);
    rights = takes_none a b keeps;
    held = tt;
  }

  pub parts_taken : (a : KeptFiles) (before after more : List (PinnedSource F S R P)) → after ≡ before ++ more → numbers_in more ≡ []
      → AreHeldIn name a more → TakesSources name a a before after more
  parts_taken a before after more are none held = record {
    are = are;
    rights = subst (λ numbers. TakesRights numbers a a) (sym none) (takes_none a a (nothing_changed a));
    held = held;
  }

  pub taken_then : (a b c : KeptFiles) (before middle after xs ys : List (PinnedSource F S R P)) → TakesSources name a b before middle xs
      → TakesSources name b c middle after ys → TakesSources name a c before after (xs ++ ys)
  taken_then a b c before middle after xs ys first second = record {
    are = second.are ∙ ap (λ (l : List (PinnedSource F S R P)). l ++ ys) first.are ∙ append_assoc before xs ys;
    rights = subst (λ numbers. TakesRights numbers a c) (sym (numbers_append xs ys))
        (takes_then (numbers_in xs) (numbers_in ys) a b c first.rights second.rights);
    held = each_append (IsHeldIn name a) xs ys first.held
        (held_was (λ n. more_rights (count n (numbers_in xs))) (takes_names (numbers_in xs)) a b first.rights ys second.held);
  }

  -- ---- one file

  pub file_taken : (a b : KeptFiles) (number : FileNumber) (born : Stamp) (right : R) (before after : List (PinnedSource F S R P))
      → IsRightTo name (kept_file number.0 a) (Some right) → HasChanged one_more number.0 a.places b.places
      → OthersStay number.0 a.places b.places → KeepsLists a b → b.spare ≡ a.spare
      → after ≡ before ++ File number born right ∷ []
      → TakesAll name (IsFileWithRight name a number born) a b before after
  file_taken a b number born right before after is changed others lists room are = (
    File number born right ∷ [],
    record { are = are; rights = takes_one number.0 a b changed others lists room; held = (is, tt) },
    λ some. (right, refl, is),
  )

  pub no_file_taken : (a b : KeptFiles) (number : FileNumber) (born : Stamp) (before after : List (PinnedSource F S R P))
      → IsRightTo name (kept_file number.0 a) None → HasChanged one_more number.0 a.places b.places
      → OthersStay number.0 a.places b.places → KeepsLists a b → b.spare ≡ a.spare → after ≡ before
      → TakesAll name (IsFileWithRight name a number born) a b before after
  no_file_taken a b number born before after is changed others lists room same =
      by (kept_file number.0 a) refl is
    where
      by : (o : Option KeptFile) → kept_file number.0 a ≡ o → IsRightTo name o None
          → TakesAll name (IsFileWithRight name a number born) a b before after
      by None e h = (
        [],
        nothing_taken a b before after (none_shared number.0 a b e changed others lists room) same,
        λ some. absurd (false≢true (subst IsSome e some)),
      )
      by (Some file) e h = absurd h

  -- ---- a list of files

  -- the files up to this place are taken
  abbrev pub AreTakenTo : List ℕ → Space → KeptFiles → KeptFiles → List (PinnedSource F S R P) → List (PinnedSource F S R P) → ℕ → Type 0
  AreTakenTo path space old now before after i =
      TakesAll name (AreOfFiles name old path (take i (entries_in space old))) old now before after

  pub none_taken : (path : List ℕ) (space : Space) (old : KeptFiles) (before : List (PinnedSource F S R P))
      → AreTakenTo path space old old before before 0
  none_taken path space old before = ([], nothing_taken old old before before (nothing_changed old) refl, tt)

  pub some_taken : (path : List ℕ) (space : Space) (old now : KeptFiles) (before after : List (PinnedSource F S R P)) (i : ℕ)
      → AreTakenTo path space old now before after i → TakesSomeSources name old now before after
  some_taken path space old now before after i taken = (taken.0, taken.1)

  pub file_failed : (path : List ℕ) (space : Space) (old now new : KeptFiles) (before middle after : List (PinnedSource F S R P))
      (i : ℕ) → AreTakenTo path space old now before middle i → ChangesNoFile now new → after ≡ middle
      → TakesSomeSources name old new before after
  file_failed path space old now new before middle after i taken keeps same = (
    taken.0 ++ [],
    taken_then old now new before middle after taken.0 [] taken.1 (nothing_taken now new middle after keeps same),
  )

  -- the list is as long as before
  pub place_inside : (path : List ℕ) (space : Space) (old now : KeptFiles) (before after : List (PinnedSource F S R P)) (i n : ℕ)
      → AreTakenTo path space old now before after i → i < length (entries_in space old)
      → i < length (entries_in space now)
  place_inside path space old now before after i n taken inside =
      subst (λ (l : List FileEntry). i < length l) (sym (entries_stay space old now taken.1.rights.lists)) inside

  pub step_without : (path : List ℕ) (space : Space) (old now : KeptFiles) (before after : List (PinnedSource F S R P)) (i : ℕ)
      (entry : FileEntry) → AreTakenTo path space old now before after i → i < length (entries_in space old)
      → entry ≡ get_or (entries_in space now) i entry → has_path path now entry.number.0 ≡ false
      → AreTakenTo path space old now before after (i + 1)
  step_without path space old now before after i entry taken inside at is = (
    taken.0,
    taken.1,
    subst (λ l. AllZip (IsOfEntry name old) l taken.0)
        (sym (files_to path space old i entry false inside
        (at ∙ ap (λ (l : List FileEntry). get_or l i entry) (entries_stay space old now taken.1.rights.lists))
        (sym (path_stays (λ n. more_rights (count n (numbers_in taken.0))) (takes_names (numbers_in taken.0)) old now
        taken.1.rights path entry.number.0) ∙ is)
        ∙ append-nil (filter (λ (e : FileEntry). has_path path old e.number.0) (take i (entries_in space old))))) taken.2,
  )

  pub step_with : (path : List ℕ) (space : Space) (old now new : KeptFiles) (before middle after : List (PinnedSource F S R P)) (i : ℕ)
      (entry : FileEntry) → AreTakenTo path space old now before middle i → i < length (entries_in space old)
      → entry ≡ get_or (entries_in space now) i entry → has_path path now entry.number.0 ≡ true
      → TakesAll name (IsFileWithRight name now entry.number entry.born) now new middle after
      → AreTakenTo path space old new before after (i + 1)
  step_with path space old now new before middle after i entry taken inside at is file =
      let change : ℕ → KeptFile → KeptFile = λ n. more_rights (count n (numbers_in taken.0)) in
      let leaves : LeavesNames change = takes_names (numbers_in taken.0) in
      let right = file.2 (kept_with_path path now entry.number.0 is) in
      let one : AllZip (IsOfEntry name old) (entry ∷ []) file.0 =
      subst (λ l. AllZip (IsOfEntry name old) (entry ∷ []) l) (sym right.1)
      ((refl, refl, right_was name change leaves old now taken.1.rights entry.number.0 right.0 right.2), tt) in (
        taken.0 ++ file.0,
        taken_then old now new before middle after taken.0 file.0 taken.1 file.1,
        subst (λ l. AllZip (IsOfEntry name old) l (taken.0 ++ file.0))
            (sym (files_to path space old i entry true inside
            (at ∙ ap (λ (l : List FileEntry). get_or l i entry) (entries_stay space old now taken.1.rights.lists))
            (sym (path_stays change leaves old now taken.1.rights path entry.number.0) ∙ is)))
            (zip_append (IsOfEntry name old)
            (filter (λ (e : FileEntry). has_path path old e.number.0) (take i (entries_in space old))) (entry ∷ [])
            taken.0 file.0 taken.2 one),
      )

  pub all_taken : (path : List ℕ) (space : Space) (old now : KeptFiles) (before after : List (PinnedSource F S R P)) (i : ℕ)
      → AreTakenTo path space old now before after i → length (entries_in space old) ≤ i
      → TakesAll name (AreOfFiles name old path (entries_in space old)) old now before after
  all_taken path space old now before after i taken end =
      subst (λ l. TakesAll name (AreOfFiles name old path l) old now before after) (take_all i (entries_in space old) end)
      taken
