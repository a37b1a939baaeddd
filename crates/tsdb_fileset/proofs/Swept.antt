-- What a sweep leaves.
use Rattle.std.proofs.Common.{◌≡◌, ℕ, ◌+◌, ◌≤◌, Bool, true, false, cond, not, List, []}
use Rattle.std.proofs.Common.{◌∷◌, ◌++◌, length, map, Option, Some}
use Rattle.std.proofs.Common.{None, Result, Ok, Err, inl, inr, refl, sym, ap, subst, ◌∙◌, arith}
use Rattle.std.specs.Cmp.{unsigned_Decides}
use Rattle.std.specs.Prelude.{◌||◌, ◌&&◌, IfSome, OnErr, OnOk, is_some, nat_eq, vec_capacity, vec_len}
use Rattle.std.specs.List.{AllByRecursion as Each, filter, list_any}
use Rattle.std.proofs.lemmas.List.{append_assoc, map-append}
use Rattle.tsdb_base.specs.declared.ids.FileNumber.{FileNumber}
use Rattle.tsdb_fileset.specs.declared.files.KeptFiles.TheInside.{Inside}
use Rattle.tsdb_fileset.specs.declared.files.Outgoing.{Outgoing}
use Rattle.tsdb_fileset.specs.Files.{AreKept, KeptFiles, entry_numbers, kept_file}
use Rattle.tsdb_fileset.specs.Files.{listed_borns, all_numbers, outgoing_numbers}
use Rattle.tsdb_fileset.specs.SoundFiles.{AreSound, view_of}
use Rattle.tsdb_fileset.specs.StateOfFiles.{may_go, told_numbers}
use Rattle.tsdb_fileset.specs.Places.{AreOfStore, AreUnread, KeptFile, Places, TakesAway, file_at, is_one_of}
use Rattle.tsdb_fileset.specs.Places.{place_of_number}
use Rattle.tsdb_fileset.specs.Sweeps.{AreOnce, LeavesWithout, StopsSweepAt, free_numbers, has_no_right, has_place, is_free}
use Rattle.tsdb_fileset.specs.Sweeps.{is_that, tried_numbers}
use Rattle.tsdb_fileset.proofs.Counts.{among_counted, count_fewer, count_left, counted, filter_agrees, same_test}
use Rattle.tsdb_fileset.proofs.Numbers.{all_counted}
use Rattle.tsdb_fileset.proofs.Taken.{still_all}
use Rattle.tsdb_base.specs.Lists.{Among, count, if_some}
use Rattle.tsdb_base.proofs.Lists.{count_append, each_from_among}
use Rattle.tsdb_flush.specs.Least.{IsLeastOf}
use Rattle.tsdb_outside.specs.Files.{Store}
use Rattle.tsdb_outside.specs.declared.faults.Failed.{Failed}

at_most_one : (file : Option KeptFile) → length (if_some file) ≤ 1
at_most_one None = omega arith
at_most_one (Some file) = omega arith

-- the outgoing files are counted among all
outgoing_counted : (n : ℕ) (files : KeptFiles) → count n (outgoing_numbers files.outgoing) ≤ count n (all_numbers files)
outgoing_counted n files = let all = all_counted n files in omega (arith, all)

pub once : (files : KeptFiles) → AreKept files → AreOnce files.outgoing
once files kept n = omega (arith, outgoing_counted n files, kept n, at_most_one (kept_file n files))

-- each outgoing file has its place
all_placed : (files : KeptFiles) → AreKept files → Each (λ file. has_place files.places file ≡ true) files.outgoing
all_placed files kept = each_from_among _ files.outgoing (λ file among.
    let n = file.number.0 in
    placed (place_of_number n files.places)
    (omega (arith, among_counted file files.outgoing among, outgoing_counted n files, kept n)))
  where
    placed : (place : Option (Option KeptFile)) → 1 ≤ length (if_some (file_at place)) → is_some place ≡ true
    placed None some = absurd (omega (arith, some))
    placed (Some place) some = refl

-- those that keep their places are those whose numbers are not gone
still_placed : (gone : List ℕ) (old new : Places) (files : List Outgoing) → TakesAway gone old new
    → Each (λ file. has_place old file ≡ true) files
    → filter (has_place new) files ≡ filter (λ file. not (is_one_of gone file.number.0)) files
still_placed gone old new files away placed =
    filter_agrees (has_place new) (λ file. not (is_one_of gone file.number.0)) files (each files placed)
  where
    one : (file : Outgoing) (b : Bool) → has_place old file ≡ true
        → is_some (cond b None (place_of_number file.number.0 old)) ≡ not b
    one file true there = refl
    one file false there = there

    each : (files : List Outgoing) → Each (λ file. has_place old file ≡ true) files
        → Each (λ file. has_place new file ≡ not (is_one_of gone file.number.0)) files
    each [] placed = tt
    each (file ∷ files) placed = (
      ap is_some (away file.number.0) ∙ one file (is_one_of gone file.number.0) placed.0,
      each files placed.1,
    )

-- the files that stay are kept
kept_left : (gone : List ℕ) (old new : KeptFiles) → AreKept old → LeavesWithout gone old new
    → ((n : ℕ) → count n gone ≤ count n (outgoing_numbers old.outgoing)) → AreKept new
kept_left gone old new kept leaves fewer n = by (is_one_of gone n) refl
  where
    was : count n (all_numbers old) ≡ (count n (entry_numbers old.sequence) + count n (entry_numbers old.unsequence))
        + count n (outgoing_numbers old.outgoing)
    was = all_counted n old

    now : count n (all_numbers new) ≡ (count n (entry_numbers old.sequence) + count n (entry_numbers old.unsequence))
        + cond (is_one_of gone n) 0 (count n (outgoing_numbers old.outgoing))
    now =
        all_counted n new
        ∙ (λ i. (count n (entry_numbers (leaves.sequence i)) + count n (entry_numbers (leaves.unsequence i)))
        + count n (outgoing_numbers (leaves.outgoing i)))
        ∙ ap (λ m. (count n (entry_numbers old.sequence) + count n (entry_numbers old.unsequence)) + m)
        (count_left n gone old.outgoing)

    by : (b : Bool) → is_one_of gone n ≡ b → count n (all_numbers new) ≡ length (if_some (kept_file n new))
    by true is =
        let none = ap (λ place. length (if_some (file_at place)))
        (leaves.places n ∙ ap (λ b. cond b None (place_of_number n old.places)) is) in
        let rest = now ∙ ap (λ b. (count n (entry_numbers old.sequence) + count n (entry_numbers old.unsequence))
        + cond b 0 (count n (outgoing_numbers old.outgoing))) is in
        omega (arith, none, rest, was, kept n, at_most_one (kept_file n old), counted n gone is, fewer n)
    by false is =
        let same = ap (λ place. length (if_some (file_at place)))
        (leaves.places n ∙ ap (λ b. cond b None (place_of_number n old.places)) is) in
        let rest = now ∙ ap (λ b. (count n (entry_numbers old.sequence) + count n (entry_numbers old.unsequence))
        + cond b 0 (count n (outgoing_numbers old.outgoing))) is in
        omega (arith, same, rest, was, kept n)

-- those that were tried are some of the outgoing files
tried_fewer : (doubted : List (Option FileNumber)) (places : Places) (tried behind outgoing : List Outgoing)
    → outgoing ≡ tried ++ behind → (n : ℕ)
    → count n (free_numbers doubted places tried) ≤ count n (outgoing_numbers outgoing)
tried_fewer doubted places tried behind outgoing are n =
    let all = ap (λ l. count n (outgoing_numbers l)) are ∙ ap (count n) (map-append (λ f. f.number.0) tried behind)
    ∙ count_append n (outgoing_numbers tried) (outgoing_numbers behind) in
    omega (arith, count_fewer n (is_free doubted places) tried, all)

module _ {F S R P : Type 0} (store_of : F → Store) (doubted : List (Option FileNumber)) (old new : Inside F S R P)
    (sound : AreSound store_of old)
    (files : new.outgoing.items ≡ filter (has_place new.tokens.entries) old.outgoing.items)
    (len : vec_len new.outgoing ≤ vec_len old.outgoing)
    (capacity : vec_capacity new.outgoing ≡ vec_capacity old.outgoing)
    (sequence : new.sequence ≡ old.sequence) (unsequence : new.unsequence ≡ old.unsequence)
    (spare : new.spare ≡ old.spare) (least : new.least ≡ old.least)
    (store : store_of new.store.value ≡ store_of old.store.value) where
  leaves : (gone : List ℕ) → TakesAway gone old.tokens.entries new.tokens.entries
      → LeavesWithout gone (view_of store_of old) (view_of store_of new)
  leaves gone away = record {
    outgoing = files ∙ still_placed gone old.tokens.entries new.tokens.entries old.outgoing.items away
        (all_placed (view_of store_of old) sound.kept);
    places = away;
    sequence = ap (λ v. v.items) sequence;
    unsequence = ap (λ v. v.items) unsequence;
    spare = spare;
    store = store;
  }

  sound_left : (gone : List ℕ) → TakesAway gone old.tokens.entries new.tokens.entries
      → ((n : ℕ) → count n gone ≤ count n (outgoing_numbers old.outgoing.items)) → AreSound store_of new
  sound_left gone away fewer = record {
    kept = kept_left gone (view_of store_of old) (view_of store_of new) sound.kept (leaves gone away) fewer;
    of_store = subst (λ s. AreOfStore s new.tokens.entries) (sym store)
        (still_all (λ file. file.name.store ≡ store_of old.store.value) gone old.tokens.entries new.tokens.entries away
        sound.of_store);
    room = record {
      sequence_room = subst (λ v. vec_len v + new.spare.sequence ≤ vec_capacity v) (sym sequence)
          (subst (λ s. vec_len old.sequence + s.sequence ≤ vec_capacity old.sequence) (sym spare)
          sound.room.sequence_room);
      unsequence_room = subst (λ v. vec_len v + new.spare.unsequence ≤ vec_capacity v) (sym unsequence)
          (subst (λ s. vec_len old.unsequence + s.unsequence ≤ vec_capacity old.unsequence) (sym spare)
          sound.room.unsequence_room);
      outgoing_room =
          let promised = ap (λ s. s.outgoing) spare in
          omega (arith, sound.room.outgoing_room, len, capacity, promised);
    };
    least = subst (λ l. IsLeastOf l (listed_borns (view_of store_of new))) (sym least)
        (subst (λ entries. IsLeastOf old.least (map (λ entry. entry.born.0) entries))
        (λ i. sym (ap (λ v. v.items) sequence) i ++ sym (ap (λ v. v.items) unsequence) i) sound.least);
  }

  abbrev AllLeave : Type 0
  AllLeave =
      TakesAway (free_numbers doubted old.tokens.entries old.outgoing.items) old.tokens.entries new.tokens.entries

  abbrev SomeLeave : Type 0
  SomeLeave = (stop : StopsSweepAt doubted old.tokens.entries old.outgoing.items)
      × TakesAway (tried_numbers doubted old.tokens.entries stop) old.tokens.entries new.tokens.entries

  pub swept_sound : (result : Result ℕ Failed) → OnOk result AllLeave → OnErr result SomeLeave → AreSound store_of new
  swept_sound (Ok count) ok err =
      sound_left (free_numbers doubted old.tokens.entries old.outgoing.items) ok
      (λ n. count_fewer n (is_free doubted old.tokens.entries) old.outgoing.items)
  swept_sound (Err fault) ok err =
      sound_left (tried_numbers doubted old.tokens.entries err.0) err.1
      (tried_fewer doubted old.tokens.entries (err.0.before ++ err.0.failed ∷ []) err.0.behind old.outgoing.items
      (err.0.are ∙ sym (append_assoc err.0.before (err.0.failed ∷ []) err.0.behind)))

  pub swept_ok : (result : Result ℕ Failed) → OnOk result AllLeave
      → OnOk result (LeavesWithout
      (free_numbers doubted (view_of store_of old).places (view_of store_of old).outgoing) (view_of store_of old)
      (view_of store_of new))
  swept_ok (Ok count) ok = leaves (free_numbers doubted old.tokens.entries old.outgoing.items) ok
  swept_ok (Err fault) ok = tt

  pub swept_failed : (result : Result ℕ Failed) → OnErr result SomeLeave
      → OnErr result ((stop : StopsSweepAt doubted (view_of store_of old).places (view_of store_of old).outgoing)
      × LeavesWithout (tried_numbers doubted (view_of store_of old).places stop) (view_of store_of old)
      (view_of store_of new))
  swept_failed (Ok count) err = tt
  swept_failed (Err fault) err = (err.0, leaves (tried_numbers doubted old.tokens.entries err.0) err.1)

-- ---- where no right is out and none is in doubt, no outgoing file is left

never : (n : ℕ) (ns : List ℕ) → n ∷ ns ≡ [] → ⊥
never n ns is = cc

none_doubted : (n : ℕ) (doubted : List (Option FileNumber)) → told_numbers doubted ≡ []
    → list_any (is_that n) doubted ≡ false
none_doubted n [] is = refl
none_doubted n (None ∷ doubted) is = none_doubted n doubted is
none_doubted n (Some file ∷ doubted) is = absurd (never file.0 (told_numbers doubted) is)

filter_all : (test : Outgoing → Bool) (files : List Outgoing) → Each (λ file. test file ≡ true) files
    → filter test files ≡ files
filter_all test [] all = refl
filter_all test (file ∷ files) all = ap (λ b. cond b (file ∷ filter test files) (filter test files)) all.0
    ∙ ap (λ rest. file ∷ rest) (filter_all test files all.1)

filter_none : (test : Outgoing → Bool) (files : List Outgoing) → Each (λ file. test file ≡ false) files
    → filter test files ≡ []
filter_none test [] none = refl
filter_none test (file ∷ files) none = ap (λ b. cond b (file ∷ filter test files) (filter test files)) none.0
    ∙ filter_none test files none.1

or_true : (a b : Bool) → b ≡ true → (a || b) ≡ true
or_true true b is = refl
or_true false b is = is

-- the number of a file is one of those of a list that has the file
is_there : (files : List Outgoing) (file : Outgoing) → Among file files
    → is_one_of (outgoing_numbers files) file.number.0 ≡ true
is_there [] file among = absurd among
is_there (other ∷ files) file (inl is) =
    ap (λ b. b || is_one_of (outgoing_numbers files) file.number.0)
    (same_test file.number.0 other.number.0
    ∙ (unsigned_Decides other.number.0 file.number.0).1 (ap (λ f. f.number.0) is))
is_there (other ∷ files) file (inr among) = or_true (nat_eq file.number.0 other.number.0)
    (is_one_of (outgoing_numbers files) file.number.0) (is_there files file among)

module _ (doubted : List (Option FileNumber)) (old new : KeptFiles) (kept : AreKept old) (unread : AreUnread old.places)
    (none : told_numbers doubted ≡ []) where
  unlent : (found : Option KeptFile) → 1 ≤ length (if_some found) → IfSome found (λ file. file.rights ≡ 0)
      → has_no_right found ≡ true
  unlent None some zero = absurd (omega (arith, some))
  unlent (Some file) some zero = ap (λ rights. nat_eq rights 0) zero

  is_free_there : (file : Outgoing) → Among file old.outgoing → is_free doubted old.places file ≡ true
  is_free_there file among =
      let n = file.number.0 in
      ap (λ b. b && not (list_any (is_that n) doubted)) (unlent (kept_file n old)
      (omega (arith, among_counted file old.outgoing among, outgoing_counted n old, kept n)) (unread n))
      ∙ ap not (none_doubted n doubted none)

  all_go : may_go doubted old old.outgoing ≡ outgoing_numbers old.outgoing
  all_go = ap outgoing_numbers (filter_all (is_free doubted old.places) old.outgoing
      (each_from_among _ old.outgoing is_free_there))

  pub none_left : LeavesWithout (may_go doubted old old.outgoing) old new → new.outgoing ≡ []
  none_left leaves = leaves.outgoing
      ∙ filter_none (λ file. not (is_one_of (may_go doubted old old.outgoing) file.number.0)) old.outgoing
      (each_from_among _ old.outgoing (λ file among. ap not (ap (λ gone. is_one_of gone file.number.0) all_go
      ∙ is_there old.outgoing file among)))
