-- Behind a sweep only files that are read are on their way out.
use Rattle.std.proofs.Common.{◌≡◌, ℕ, zero, suc, ◌≤◌, Bool, true, false, cond, not, List, [], ◌∷◌, ◌++◌, length, Option, None, Some}
use Rattle.std.proofs.Common.{inl, inr, ap, arith, refl, sym, subst, ◌∙◌}
use Rattle.std.proofs.lemmas.Bool.{eq-eqb, false≢true}
use Rattle.std.specs.List.{AllByRecursion as Each, filter, list_any}
use Rattle.std.specs.Option.{IsSomeAnd}
use Rattle.std.specs.Prelude.{◌||◌, ◌&&◌, IfSome, nat_eq}
use Rattle.tsdb_base.proofs.Lists.{count_append, each_from_among, each_weaker}
use Rattle.tsdb_base.specs.Lists.{Among, if_some}
use Rattle.tsdb_base.specs.declared.ids.FileNumber.{FileNumber}
use Rattle.tsdb_core.specs.FilesetFiles.{AreKept, KeptFiles, entry_numbers, kept_file, outgoing_numbers}
use Rattle.tsdb_core.specs.FilesetSweeps.{LeavesWithout, has_no_right, is_free, is_that}
use Rattle.tsdb_core.specs.Places.{AreUnread, KeptFile, file_at, is_one_of, place_of_number}
use Rattle.tsdb_core.specs.StateOfFiles.{may_go, told_numbers}
use Rattle.tsdb_fileset.proofs.Counts.{among_counted}
use Rattle.tsdb_fileset.specs.declared.files.Outgoing.{Outgoing}
use Rattle.tsdb_serving.specs.Sweeping.{AreOutgoingRead, IsRead}
use Rattle.tsdb_state.proofs.ImageLemmas.Kept.{each_passed}

never : (n : ℕ) (ns : List ℕ) → n ∷ ns ≡ [] → ⊥
never n ns is = cc

none_doubted : (n : ℕ) (doubted : List (Option FileNumber)) → told_numbers doubted ≡ []
    → list_any (is_that n) doubted ≡ false
none_doubted n [] is = refl
none_doubted n (None ∷ doubted) is = none_doubted n doubted is
none_doubted n (Some file ∷ doubted) is = absurd (never file.0 (told_numbers doubted) is)

or_true : (a b : Bool) → b ≡ true → (a || b) ≡ true
or_true true b is = refl
or_true false b is = is

-- the number of a file that passes is one of those that pass
passes_there : (test : Outgoing → Bool) (files : List Outgoing) (file : Outgoing) → Among file files
    → test file ≡ true → is_one_of (outgoing_numbers (filter test files)) file.number.0 ≡ true
passes_there test [] file among pass = absurd among
passes_there test (other ∷ files) file (inl is) pass =
    ap (λ b. is_one_of (outgoing_numbers (cond b (other ∷ filter test files) (filter test files))) file.number.0)
    (ap test is ∙ pass)
    ∙ ap (λ b. b || is_one_of (outgoing_numbers (filter test files)) file.number.0)
    (eq-eqb file.number.0 other.number.0 (sym (ap (λ (f : Outgoing). f.number.0) is)))
passes_there test (other ∷ files) file (inr among) pass = by (test other) (passes_there test files file among pass)
  where
    by : (b : Bool) → is_one_of (outgoing_numbers (filter test files)) file.number.0 ≡ true
        → is_one_of (outgoing_numbers (cond b (other ∷ filter test files) (filter test files))) file.number.0 ≡ true
    by true rest = or_true (nat_eq file.number.0 other.number.0) _ rest
    by false rest = rest

stays : (b : Bool) → not b ≡ true → b ≡ false
stays true is = absurd (false≢true is)
stays false is = refl

module _ (doubted : List (Option FileNumber)) (old new : KeptFiles) (kept : AreKept old)
    (none : told_numbers doubted ≡ []) (leaves : LeavesWithout (may_go doubted old old.outgoing) old new) where
  abbrev gone : List ℕ
  gone = may_go doubted old old.outgoing

  there : (file : Outgoing) → Among file old.outgoing → 1 ≤ length (if_some (kept_file file.number.0 old))
  there file among =
      let n = file.number.0 in
      let entries = entry_numbers old.sequence ++ entry_numbers old.unsequence in
      omega (
        arith,
        kept n,
        count_append n entries (outgoing_numbers old.outgoing),
        among_counted file old.outgoing among,
      )

  -- a file without a right could go
  free_of : (file : Outgoing) (k : KeptFile) → kept_file file.number.0 old ≡ Some k → k.rights ≡ 0
      → is_free doubted old.places file ≡ true
  free_of file k is none_out =
      ap (λ found. has_no_right found && not (list_any (is_that file.number.0) doubted)) is
      ∙ ap (λ rights. nat_eq rights 0 && not (list_any (is_that file.number.0) doubted)) none_out
      ∙ ap not (none_doubted file.number.0 doubted none)

  read_in : (file : Outgoing) → Among file old.outgoing → is_one_of gone file.number.0 ≡ false
      → (found : Option KeptFile) → kept_file file.number.0 old ≡ found → 1 ≤ length (if_some found)
      → IsSomeAnd found (λ k. 1 ≤ k.rights)
  read_in file among stay None is some = absurd (omega (arith, some))
  read_in file among stay (Some k) is some = by k.rights refl
    where
      by : (rights : ℕ) → k.rights ≡ rights → 1 ≤ rights
      by zero none_out = absurd (false≢true (sym stay ∙ passes_there (is_free doubted old.places) old.outgoing file among
          (free_of file k is none_out)))
      by (suc n) more = omega arith

  still_there : (file : Outgoing) → is_one_of gone file.number.0 ≡ false
      → kept_file file.number.0 new ≡ kept_file file.number.0 old
  still_there file stay = ap file_at (leaves.places file.number.0
      ∙ ap (λ b. cond b None (place_of_number file.number.0 old.places)) stay)

  is_read : (file : Outgoing) → Among file old.outgoing → not (is_one_of gone file.number.0) ≡ true → IsRead new file
  is_read file among passes =
      let stay = stays (is_one_of gone file.number.0) passes in
      subst (λ found. IsSomeAnd found (λ (k : KeptFile). 1 ≤ k.rights)) (sym (still_there file stay))
      (read_in file among stay (kept_file file.number.0 old) refl (there file among))

  pub read_left : AreOutgoingRead new
  read_left = subst (Each (IsRead new)) (sym leaves.outgoing)
      (each_passed (λ file. Among file old.outgoing) (IsRead new) (λ file. not (is_one_of gone file.number.0)) old.outgoing
      is_read (each_from_among (λ file. Among file old.outgoing) old.outgoing (λ file among. among)))

-- where no right is out no file is read
not_read : (found : Option KeptFile) → IfSome found (λ k. k.rights ≡ 0) → IsSomeAnd found (λ k. 1 ≤ k.rights) → ⊥
not_read None unread some = some
not_read (Some k) unread some = omega (arith, unread, some)

pub none_read : (files : KeptFiles) → AreUnread files.places → AreOutgoingRead files → files.outgoing ≡ []
none_read files unread = by files.outgoing
  where
    by : (outgoing : List Outgoing) → Each (IsRead files) outgoing → outgoing ≡ []
    by [] read = refl
    by (file ∷ outgoing) read =
        absurd (not_read (kept_file file.number.0 files) (unread file.number.0) read.0)

-- what is read is read still where no file on its way out and no kept file has changed
pub still_read : (old new : KeptFiles) → new.outgoing ≡ old.outgoing
    → ((n : ℕ) → kept_file n new ≡ kept_file n old) → AreOutgoingRead old → AreOutgoingRead new
still_read old new outgoing same read = subst (Each (IsRead new)) (sym outgoing)
    (each_weaker (IsRead old) (IsRead new) (λ file is. subst (λ found. IsSomeAnd found (λ (k : KeptFile). 1 ≤ k.rights))
    (sym (same file.number.0)) is) old.outgoing read)
