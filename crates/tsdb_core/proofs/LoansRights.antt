-- The files of rights that are out stay kept, under their names.
use Rattle.std.proofs.Common.{◌≡◌, ℕ, ◌+◌, ◌≤◌, ◌==◌, Bool, true, false, not, cond, List, [], ◌∷◌, ◌++◌, Option}
use Rattle.std.proofs.Common.{None, Some, ap, arith, refl, sym, subst, ◌∙◌, nat_eq}
use Rattle.std.proofs.lemmas.Bool.{eq-eqb, eqb-true, false≢true}
use Rattle.std.proofs.lemmas.List.{map-append}
use Rattle.std.specs.Cmp.{unsigned_Decides}
use Rattle.std.specs.List.{AllByRecursion as Each, filter, flat_map, list_any}
use Rattle.std.specs.Option.{IsSomeAnd, option_map}
use Rattle.std.specs.Prelude.{◌&&◌, ◌||◌, IfSome}
use Rattle.tsdb_base.specs.declared.ids.FileNumber.{FileNumber}
use Rattle.tsdb_core.specs.Loans.{AreRightsKept, LentRight, all_lent, lent_numbers}
use Rattle.tsdb_fileset.proofs.StateSweeps.{of_those_that_stay}
use Rattle.tsdb_fileset.proofs.Counts.{counted}
use Rattle.tsdb_fileset.specs.Files.{KeptFiles, kept_file, outgoing_numbers}
use Rattle.tsdb_fileset.specs.Places.{KeptFile, Places, file_at, is_one_of, place_of_number}
use Rattle.tsdb_fileset.specs.Sweeps.{LeavesWithout, free_numbers, has_no_right, is_free, is_that}
use Rattle.tsdb_fileset.specs.declared.files.Outgoing.{Outgoing}
use Rattle.tsdb_base.proofs.Lists.{among_left, among_map, among_right, any_among, count_append, each_among, each_append}
use Rattle.tsdb_base.proofs.Lists.{each_from_among, each_weaker, with_one_each}
use Rattle.tsdb_base.specs.Lists.{Among, IsWithOne, count}
use Rattle.tsdb_tasks.specs.Changes.{fewer_rights, more_rights}
use Rattle.tsdb_state.proofs.Numbering.{count_with_one}

-- the file of the right is kept under its name
abbrev pub IsNamedIn : KeptFiles → LentRight → Type 0
IsNamedIn files right = IsSomeAnd (kept_file right.number files) (λ file. right.name ≡ file.name)

-- the file that was kept is one with the same name
pub record KeepsName (old new : Option KeptFile) : Type 0 where
  pub change : KeptFile → KeptFile
  pub is : new ≡ option_map change old
  pub name : (file : KeptFile) → (change file).name ≡ file.name

same_file : (o : Option KeptFile) → o ≡ option_map (λ (file : KeptFile). file) o
same_file None = refl
same_file (Some file) = refl

-- a file that stays as it was
pub name_same : (old new : Option KeptFile) → new ≡ old → KeepsName old new
name_same old new same = record { change = λ file. file; is = same ∙ same_file old; name = λ file. refl }

named_keeps : (right : LentRight) (a b : Option KeptFile) → KeepsName a b
    → IsSomeAnd a (λ file. right.name ≡ file.name) → IsSomeAnd b (λ file. right.name ≡ file.name)
named_keeps right a b keeps is =
    subst (λ o. IsSomeAnd o (λ (file : KeptFile). right.name ≡ file.name)) (sym keeps.is) (by a is)
  where
    by : (o : Option KeptFile) → IsSomeAnd o (λ file. right.name ≡ file.name)
        → IsSomeAnd (option_map keeps.change o) (λ file. right.name ≡ file.name)
    by None is = is
    by (Some file) is = is ∙ sym (keeps.name file)

-- how many rights a file counts that has changed
counted_changed : (k l : ℕ) (change : KeptFile → KeptFile) (a b : Option KeptFile) → b ≡ option_map change a
    → ((file : KeptFile) → file.rights ≡ k → (change file).rights ≡ l) → IfSome a (λ file. file.rights ≡ k)
    → IfSome b (λ file. file.rights ≡ l)
counted_changed k l change a b is counts all =
    subst (λ o. IfSome o (λ (file : KeptFile). file.rights ≡ l)) (sym is) (by a all)
  where
    by : (o : Option KeptFile) → IfSome o (λ file. file.rights ≡ k)
        → IfSome (option_map change o) (λ file. file.rights ≡ l)
    by None all = tt
    by (Some file) all = counts file all

pub is_counted : (n : ℕ) (numbers : List ℕ) → Among n numbers → 1 ≤ count n numbers
is_counted n numbers among = counted n numbers (any_among (nat_eq n) numbers n among (eq-eqb n n refl))

-- some of the rights that were out go on to be
pub rights_pass : (old new : KeptFiles) (rights others : List LentRight)
    → ((right : LentRight) → Among right others → Among right rights)
    → ((n : ℕ) → 1 ≤ count n (lent_numbers others) → KeepsName (kept_file n old) (kept_file n new))
    → ((n : ℕ) → IfSome (kept_file n new) (λ file. file.rights ≡ count n (lent_numbers others)))
    → AreRightsKept old rights → AreRightsKept new others
rights_pass old new rights others sub names counts kept = record {
  named = each_from_among (IsNamedIn new) others (λ right among. named_keeps right (kept_file right.number old)
      (kept_file right.number new)
      (names right.number (is_counted right.number (lent_numbers others)
      (among_map (λ (r : LentRight). r.number) others right among)))
      (each_among (IsNamedIn old) rights right kept.named (sub right among)));
  counted = counts;
}

-- the same files are kept
pub rights_same : (old new : KeptFiles) (rights : List LentRight)
    → ((n : ℕ) → kept_file n new ≡ kept_file n old) → AreRightsKept old rights → AreRightsKept new rights
rights_same old new rights found kept = rights_pass old new rights rights (λ right among. among)
    (λ n some. name_same (kept_file n old) (kept_file n new) (found n))
    (λ n. subst (λ o. IfSome o (λ (file : KeptFile). file.rights ≡ count n (lent_numbers rights))) (sym (found n))
    (kept.counted n)) kept

-- no right is out on a number without a file
pub none_on : (files : KeptFiles) (n : ℕ) → kept_file n files ≡ None → (rights : List LentRight)
    → Each (IsNamedIn files) rights → count n (lent_numbers rights) ≡ 0
none_on files n none [] named = refl
none_on files n none (right ∷ rights) named = by (right.number == n) refl (none_on files n none rights named.1)
  where
    nothing : IsSomeAnd (kept_file n files) (λ file. right.name ≡ file.name) → ⊥
    nothing is = subst (λ o. IsSomeAnd o (λ (file : KeptFile). right.name ≡ file.name)) none is

    by : (b : Bool) → (right.number == n) ≡ b → count n (lent_numbers rights) ≡ 0
        → count n (lent_numbers (right ∷ rights)) ≡ 0
    by true same rest = absurd (nothing (subst (λ m. IsSomeAnd (kept_file m files)
        (λ (file : KeptFile). right.name ≡ file.name)) ((unsigned_Decides right.number n).0 same) named.0))
    by false other rest = omega (arith, rest, ap {B = ℕ} (λ t. cond t 1 0) other)

pub no_right_on : (files : KeptFiles) (rights : List LentRight) → AreRightsKept files rights → (n : ℕ)
    → kept_file n files ≡ None → 1 ≤ count n (lent_numbers rights) → ⊥
no_right_on files rights kept n none some = omega (arith, some, none_on files n none rights kept.named)

-- rights were given out
pub rights_taken : (old new : KeptFiles) (mine rights : List LentRight)
    → ((n : ℕ) → kept_file n new ≡ option_map (more_rights (count n (lent_numbers mine))) (kept_file n old))
    → Each (IsNamedIn old) mine → AreRightsKept old rights → AreRightsKept new (mine ++ rights)
rights_taken old new mine rights found named kept = record {
  named = each_append (IsNamedIn new) mine rights
      (each_weaker (IsNamedIn old) (IsNamedIn new) on mine named)
      (each_weaker (IsNamedIn old) (IsNamedIn new) on rights kept.named);
  counted = λ n. counted_changed (count n (lent_numbers rights)) (count n (lent_numbers (mine ++ rights)))
      (more_rights (count n (lent_numbers mine))) (kept_file n old) (kept_file n new) (found n)
      (λ file counts. omega (
        arith,
        counts,
        ap (count n) (map-append (λ (r : LentRight). r.number) mine rights),
        count_append n (lent_numbers mine) (lent_numbers rights),
      )) (kept.counted n);
}
  where
    on : (right : LentRight) → IsNamedIn old right → IsNamedIn new right
    on right is = named_keeps right (kept_file right.number old) (kept_file right.number new) (record {
      change = more_rights (count right.number (lent_numbers mine));
      is = found right.number;
      name = λ file. refl;
    }) is

-- ---- the rights of several jobs and pins

numbers_all : (lent : List (List LentRight)) → lent_numbers (all_lent lent) ≡ flat_map lent_numbers lent
numbers_all [] = refl
numbers_all (rights ∷ lent) = map-append (λ (r : LentRight). r.number) rights (all_lent lent)
    ∙ ap (λ ns. lent_numbers rights ++ ns) (numbers_all lent)

-- the rights of one, and those of the others
counts_parted : (n : ℕ) (mine : List LentRight) (others lent : List (List LentRight)) → IsWithOne mine others lent
    → count n (lent_numbers (all_lent lent)) ≡ count n (lent_numbers mine) + count n (lent_numbers (all_lent others))
counts_parted n mine others lent out = omega (
  arith,
  ap (count n) (numbers_all lent),
  ap (count n) (numbers_all others),
  count_with_one lent_numbers n mine others lent out,
)

-- where it holds of each of a list's lists, it holds of all rights
each_lent : (P : LentRight → Type 0) (lent : List (List LentRight)) → Each (λ rights. Each P rights) lent
    → Each P (all_lent lent)
each_lent P [] all = tt
each_lent P (rights ∷ lent) all = each_append P rights (all_lent lent) all.0 (each_lent P lent all.1)

of_lent : (P : LentRight → Type 0) (lent : List (List LentRight)) → Each P (all_lent lent)
    → Each (λ rights. Each P rights) lent
of_lent P [] all = tt
of_lent P (rights ∷ lent) all = (
  each_from_among P rights (λ right among. each_among P (all_lent (rights ∷ lent)) right all
      (among_left rights (all_lent lent) right among)),
  of_lent P lent (each_from_among P (all_lent lent) (λ right among. each_among P (all_lent (rights ∷ lent)) right all
      (among_right rights (all_lent lent) right among))),
)

-- the rights of each job and pin are among all
pub lent_of : (mine : List LentRight) (lent : List (List LentRight)) → Among mine lent
    → Each (λ right. Among right (all_lent lent)) mine
lent_of mine lent among =
    let P : LentRight → Type 0 = λ right. Among right (all_lent lent) in
    each_among (λ rights. Each P rights) lent mine
    (of_lent P lent (each_from_among P (all_lent lent) (λ right is. is))) among

-- what holds of all rights holds of those of each job and pin
pub named_of : (files : KeptFiles) (mine : List LentRight) (lent : List (List LentRight)) → Among mine lent
    → AreRightsKept files (all_lent lent) → Each (IsNamedIn files) mine
named_of files mine lent among kept = each_among (λ rights. Each (IsNamedIn files) rights) lent mine
    (of_lent (IsNamedIn files) lent kept.named) among

-- The rights of one are given back: each file with another right keeps its name.
pub rights_given : (old new : KeptFiles) (mine : List LentRight) (others lent : List (List LentRight))
    → IsWithOne mine others lent
    → ((n : ℕ) → 1 ≤ count n (lent_numbers (all_lent lent))
    → kept_file n new ≡ option_map (fewer_rights (count n (lent_numbers mine))) (kept_file n old))
    → ((n : ℕ) → IfSome (kept_file n new) (λ file. file.rights ≡ count n (lent_numbers (all_lent others))))
    → AreRightsKept old (all_lent lent) → AreRightsKept new (all_lent others)
rights_given old new mine others lent out found counts kept =
    rights_pass old new (all_lent lent) (all_lent others) sub names counts kept
  where
    sub : (right : LentRight) → Among right (all_lent others) → Among right (all_lent lent)
    sub right = each_among (λ r. Among r (all_lent lent)) (all_lent others) right
        (each_lent (λ r. Among r (all_lent lent)) others
        (with_one_each (λ rights. Each (λ r. Among r (all_lent lent)) rights) mine others lent out
        (of_lent (λ r. Among r (all_lent lent)) lent
        (each_from_among (λ r. Among r (all_lent lent)) (all_lent lent) (λ r among. among)))))

    names : (n : ℕ) → 1 ≤ count n (lent_numbers (all_lent others)) → KeepsName (kept_file n old) (kept_file n new)
    names n some = record {
      change = fewer_rights (count n (lent_numbers mine));
      is = found n (omega (arith, some, counts_parted n mine others lent out));
      name = λ file. refl;
    }

-- and it counts as many fewer
pub fewer_counted : (old new : KeptFiles) (mine : List LentRight) (others lent : List (List LentRight))
    → IsWithOne mine others lent → AreRightsKept old (all_lent lent) → (n : ℕ)
    → kept_file n new ≡ option_map (fewer_rights (count n (lent_numbers mine))) (kept_file n old)
    → IfSome (kept_file n new) (λ file. file.rights ≡ count n (lent_numbers (all_lent others)))
fewer_counted old new mine others lent out kept n found = counted_changed (count n (lent_numbers (all_lent lent)))
    (count n (lent_numbers (all_lent others))) (fewer_rights (count n (lent_numbers mine))) (kept_file n old)
    (kept_file n new) found (λ file counts. omega (arith, counts, counts_parted n mine others lent out))
    (kept.counted n)

-- no right is out on a number without a file, of one job or pin as of all
pub none_of_others : (files : KeptFiles) (mine : List LentRight) (others lent : List (List LentRight))
    → IsWithOne mine others lent → AreRightsKept files (all_lent lent) → (n : ℕ) → kept_file n files ≡ None
    → 0 ≡ count n (lent_numbers (all_lent others))
none_of_others files mine others lent out kept n none =
    omega (arith, none_on files n none (all_lent lent) kept.named, counts_parted n mine others lent out)

-- ---- a sweep

first_of : (a b : Bool) → (a && b) ≡ true → a ≡ true
first_of true b both = refl
first_of false b both = absurd (false≢true both)

-- a number that may go is one of which no right is out
free_unread : (doubted : List (Option FileNumber)) (places : Places) (part : List Outgoing) (n : ℕ)
    → list_any (nat_eq n) (free_numbers doubted places part) ≡ true
    → has_no_right (file_at (place_of_number n places)) ≡ true
free_unread doubted places [] n found = absurd (false≢true found)
free_unread doubted places (file ∷ part) n found =
    by (λ rest. free_unread doubted places part n rest) (is_free doubted places file) refl found
  where
    Goal : Type 0
    Goal = has_no_right (file_at (place_of_number n places)) ≡ true

    at : (list_any (nat_eq n) (free_numbers doubted places part) ≡ true → Goal) → is_free doubted places file ≡ true
        → (t : Bool) → nat_eq n file.number.0 ≡ t
        → (t || list_any (nat_eq n) (free_numbers doubted places part)) ≡ true → Goal
    at next free true same found = subst (λ m. has_no_right (file_at (place_of_number m places)) ≡ true)
        (sym (eqb-true n file.number.0 same)) (first_of (has_no_right (file_at (place_of_number file.number.0 places)))
        (not (list_any (is_that file.number.0) doubted)) free)
    at next free false other found = next found

    by : (list_any (nat_eq n) (free_numbers doubted places part) ≡ true → Goal) → (b : Bool)
        → is_free doubted places file ≡ b → list_any (nat_eq n) (outgoing_numbers
        (cond b (file ∷ filter (is_free doubted places) part) (filter (is_free doubted places) part))) ≡ true → Goal
    by next true free found = at next free (nat_eq n file.number.0) refl found
    by next false free found = next found

pub rights_swept : (old new : KeptFiles) (doubted : List (Option FileNumber)) (part : List Outgoing)
    (rights : List LentRight) → LeavesWithout (free_numbers doubted old.places part) old new
    → AreRightsKept old rights → AreRightsKept new rights
rights_swept old new doubted part rights leaves kept =
    rights_pass old new rights rights (λ right among. among) (λ n some. name_same (kept_file n old) (kept_file n new)
    (ap file_at (leaves.places n ∙ stays n some)))
    (of_those_that_stay (λ n file. file.rights ≡ count n (lent_numbers rights))
    (free_numbers doubted old.places part) old.places new.places leaves.places kept.counted) kept
  where
    read : (n : ℕ) (o : Option KeptFile) → 1 ≤ count n (lent_numbers rights)
        → IfSome o (λ file. file.rights ≡ count n (lent_numbers rights)) → has_no_right o ≡ true → ⊥
    read n None some fits free = false≢true free
    read n (Some file) some fits free = omega (arith, some, fits, eqb-true file.rights 0 free)

    stays : (n : ℕ) → 1 ≤ count n (lent_numbers rights)
        → cond (is_one_of (free_numbers doubted old.places part) n) None (place_of_number n old.places)
        ≡ place_of_number n old.places
    stays n some = by (is_one_of (free_numbers doubted old.places part) n) refl
      where
        by : (b : Bool) → is_one_of (free_numbers doubted old.places part) n ≡ b
            → cond b None (place_of_number n old.places) ≡ place_of_number n old.places
        by true gone = absurd (read n (kept_file n old) some (kept.counted n)
            (free_unread doubted old.places part n gone))
        by false rest = refl
