-- What rights that are given out one after another, and then taken back, leave of kept files.
use Rattle.std.proofs.Common.{◌≡◌, ◌≢◌, ℕ, ◌+◌, ◌-◌, ◌==◌, Bool, true, false, cond, List, [], ◌∷◌, ◌++◌}
use Rattle.std.proofs.Common.{Option, Some, None, refl, sym, ap, subst, ◌∙◌, arith}
use Rattle.std.specs.Option.{option_map}
use Rattle.std.proofs.lemmas.Bool.Decides.{nat_tests}
use Rattle.tsdb_fileset.specs.Files.{KeepsLists, KeptFiles, kept_file}
use Rattle.tsdb_fileset.specs.Places.{KeptFile, OthersStay, file_at, place_of_number}
use Rattle.tsdb_fileset.specs.Rights.{HasChanged, IsRightTo, one_less, one_more}
use Rattle.tsdb_base.proofs.Lists.{count_append}
use Rattle.tsdb_base.specs.Lists.{count}
use Rattle.tsdb_outside.specs.Files.{NamedFile}
use Rattle.tsdb_pin.specs.Changes.{ChangesFiles, GivesRights, ChangesNoFile, TakesRights, fewer_rights, more_rights}

abbrev Place : Type 0
Place = Option (Option KeptFile)

abbrev at_place : (KeptFile → KeptFile) → Place → Place
at_place f place = option_map (λ file. option_map f file) place

-- a file with other rights
abbrev with_count : KeptFile → ℕ → KeptFile
with_count file rights = record file { rights = rights }

same_at : (f : KeptFile → KeptFile) → ((file : KeptFile) → f file ≡ file) → (place : Place) → at_place f place ≡ place
same_at f same None = refl
same_at f same (Some None) = refl
same_at f same (Some (Some file)) = ap (λ (x : KeptFile). Some (Some x)) (same file)

both_at : (f g h : KeptFile → KeptFile) → ((file : KeptFile) → g (f file) ≡ h file) → (place : Place)
    → at_place g (at_place f place) ≡ at_place h place
both_at f g h both None = refl
both_at f g h both (Some None) = refl
both_at f g h both (Some (Some file)) = ap (λ (x : KeptFile). Some (Some x)) (both file)

-- one change after another
pub changed_twice : (f g h : ℕ → KeptFile → KeptFile) (a b c : KeptFiles)
    → ((n : ℕ) (file : KeptFile) → g n (f n file) ≡ h n file)
    → ChangesFiles f a b → ChangesFiles g b c → ChangesFiles h a c
changed_twice f g h a b c both first second = record {
  places = λ n. second.places n ∙ ap (at_place (g n)) (first.places n) ∙ both_at (f n) (g n) (h n) (both n) (place_of_number n a.places);
  lists = record {
    store = second.lists.store ∙ first.lists.store;
    sequence = second.lists.sequence ∙ first.lists.sequence;
    unsequence = second.lists.unsequence ∙ first.lists.unsequence;
    outgoing = second.lists.outgoing ∙ first.lists.outgoing;
  };
  room = second.room ∙ first.room;
}

-- the same change, said otherwise
pub changed_as : (f g : ℕ → KeptFile → KeptFile) (a b : KeptFiles) → ((n : ℕ) (file : KeptFile) → f n file ≡ g n file)
    → ChangesFiles f a b → ChangesFiles g a b
changed_as f g a b same change = record {
  places = λ n. change.places n ∙ as_at (f n) (g n) (same n) (place_of_number n a.places);
  lists = change.lists;
  room = change.room;
}
  where
    as_at : (f g : KeptFile → KeptFile) → ((file : KeptFile) → f file ≡ g file) → (place : Place)
        → at_place f place ≡ at_place g place
    as_at f g same None = refl
    as_at f g same (Some None) = refl
    as_at f g same (Some (Some file)) = ap (λ (x : KeptFile). Some (Some x)) (same file)

pub same_lists : (a : KeptFiles) → KeepsLists a a
same_lists a = record { store = refl; sequence = refl; unsequence = refl; outgoing = refl }

pub nothing_changed : (a : KeptFiles) → ChangesNoFile a a
nothing_changed a = record {
  places = λ n. sym (same_at (λ file. file) (λ file. refl) (place_of_number n a.places));
  lists = same_lists a;
  room = refl;
}

-- rights on no file are nothing
none_more : (n : ℕ) (file : KeptFile) → file ≡ more_rights (count n []) file
none_more n file = ap (with_count file) none
  where
    none : file.rights ≡ file.rights + 0
    none = omega arith

none_fewer : (n : ℕ) (file : KeptFile) → file ≡ fewer_rights (count n []) file
none_fewer n file = ap (with_count file) none
  where
    none : file.rights ≡ file.rights - 0
    none = omega arith

pub takes_none : (a b : KeptFiles) → ChangesNoFile a b → TakesRights [] a b
takes_none a b keeps = changed_as (λ n file. file) (λ n. more_rights (count n [])) a b none_more keeps

pub gives_none : (a b : KeptFiles) → ChangesNoFile a b → GivesRights [] a b
gives_none a b keeps = changed_as (λ n file. file) (λ n. fewer_rights (count n [])) a b none_fewer keeps

-- rights on some files, and then on others
pub takes_then : (xs ys : List ℕ) (a b c : KeptFiles) → TakesRights xs a b → TakesRights ys b c
    → TakesRights (xs ++ ys) a c
takes_then xs ys a b c first second = changed_twice (λ n. more_rights (count n xs)) (λ n. more_rights (count n ys))
    (λ n. more_rights (count n (xs ++ ys))) a b c both first second
  where
    both : (n : ℕ) (file : KeptFile)
        → more_rights (count n ys) (more_rights (count n xs) file) ≡ more_rights (count n (xs ++ ys)) file
    both n file = ap (with_count file) (sum file.rights (count n xs) (count n ys) (count n (xs ++ ys)) (count_append n xs ys))
      where
        sum : (r x y z : ℕ) → z ≡ x + y → r + x + y ≡ r + z
        sum r x y z e = omega (arith, e)

pub gives_then : (xs ys zs : List ℕ) (a b c : KeptFiles) → ((n : ℕ) → count n zs ≡ count n xs + count n ys)
    → GivesRights xs a b → GivesRights ys b c → GivesRights zs a c
gives_then xs ys zs a b c counts first second =
    changed_twice (λ n. fewer_rights (count n xs)) (λ n. fewer_rights (count n ys))
    (λ n. fewer_rights (count n zs)) a b c both first second
  where
    both : (n : ℕ) (file : KeptFile)
        → fewer_rights (count n ys) (fewer_rights (count n xs) file) ≡ fewer_rights (count n zs) file
    both n file = ap (with_count file) (sum file.rights (count n xs) (count n ys) (count n zs) (counts n))
      where
        sum : (r x y z : ℕ) → z ≡ x + y → r - x - y ≡ r - z
        sum r x y z e = omega (arith, e)

-- rights that are given back leave what was before they were taken
pub given_back : (xs : List ℕ) (a b c : KeptFiles) → TakesRights xs a b → GivesRights xs b c → ChangesNoFile a c
given_back xs a b c first second =
    changed_twice (λ n. more_rights (count n xs)) (λ n. fewer_rights (count n xs)) (λ n file. file) a b c both first second
  where
    both : (n : ℕ) (file : KeptFile) → fewer_rights (count n xs) (more_rights (count n xs) file) ≡ file
    both n file = ap (with_count file) (back file.rights (count n xs))
      where
        back : (r x : ℕ) → r + x - x ≡ r
        back r x = omega arith

-- ---- one right

is_same : (m n : ℕ) → (n == m) ≡ true → n ≡ m
is_same m n e = grind (arith, nat_tests)

is_other : (m n : ℕ) → (n == m) ≡ false → n ≢ m
is_other m n e same = differ (grind (arith, nat_tests))
  where
    differ : true ≡ false → ⊥
    differ e = cc

-- the file of a number has become another, and all else stays
one_changed : (f : KeptFile → KeptFile) (g : ℕ → KeptFile → KeptFile) (n : ℕ) (a b : KeptFiles)
    → ((file : KeptFile) → f file ≡ g (cond true 1 0 + 0) file) → ((file : KeptFile) → file ≡ g (cond false 1 0 + 0) file)
    → HasChanged f n a.places b.places → OthersStay n a.places b.places → KeepsLists a b → b.spare ≡ a.spare
    → ChangesFiles (λ m. g (count m (n ∷ []))) a b
one_changed f g n a b here there changed others lists room = record {
  places = λ m. by m (n == m) refl;
  lists = lists;
  room = room;
}
  where
    as_at : (f g : KeptFile → KeptFile) → ((file : KeptFile) → f file ≡ g file) → (place : Place)
        → at_place f place ≡ at_place g place
    as_at f g same None = refl
    as_at f g same (Some None) = refl
    as_at f g same (Some (Some file)) = ap (λ (x : KeptFile). Some (Some x)) (same file)

    by : (m : ℕ) (t : Bool) → (n == m) ≡ t
        → place_of_number m b.places ≡ at_place (g (cond (n == m) 1 0 + 0)) (place_of_number m a.places)
    by m true e = subst (λ k. place_of_number k b.places ≡ at_place (g (cond (n == m) 1 0 + 0)) (place_of_number k a.places))
        (is_same m n e)
        (subst (λ t. place_of_number n b.places ≡ at_place (g (cond t 1 0 + 0)) (place_of_number n a.places)) (sym e)
        (changed ∙ as_at f (g (cond true 1 0 + 0)) here (place_of_number n a.places)))
    by m false e = subst (λ t. place_of_number m b.places ≡ at_place (g (cond t 1 0 + 0)) (place_of_number m a.places)) (sym e)
        (others m (is_other m n e) ∙ sym (same_at (g (cond false 1 0 + 0)) (λ file. sym (there file)) (place_of_number m a.places)))

pub takes_one : (n : ℕ) (a b : KeptFiles) → HasChanged one_more n a.places b.places → OthersStay n a.places b.places
    → KeepsLists a b → b.spare ≡ a.spare → TakesRights (n ∷ []) a b
takes_one n a b changed others lists room =
    one_changed one_more more_rights n a b (λ file. refl) (none_more n) changed others lists room

pub gives_one : (n : ℕ) (a b : KeptFiles) → HasChanged one_less n a.places b.places → OthersStay n a.places b.places
    → KeepsLists a b → b.spare ≡ a.spare → GivesRights (n ∷ []) a b
gives_one n a b changed others lists room =
    one_changed one_less fewer_rights n a b (λ file. refl) (none_fewer n) changed others lists room

-- no file is kept under the number, so nothing has changed
no_file : (f : KeptFile → KeptFile) (place : Place) → file_at place ≡ None → at_place f place ≡ place
no_file f None e = refl
no_file f (Some None) e = refl
no_file f (Some (Some file)) e = cc

-- nothing has changed at the number, and so nowhere
pub same_there : (n : ℕ) (a b : KeptFiles) → place_of_number n b.places ≡ place_of_number n a.places → OthersStay n a.places b.places
    → KeepsLists a b → b.spare ≡ a.spare → ChangesNoFile a b
same_there n a b same others lists room = record {
  places = λ m. by m (n == m) refl ∙ sym (same_at (λ file. file) (λ file. refl) (place_of_number m a.places));
  lists = lists;
  room = room;
}
  where
    by : (m : ℕ) (t : Bool) → (n == m) ≡ t → place_of_number m b.places ≡ place_of_number m a.places
    by m true e = subst (λ k. place_of_number k b.places ≡ place_of_number k a.places) (is_same m n e) same
    by m false e = others m (is_other m n e)

pub none_shared : (n : ℕ) (a b : KeptFiles) → kept_file n a ≡ None → HasChanged one_more n a.places b.places
    → OthersStay n a.places b.places → KeepsLists a b → b.spare ≡ a.spare → ChangesNoFile a b
none_shared n a b none changed others lists room =
    same_there n a b (changed ∙ no_file one_more (place_of_number n a.places) none) others lists room

-- ---- files that keep their names and series

-- whatever the number is, the change leaves what a file is
pub record LeavesNames (change : ℕ → KeptFile → KeptFile) : Type 0 where
  pub name : (n : ℕ) (file : KeptFile) → (change n file).name ≡ file.name
  pub series : (n : ℕ) (file : KeptFile) → (change n file).series ≡ file.series

pub takes_names : (xs : List ℕ) → LeavesNames (λ n. more_rights (count n xs))
takes_names xs = record { name = λ n file. refl; series = λ n file. refl }

pub gives_names : (xs : List ℕ) → LeavesNames (λ n. fewer_rights (count n xs))
gives_names xs = record { name = λ n file. refl; series = λ n file. refl }

file_of : (f : KeptFile → KeptFile) (place : Place) → file_at (at_place f place) ≡ option_map f (file_at place)
file_of f None = refl
file_of f (Some place) = refl

pub kept_changed : (change : ℕ → KeptFile → KeptFile) (a b : KeptFiles) → ChangesFiles change a b → (n : ℕ)
    → kept_file n b ≡ option_map (change n) (kept_file n a)
kept_changed change a b changes n = ap file_at (changes.places n) ∙ file_of (change n) (place_of_number n a.places)

module _ {R : Type 0} (name : R → NamedFile) where
  right_on : (f : KeptFile → KeptFile) → ((file : KeptFile) → (f file).name ≡ file.name) → (o : Option KeptFile) (r : R)
      → IsRightTo name o (Some r) → IsRightTo name (option_map f o) (Some r)
  right_on f same None r h = h
  right_on f same (Some file) r h = h ∙ sym (same file)

  right_off : (f : KeptFile → KeptFile) → ((file : KeptFile) → (f file).name ≡ file.name) → (o : Option KeptFile) (r : R)
      → IsRightTo name (option_map f o) (Some r) → IsRightTo name o (Some r)
  right_off f same None r h = h
  right_off f same (Some file) r h = h ∙ same file

  pub right_stays : (change : ℕ → KeptFile → KeptFile) → LeavesNames change → (a b : KeptFiles)
      → ChangesFiles change a b → (n : ℕ) (r : R) → IsRightTo name (kept_file n a) (Some r)
      → IsRightTo name (kept_file n b) (Some r)
  right_stays change leaves a b changes n r h = subst (λ o. IsRightTo name o (Some r))
      (sym (kept_changed change a b changes n)) (right_on (change n) (leaves.name n) (kept_file n a) r h)

  pub right_was : (change : ℕ → KeptFile → KeptFile) → LeavesNames change → (a b : KeptFiles)
      → ChangesFiles change a b → (n : ℕ) (r : R) → IsRightTo name (kept_file n b) (Some r)
      → IsRightTo name (kept_file n a) (Some r)
  right_was change leaves a b changes n r h = right_off (change n) (leaves.name n) (kept_file n a) r
      (subst (λ o. IsRightTo name o (Some r)) (kept_changed change a b changes n) h)
