-- What the calls on a directory do, one after another: a file that is created, written and synced stands durable behind
-- the others, and a file that could not be stored is taken away.
use Rattle.std.proofs.Common.{◌≡◌, ◌⊎◌, ℕ, zero, suc, ◌≤◌, true, false, List, [], ◌∷◌, map, nat_eq, refl, sym, ap, ◌∙◌}
use Rattle.std.proofs.Common.{subst, arith, inl, inr, ⊎_elim}
use Rattle.std.proofs.lemmas.Bool.{false≢true}
use Rattle.tsdb_outside.specs.Files.{IsFileNumber}
use Rattle.std.specs.Prelude.{◌↔◌, Contains, Some, None, IfSome, Result, Ok, Err, IfOk, OnOk, OnErr}
use Rattle.tsdb_base.specs.Causes.{Rose}
use Rattle.tsdb_outside.specs.Causes.{HasCause}
use Rattle.std.specs.Option.{IsSomeAnd}
use Rattle.std.specs.declared.option.Option.{Option}
use Rattle.fs_outside.specs.Directory.{DirectoryFile, with_bytes, with_synced_bytes, with_synced_name, directory_numbers}
use Rattle.fs_outside.specs.Directory.{IsFree, IsFreeIn, change_one, add_new, without, put_durable, Becomes, Fills}
use Rattle.fs_outside.specs.Directory.{SameBut, IsTakenAway, StaysTaken, RoseTwice, HasBytesOf, HasLengthOf}

Contains-head : {X : Type 0} (x : X) (xs : List X) → Contains (x ∷ xs) x
Contains-head x xs = (0, omega arith, refl)

Contains-cases : {X : Type 0} (x y : X) (xs : List X) → Contains (x ∷ xs) y → (x ≡ y) ⊎ Contains xs y
Contains-cases x y xs (zero, l, e) = inl e
Contains-cases x y xs (suc k, l, e) = inr (k, omega arith, e)

Contains-tail : {X : Type 0} (x y : X) (xs : List X) → Contains xs y → Contains (x ∷ xs) y
Contains-tail x y xs (k, l, e) = (suc k, omega arith, e)

same_number : (n : ℕ) → nat_eq n n ≡ true
same_number n = grind arith

other_number : (m n : ℕ) → (m ≡ n → ⊥) → nat_eq m n ≡ false
other_number m n apart = grind (arith, apart)

-- all steps on the files that are there
abbrev steps : ℕ → List ℕ → List DirectoryFile → List DirectoryFile
steps n bytes files = map with_synced_name (change_one n with_synced_bytes (change_one n (with_bytes bytes) files))

steps_at_end : (n : ℕ) (bytes : List ℕ) (files : List DirectoryFile) → IsFree n files
    → steps n bytes (add_new n files) ≡ put_durable n bytes files
steps_at_end n bytes [] free = rw (same_number n) (rw (same_number n) refl)
steps_at_end n bytes (file ∷ files) free =
    let apart : nat_eq file.number n ≡ false = other_number file.number n
    (λ e. free (subst (λ (m : ℕ). Contains (directory_numbers (file ∷ files)) m) e (Contains-head file.number (directory_numbers files)))) in
    let rest = steps_at_end n bytes files (λ h. free (Contains-tail file.number n (directory_numbers files) h)) in
    rw apart (rw apart (ap (λ (l : List DirectoryFile). with_synced_name file ∷ l) rest))

-- a new file that is filled stands durable behind the others
pub put_is_durable : (n made : ℕ) (bytes : List ℕ) (a b c : Option (List DirectoryFile)) → made ≡ n
    → IsFreeIn n a → Becomes (add_new n) a b → Fills made bytes b c → Becomes (put_durable n bytes) a c
put_is_durable n made bytes None b c same free created filled = tt
put_is_durable n made bytes (Some files) b c same free created filled =
    let filled_n : Fills n bytes b c = subst (λ (m : ℕ). Fills m bytes b c) same filled in
    subst (λ (o : Option (List DirectoryFile)). Fills n bytes o c) created filled_n
    ∙ ap (λ (l : List DirectoryFile). Some l) (steps_at_end n bytes files free)

apart_of : (m n : ℕ) → nat_eq m n ≡ false → m ≡ n → ⊥
apart_of m n e same =
    let here : nat_eq n n ≡ false = subst (λ (k : ℕ). nat_eq k n ≡ false) same e in
    false≢true (sym here ∙ same_number n)

-- what a change of one file leaves of the others
without_change : (n : ℕ) (f : DirectoryFile → DirectoryFile) → ((x : DirectoryFile) → (f x).number ≡ x.number)
    → (xs : List DirectoryFile) → without n (change_one n f xs) ≡ without n xs
without_change n f keeps [] = refl
without_change n f keeps (x ∷ xs) =
    let rest = without_change n f keeps xs in
    elim (nat_eq x.number n) as (λ b. nat_eq x.number n ≡ b → without n (change_one n f (x ∷ xs)) ≡ without n (x ∷ xs)) [
      | true ↦ λ e.
          let mine : nat_eq (f x).number n ≡ true = ap (λ (m : ℕ). nat_eq m n) (keeps x) ∙ e in
          rw e (rw mine rest)
      | false ↦ λ e. rw e (rw e (ap (λ (l : List DirectoryFile). x ∷ l) rest))
    ] refl

without_new : (n : ℕ) (xs : List DirectoryFile) → without n (add_new n xs) ≡ without n xs
without_new n [] = rw (same_number n) refl
without_new n (x ∷ xs) =
    let rest = without_new n xs in
    elim (nat_eq x.number n) as (λ b. nat_eq x.number n ≡ b → without n (add_new n (x ∷ xs)) ≡ without n (x ∷ xs)) [
      | true ↦ λ e. rw e rest
      | false ↦ λ e. rw e (ap (λ (l : List DirectoryFile). x ∷ l) rest)
    ] refl

without_twice : (n : ℕ) (xs : List DirectoryFile) → without n (without n xs) ≡ without n xs
without_twice n [] = refl
without_twice n (x ∷ xs) =
    let rest = without_twice n xs in
    elim (nat_eq x.number n) as (λ b. nat_eq x.number n ≡ b → without n (without n (x ∷ xs)) ≡ without n (x ∷ xs)) [
      | true ↦ λ e. rw e rest
      | false ↦ λ e. rw e (rw e (ap (λ (l : List DirectoryFile). x ∷ l) rest))
    ] refl

free_without : (n : ℕ) (xs : List DirectoryFile) → IsFree n (without n xs)
free_without n [] = λ (k, l, e). omega arith
free_without n (x ∷ xs) =
    let rest = free_without n xs in
    elim (nat_eq x.number n) as (λ b. nat_eq x.number n ≡ b → IsFree n (without n (x ∷ xs))) [
      | true ↦ λ e. rw e rest
      | false ↦ λ e. rw e (λ h. ⊎_elim (apart_of x.number n e) rest (Contains-cases x.number n (directory_numbers (without n xs)) h))
    ] refl

pub same_but_same : (n : ℕ) (a : Option (List DirectoryFile)) → SameBut n a a
same_but_same n None = tt
same_but_same n (Some files) = refl

pub same_but_equal : (n : ℕ) (a b : Option (List DirectoryFile)) → b ≡ a → SameBut n a b
same_but_equal n a b same = subst (λ (o : Option (List DirectoryFile)). SameBut n a o) (sym same) (same_but_same n a)

pub same_but_then : (n : ℕ) (a b c : Option (List DirectoryFile)) → SameBut n a b → SameBut n b c → SameBut n a c
same_but_then n None b c first then = tt
same_but_then n (Some x) None c first then = absurd first
same_but_then n (Some x) (Some y) None first then = absurd then
same_but_then n (Some x) (Some y) (Some z) first then = then ∙ first

becomes_same_but : (n : ℕ) (f : List DirectoryFile → List DirectoryFile) (a b : Option (List DirectoryFile))
    → ((xs : List DirectoryFile) → without n (f xs) ≡ without n xs) → Becomes f a b → SameBut n a b
becomes_same_but n f None b keeps is = tt
becomes_same_but n f (Some files) b keeps is =
    subst (λ (o : Option (List DirectoryFile)). SameBut n (Some files) o) (sym is) (keeps files)

pub same_but_written : (n : ℕ) (bytes : List ℕ) (a b : Option (List DirectoryFile))
    → Becomes (change_one n (with_bytes bytes)) a b → SameBut n a b
same_but_written n bytes a b is =
    becomes_same_but n (change_one n (with_bytes bytes)) a b (without_change n (with_bytes bytes) (λ x. refl)) is

pub same_but_synced : (n : ℕ) (a b : Option (List DirectoryFile))
    → Becomes (change_one n with_synced_bytes) a b → SameBut n a b
same_but_synced n a b is =
    becomes_same_but n (change_one n with_synced_bytes) a b (without_change n with_synced_bytes (λ x. refl)) is

pub same_but_made : (n : ℕ) (a b : Option (List DirectoryFile)) → Becomes (add_new n) a b → SameBut n a b
same_but_made n a b is = becomes_same_but n (add_new n) a b (without_new n) is

pub same_but_gone : (n : ℕ) (a b : Option (List DirectoryFile)) → Becomes (without n) a b → SameBut n a b
same_but_gone n a b is = becomes_same_but n (without n) a b (without_twice n) is

-- a new file was filled in part
pub same_but_filled : (n made : ℕ) (a b c : Option (List DirectoryFile)) → made ≡ n
    → Becomes (add_new n) a b → SameBut made b c → SameBut n a c
same_but_filled n made a b c same created filled =
    same_but_then n a b c (same_but_made n a b created) (subst (λ (m : ℕ). SameBut m b c) same filled)

pub taken_away_same : (n before now : ℕ) (a b : Option (List DirectoryFile)) → b ≡ a → IsTakenAway n a b before now
taken_away_same n before now None b same = tt
taken_away_same n before now (Some files) b same = λ free.
    inl (subst (λ (o : Option (List DirectoryFile)). IsSomeAnd o (IsFree n)) (sym same) free)

-- a file that could not be filled is removed
free_after : (n : ℕ) (files : List DirectoryFile) (b c : Option (List DirectoryFile))
    → SameBut n (Some files) b → Becomes (without n) b c → IsSomeAnd c (IsFree n)
free_after n files None c then gone = absurd then
free_after n files (Some y) c then gone =
    subst (λ (o : Option (List DirectoryFile)). IsSomeAnd o (IsFree n)) (sym gone) (free_without n y)

pub taken_away : (n before now : ℕ) (a b c : Option (List DirectoryFile))
    → SameBut n a b → Becomes (without n) b c ⊎ RoseTwice before now → IsTakenAway n a c before now
taken_away n before now None b c then ends = tt
taken_away n before now (Some files) b c then ends = λ free.
    ⊎_elim (λ gone. inl (free_after n files b c then gone)) (λ rose. inr rose) ends

-- what follows where a call succeeded or failed
pub where_ok : {T E : Type 0} {P Q : Type 0} (r : Result T E) → (P → Q) → OnOk r P → OnOk r Q
where_ok (Ok x) f p = f p
where_ok (Err e) f p = tt

pub where_err : {T E : Type 0} {P Q : Type 0} (r : Result T E) → (P → Q) → OnErr r P → OnErr r Q
where_err (Ok x) f p = tt
where_err (Err e) f p = f p

pub always_on_err : {T E : Type 0} {P : Type 0} (r : Result T E) → P → OnErr r P
always_on_err (Ok x) p = tt
always_on_err (Err e) p = p

-- a file that could not be filled, and its removal
pub others_after_removal : {T E : Type 0} (r : Result T E) (n : ℕ) (a b c : Option (List DirectoryFile))
    → SameBut n a b → OnOk r (Becomes (without n) b c) → OnErr r (SameBut n b c) → SameBut n a c
others_after_removal (Ok x) n a b c then gone still = same_but_then n a b c then (same_but_gone n b c gone)
others_after_removal (Err e) n a b c then gone still = same_but_then n a b c then still

pub away_after_removal : {T E : Type 0} (r : Result T E) (n before made filled now : ℕ) (a b c : Option (List DirectoryFile))
    → SameBut n a b → before ≤ made → Rose made filled → HasCause filled now r → OnOk r (Becomes (without n) b c)
    → IsTakenAway n a c before now
away_after_removal (Ok x) n before made filled now a b c then later rose cause gone = taken_away n before now a b c then (inl gone)
away_after_removal (Err e) n before made filled now a b c then later rose cause gone =
    let again : Rose filled now = cause.failed in
    taken_away n before now a b c then (inr (omega (arith, later, rose, again)))

-- a list of numbers that are those of the files and of what else is there
pub list_is_exact : (told : Option (List DirectoryFile)) (others list numbers : List ℕ)
    → IfSome told (λ files. (n : ℕ) → IsFileNumber n → (Contains numbers n ↔ (Contains (directory_numbers files) n ⊎ Contains others n)))
    → ((n : ℕ) → IsFileNumber n → (Contains list n ↔ Contains numbers n))
    → IfSome told (λ files. (n : ℕ) → IsFileNumber n → (Contains list n ↔ (Contains (directory_numbers files) n ⊎ Contains others n)))
list_is_exact None others list numbers there same = tt
list_is_exact (Some files) others list numbers there same = λ n fits.
    (λ h. (there n fits).0 ((same n fits).0 h), λ h. (same n fits).1 ((there n fits).1 h))

-- what is told goes on to be told behind a call that only counts
pub same_but_still : (n : ℕ) (a b c : Option (List DirectoryFile)) → SameBut n a b → c ≡ b → SameBut n a c
same_but_still n a b c but same = subst (λ (o : Option (List DirectoryFile)). SameBut n a o) (sym same) but

pub stays_taken_still : (n : ℕ) (a b c : Option (List DirectoryFile)) → StaysTaken n a b → c ≡ b → StaysTaken n a c
stays_taken_still n a b c stays same = subst (λ (o : Option (List DirectoryFile)). StaysTaken n a o) (sym same) stays

pub taken_away_still : (n before now last : ℕ) (a b c : Option (List DirectoryFile)) → IsTakenAway n a b before now → c ≡ b → last ≡ now
    → IsTakenAway n a c before last
taken_away_still n before now last a b c away same count =
    subst (λ (m : ℕ). IsTakenAway n a c before m) (sym count)
    (subst (λ (o : Option (List DirectoryFile)). IsTakenAway n a o before now) (sym same) away)

-- a number that was taken, and nothing was made
pub stays_taken_same : (n : ℕ) (a b : Option (List DirectoryFile)) → b ≡ a → StaysTaken n a b
stays_taken_same n None b same = tt
stays_taken_same n (Some files) b same = λ taken. same

pub not_taken : (n : ℕ) (a b : Option (List DirectoryFile)) → IsFreeIn n a → StaysTaken n a b
not_taken n None b free = tt
not_taken n (Some files) b free = λ taken. absurd (taken free)

-- a file is read or measured by its number
pub bytes_read : {T E : Type 0} (r : Result T E) (made n at : ℕ) (into : List ℕ) (a b : Option (List DirectoryFile)) → made ≡ n → b ≡ a
    → OnOk r (HasBytesOf made at into b) → OnOk r (HasBytesOf n at into a)
bytes_read r made n at into a b same told has =
    subst (λ (m : ℕ). OnOk r (HasBytesOf m at into a)) same
    (subst (λ (o : Option (List DirectoryFile)). OnOk r (HasBytesOf made at into o)) told has)

pub length_read : {E : Type 0} (r : Result ℕ E) (made n : ℕ) (a b : Option (List DirectoryFile)) → made ≡ n → b ≡ a
    → IfOk r (λ size. HasLengthOf made size b) → IfOk r (λ size. HasLengthOf n size a)
length_read r made n a b same told has =
    subst (λ (m : ℕ). IfOk r (λ size. HasLengthOf m size a)) same
    (subst (λ (o : Option (List DirectoryFile)). IfOk r (λ size. HasLengthOf made size o)) told has)

-- one call and then another
pub becomes_twice : {X : Type 0} (f g : X → X) (a b c : Option X) → Becomes f a b → Becomes g b c → Becomes (λ x. g (f x)) a c
becomes_twice f g None b c first then = tt
becomes_twice {X} f g (Some x) b c first then = subst (λ (o : Option X). Becomes g o c) first then

-- what a call after the last one that is told of leaves as it was
pub becomes_still : {X : Type 0} (f : X → X) (a b c : Option X) → Becomes f a b → c ≡ b → Becomes f a c
becomes_still f None b c is same = tt
becomes_still f (Some x) b c is same = same ∙ is
