-- The files that are stored at the places of a core: what the kept files tell.
use Rattle.std.proofs.Common.{◌≡◌, ◌≢◌, inl, inr, ℕ, ◌+◌, ◌-◌, ◌<◌, ◌≤◌, Bool, true, false, cond, nat_eq, List, [], ◌∷◌, ◌++◌}
use Rattle.std.proofs.Common.{length, length-append, Option, Some, None, refl, sym, ap, subst, ◌∙◌, arith}
use Rattle.std.proofs.lemmas.Bool.{false≢true}
use Rattle.std.proofs.lemmas.Bool.Decides.{nat_tests}
use Rattle.std.proofs.lemmas.Cmp.{nat_cmp_total, tied_itself}
use Rattle.std.specs.Ordering.{is_eq}
use Rattle.std.specs.List.{AllByRecursion as Each, AllZip, find, flat_map}
use Rattle.std.specs.Option.{option_map}
use Rattle.std.specs.Prelude.{IfSome}
use Rattle.tsdb_flush.specs.StoredEngine.{kept_bytes}
use Rattle.tsdb_fileset.proofs.PlaceFacts.{other_number, same_number}
use Rattle.tsdb_fileset.specs.Closing.{AreNumbersRising, NamesStoredFile, names_at}
use Rattle.tsdb_fileset.specs.Places.{KeptFile, Places, file_at, is_same_number, place_of_number}
use Rattle.tsdb_base.proofs.Lists.{each_append, each_among, each_weaker}
use Rattle.tsdb_base.specs.Lists.{Among, EachPair, if_some}
use Rattle.tsdb_outside.specs.Files.{StoredFile}

stored_in : ℕ → Option (List ℕ) → List StoredFile
stored_in number bytes = if_some (option_map (λ told. record { number = number; bytes = told }) bytes)

stored_place : ℕ × Option KeptFile → List StoredFile
stored_place (number, None) = []
stored_place (number, Some file) = stored_in number file.name.bytes

pub stored_at : Places → List StoredFile
stored_at places = flat_map stored_place places

-- the file at a place tells its bytes, and names its number
abbrev pub IsToldAt : ℕ × Option KeptFile → Type 0
IsToldAt place = IfSome place.1 (λ file. (file.name.number ≡ place.0) × (bytes : List ℕ) × (file.name.bytes ≡ Some bytes))

pub named : (places : Places) → Each IsToldAt places → AllZip NamesStoredFile (names_at places) (stored_at places)
unfolding stored_at stored_place stored_in
named [] told = tt
named ((number, None) ∷ places) told = named places told.1
named ((number, Some file) ∷ places) told = let is = told.0.2 in
    subst (λ (bytes : Option (List ℕ)). AllZip NamesStoredFile (file.name ∷ names_at places)
    (if_some (option_map (λ told. record { number = number; bytes = told }) bytes) ++ stored_at places)) (sym is)
    (record { number = told.0.0; bytes = is }, named places told.1)

-- what holds of each file that is told holds of each stored one
pub each_stored : (P : StoredFile → Type 0) (places : Places)
    → Each (λ (place : ℕ × Option KeptFile). IfSome place.1 (λ file. (bytes : List ℕ) → file.name.bytes ≡ Some bytes
    → P (record { number = place.0; bytes = bytes }))) places → Each P (stored_at places)
unfolding stored_at stored_place stored_in
each_stored P [] all = tt
each_stored P ((number, None) ∷ places) all = each_stored P places all.1
each_stored P ((number, Some file) ∷ places) all =
    each_append P (stored_in number file.name.bytes) (stored_at places) (by file.name.bytes all.0)
    (each_stored P places all.1)
  where
    by : (bytes : Option (List ℕ)) → ((told : List ℕ) → bytes ≡ Some told → P (record { number = number; bytes = told }))
        → Each P (stored_in number bytes)
    by None holds = tt
    by (Some told) holds = (holds told refl, tt)

-- a file of another number does not hide one
passed : (number other : ℕ) (bytes : Option (List ℕ)) (rest : List StoredFile) → nat_eq number other ≡ false
    → kept_bytes (stored_in number bytes ++ rest) other ≡ kept_bytes rest other
unfolding stored_in
passed number other None rest apart = refl
passed number other (Some bytes) rest apart =
    ap (λ b. option_map (λ (file : StoredFile). file.bytes) (cond b (Some (record { number = number; bytes = bytes }))
    (find (λ (file : StoredFile). nat_eq file.number other) rest))) apart

-- a kept file that tells its bytes is stored with them
pub found : (number : ℕ) (places : Places) (file : KeptFile) (bytes : List ℕ)
    → file_at (place_of_number number places) ≡ Some file → file.name.bytes ≡ Some bytes
    → kept_bytes (stored_at places) number ≡ Some bytes
unfolding stored_at stored_place stored_in
found number [] file bytes at told = absurd cc
found number ((other, place) ∷ places) file bytes at told = by (is_same_number number other) refl
    (λ here. found number places file bytes here told) at
  where
    same : (a b : ℕ) → a ≡ b → nat_eq b a ≡ true
    same a b e = grind (arith, nat_tests)

    apart : (a b : ℕ) → (a ≡ b → ⊥) → nat_eq b a ≡ false
    apart a b not = grind (arith, nat_tests)

    first : number ≡ other → place ≡ Some file
        → kept_bytes (stored_place (other, place) ++ stored_at places) number ≡ Some bytes
    first is here =
        ap (λ (p : Option KeptFile). kept_bytes (stored_place (other, p) ++ stored_at places) number) here
        ∙ ap (λ (b : Option (List ℕ)). kept_bytes (stored_in other b ++ stored_at places) number) told
        ∙ ap (λ b. option_map (λ (f : StoredFile). f.bytes) (cond b (Some (record { number = other; bytes = bytes }))
        (find (λ (f : StoredFile). nat_eq f.number number) (stored_at places)))) (same number other is)

    behind : (place : Option KeptFile) → nat_eq other number ≡ false
        → kept_bytes (stored_place (other, place) ++ stored_at places) number ≡ kept_bytes (stored_at places) number
    behind None not = refl
    behind (Some f) not = passed other number f.name.bytes (stored_at places) not

    itself : number ≡ other → is_same_number number other ≡ true
    itself e = ap (is_same_number number) (sym e) ∙ ap is_eq (tied_itself nat_cmp_total number)

    not_both : number ≡ other → is_same_number number other ≡ false → ⊥
    not_both e not = false≢true (sym not ∙ itself e)

    by : (b : Bool) → is_same_number number other ≡ b
        → (file_at (place_of_number number places) ≡ Some file → kept_bytes (stored_at places) number ≡ Some bytes)
        → file_at (cond b (Some place) (place_of_number number places)) ≡ Some file
        → kept_bytes (stored_place (other, place) ++ stored_at places) number ≡ Some bytes
    by true is rest here = first (same_number number other is) here
    by false is rest here = behind place (apart number other (λ e. not_both e is)) ∙ rest here

-- what stands at a place of rising numbers is found there
pub at_place : (places : Places) → AreNumbersRising places → (place : ℕ × Option KeptFile) → Among place places
    → place_of_number place.0 places ≡ Some place.1
at_place [] rising place among = absurd among
at_place (first ∷ places) rising place (inl is) =
    ap (λ b. cond b (Some first.1) (place_of_number place.0 places))
    (ap (λ n. is_same_number place.0 n) (ap (λ (p : ℕ × Option KeptFile). p.0) is) ∙ ap is_eq (tied_itself nat_cmp_total place.0))
    ∙ ap (λ (p : ℕ × Option KeptFile). Some p.1) is
at_place (first ∷ places) rising place (inr among) =
    let less = each_among (λ (other : ℕ × Option KeptFile). first.0 < other.0) places place rising.0 among in
    ap (λ b. cond b (Some first.1) (place_of_number place.0 places))
    (other_number place.0 first.0 (λ e. absurd (omega (arith, e, less))))
    ∙ at_place places rising.1 place among

-- files whose numbers rise from one number on, and lie below another, are at most as many as the numbers between
pub few : (places : Places) (from to : ℕ) → AreNumbersRising places
    → Each (λ (place : ℕ × Option KeptFile). IfSome place.1 (λ file. from ≤ place.0)) places
    → Each (λ (place : ℕ × Option KeptFile). IfSome place.1 (λ file. place.0 < to)) places
    → length (stored_at places) ≤ to - from
unfolding stored_at stored_place stored_in
few [] from to rising low high = omega arith
few ((number, None) ∷ places) from to rising low high = few places from to rising.1 low.1 high.1
few ((number, Some file) ∷ places) from to rising low high =
    let rest = few places (number + 1) to rising.1 (above_all places rising.0) high.1 in
    let own = low.0 in
    let below = high.0 in
    let one = at_most_one file.name.bytes in
    let all = length-append (stored_in number file.name.bytes) (stored_at places) in
    omega (arith, rest, own, below, one, all)
  where
    at_most_one : (bytes : Option (List ℕ)) → length (stored_in number bytes) ≤ 1
    at_most_one None = omega arith
    at_most_one (Some bytes) = omega arith

    above_all : (places : Places) → Each (λ (other : ℕ × Option KeptFile). number < other.0) places
        → Each (λ (place : ℕ × Option KeptFile). IfSome place.1 (λ file. number + 1 ≤ place.0)) places
    above_all [] above = tt
    above_all ((other, None) ∷ places) above = (tt, above_all places above.1)
    above_all ((other, Some file) ∷ places) above =
        let less = above.0 in (omega (arith, less), above_all places above.1)

-- files of rising numbers have different ones
pub differing : (places : Places) → AreNumbersRising places
    → EachPair (λ (a b : StoredFile). a.number ≢ b.number) (stored_at places)
unfolding stored_at stored_place stored_in
differing [] rising = tt
differing ((number, None) ∷ places) rising = differing places rising.1
differing ((number, Some file) ∷ places) rising = by file.name.bytes (differing places rising.1)
  where
    one : (bytes : List ℕ) (other : ℕ × Option KeptFile) → number < other.0 → IfSome other.1 (λ file. (told : List ℕ)
        → file.name.bytes ≡ Some told → number ≢ other.0)
    one bytes (n, None) less = tt
    one bytes (n, Some file) less = λ told is same. absurd (omega (arith, less, same))

    apart : (bytes : List ℕ) → Each (λ (other : StoredFile). number ≢ other.number) (stored_at places)
    apart bytes = each_stored (λ (other : StoredFile). number ≢ other.number) places
        (each_weaker (λ (other : ℕ × Option KeptFile). number < other.0)
        (λ (other : ℕ × Option KeptFile). IfSome other.1 (λ file. (told : List ℕ) → file.name.bytes ≡ Some told
        → number ≢ other.0)) (one bytes) places rising.0)

    by : (bytes : Option (List ℕ)) → EachPair (λ (a b : StoredFile). a.number ≢ b.number) (stored_at places)
        → EachPair (λ (a b : StoredFile). a.number ≢ b.number) (stored_in number bytes ++ stored_at places)
    by None rest = rest
    by (Some bytes) rest = (apart bytes, rest)
