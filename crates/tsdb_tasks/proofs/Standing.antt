-- Where files stand in a list in which each number stands once.
use Rattle.std.proofs.Common.{◌≡◌, ◌≢◌, ℕ, Some, zero, suc, ◌+◌, ◌-◌, ◌<◌, ◌≤◌, ◌==◌, cond, List, [], ◌∷◌, ◌++◌, drop}
use Rattle.std.proofs.Common.{length}
use Rattle.std.proofs.Common.{get_or, take, refl, sym, ap, subst, ◌∙◌, arith}
use Rattle.std.specs.Cmp.{unsigned_Decides}
use Rattle.std.specs.Prelude.{slice_get, slice_range}
use Rattle.std.proofs.lemmas.List.{drop-map, drop_at, get_or-map, get_or_at, length-append, length-map, take-map}
use Rattle.std.proofs.lemmas.List.{take_at}
use Rattle.tsdb_base.specs.declared.ids.FileNumber.{FileNumber}
use Rattle.tsdb_fileset.specs.Files.{entry_numbers}
use Rattle.tsdb_fileset.specs.Replacing.{IsWithin}
use Rattle.tsdb_base.proofs.Lists.{count_append}
use Rattle.tsdb_base.specs.Lists.{IsRun, count}
use Rattle.tsdb_plan.specs.declared.entry.FileEntry.{FileEntry}
use Rattle.tsdb_outside.specs.Files.{plain_numbers}

itself : (n : ℕ) → ◌≡◌ {A = ℕ} (cond (n == n) 1 0) 1
itself n = ap {B = ℕ} (λ b. cond b 1 0) ((unsigned_Decides n n).1 refl)

counted_at : (n : ℕ) (xs : List ℕ) (place d : ℕ) → place < length xs → get_or xs place d ≡ n → 1 ≤ count n xs
counted_at n [] place d within is = absurd (omega (arith, within))
counted_at n (x ∷ xs) zero d within is =
    omega (arith, ap {B = ℕ} (λ b. cond b 1 0) ((unsigned_Decides x n).1 is))
counted_at n (x ∷ xs) (suc place) d within is =
    let rest = counted_at n xs place d (omega (arith, within)) is in omega (arith, rest)

counted_middle : (n : ℕ) (before behind : List ℕ) → 1 ≤ count n (before ++ n ∷ behind)
counted_middle n before behind = omega (arith, count_append n before (n ∷ behind), itself n)

-- a number that stands once stands at one place
pub only_place : (n : ℕ) (before behind : List ℕ) (place d : ℕ) → count n (before ++ n ∷ behind) ≤ 1
    → place < length (before ++ n ∷ behind) → get_or (before ++ n ∷ behind) place d ≡ n → place ≡ length before
only_place n [] behind zero d once within is = refl
only_place n [] behind (suc place) d once within is =
    let more = counted_at n behind place d (omega (arith, within)) is in
    absurd (omega (arith, once, more, itself n))
only_place n (b ∷ before) behind zero d once within is =
    let one = ap {B = ℕ} (λ t. cond t 1 0) ((unsigned_Decides b n).1 is) in
    absurd (omega (arith, once, one, counted_middle n before behind))
only_place n (b ∷ before) behind (suc place) d once within is =
    let fewer : count n (before ++ n ∷ behind) ≤ 1 = omega (arith, once) in
    ap suc (only_place n before behind place d fewer (omega (arith, within)) is)

-- the files of some numbers that stand side by side, from the place of the first on
pub record StandAt (entries : List FileEntry) (numbers : List ℕ) (place : ℕ) : Type 0 where
  pub within : place + length numbers ≤ length entries
  pub are : entry_numbers (slice_range entries place (place + length numbers)) ≡ numbers

stand_at : (entries : List FileEntry) (numbers before behind : List ℕ)
    → entry_numbers entries ≡ before ++ (numbers ++ behind) → StandAt entries numbers (length before)
stand_at entries numbers before behind is =
    let long : length entries ≡ length before + (length numbers + length behind) =
    sym (length-map entries (λ (e : FileEntry). e.number.0)) ∙ ap length is ∙ length-append before (numbers ++ behind)
    ∙ ap (λ n. length before + n) (length-append numbers behind) in
    let count_is : (length before + length numbers) - length before ≡ length numbers = omega arith in
    let rest = drop (length before) entries in
    record {
      within = omega (arith, long);
      are = ap (λ n. entry_numbers (take n rest)) count_is
          ∙ sym (take-map (λ (e : FileEntry). e.number.0) (length numbers) rest)
          ∙ ap (take (length numbers)) (sym (drop-map (λ (e : FileEntry). e.number.0) (length before) entries)
          ∙ ap (drop (length before)) is ∙ drop_at before (numbers ++ behind) (length before) refl)
          ∙ take_at numbers behind (length numbers) refl;
    }

pub run_found : (entries : List FileEntry) (first : FileNumber) (rest : List FileNumber) (place : ℕ) (d : FileEntry)
    → IsRun (plain_numbers (first ∷ rest)) (entry_numbers entries)
    → ((number : ℕ) → count number (entry_numbers entries) ≤ 1) → place < length entries
    → (get_or entries place d).number.0 ≡ first.0 → StandAt entries (plain_numbers (first ∷ rest)) place
run_found entries first rest place d run once within is =
    let numbers = plain_numbers (first ∷ rest) in
    let behind = plain_numbers rest ++ run.behind in
    let of : List ℕ → Type 0 = λ xs. count first.0 xs ≤ 1 in
    let inside : place < length (run.before ++ first.0 ∷ behind) =
    omega (arith, within, ap length run.is, length-map entries (λ (e : FileEntry). e.number.0)) in
    let at : get_or (run.before ++ first.0 ∷ behind) place d.number.0 ≡ first.0 =
    ap (λ xs. get_or xs place d.number.0) (sym run.is)
    ∙ get_or-map (λ (e : FileEntry). e.number.0) entries place d d.number.0 within ∙ is in
    let once_here = subst of run.is (once first.0) in
    let here = only_place first.0 run.before behind place d.number.0 once_here inside at in
    subst (StandAt entries numbers) (sym here) (stand_at entries numbers run.before run.behind run.is)

same_first : (a b : FileNumber) → Some a ≡ Some b → a ≡ b
same_first a b is = cc

-- the same, by what the first number is
pub run_of_first : (entries : List FileEntry) (numbers : List FileNumber) (first : FileNumber) (place : ℕ)
    (d : FileEntry)
    → slice_get numbers 0 ≡ Some first → IsRun (plain_numbers numbers) (entry_numbers entries)
    → ((number : ℕ) → count number (entry_numbers entries) ≤ 1) → place < length entries
    → ((d : FileEntry) → (get_or entries place d).number.0 ≡ first.0) → StandAt entries (plain_numbers numbers) place
run_of_first entries [] first place d is run once within at = absurd (cc)
run_of_first entries (n ∷ numbers) first place d is run once within at =
    run_found entries n numbers place d run once within (at d ∙ ap (λ (x : FileNumber). x.0) (sym (same_first n first
    is)))

-- so one has the first number
pub not_missing : (entries : List FileEntry) (numbers : List FileNumber) (first : FileNumber)
    → slice_get numbers 0 ≡ Some first → IsRun (plain_numbers numbers) (entry_numbers entries)
    → ((place : ℕ) (d : FileEntry) → place < length entries → (get_or entries place d).number.0 ≢ first.0) → ⊥
not_missing entries [] first is run none = cc
not_missing [] (n ∷ numbers) first is run none = omega (
  arith,
  ap length run.is,
  length-append run.before (plain_numbers (n ∷ numbers) ++ run.behind),
)
not_missing (e ∷ entries) (n ∷ numbers) first is run none =
    let place = length run.before in
    let behind = plain_numbers numbers ++ run.behind in
    let within : place < length (e ∷ entries) = omega (
      arith,
      ap length run.is,
      length-append run.before (n.0 ∷ behind),
      length-map (e ∷ entries) (λ (x : FileEntry). x.number.0),
    ) in
    none place e within
    (sym (get_or-map (λ (x : FileEntry). x.number.0) (e ∷ entries) place e e.number.0 within)
    ∙ ap (λ xs. get_or xs place e.number.0) run.is ∙ get_or_at run.before n.0 behind e.number.0 place refl
    ∙ ap (λ (x : FileNumber). x.0) (same_first n first is))

-- a list with a file has some file
pub some_entry : (entries : List FileEntry) (place : ℕ) → place < length entries → FileEntry
some_entry [] place within = absurd (omega (arith, within))
some_entry (e ∷ entries) place within = e

pub is_within : (entries : List FileEntry) (numbers : List FileNumber) (place : ℕ)
    → StandAt entries (plain_numbers numbers) place
    → IsWithin (record { first = place; end = place + length numbers }) entries
is_within entries numbers place stand = record {
  rises = omega arith;
  ends = omega (arith, stand.within, length-map numbers (λ (n : FileNumber). n.0));
}

pub are_numbers : (entries : List FileEntry) (numbers : List FileNumber) (place : ℕ)
    → StandAt entries (plain_numbers numbers) place
    → entry_numbers (slice_range entries place (place + length numbers)) ≡ plain_numbers numbers
are_numbers entries numbers place stand =
    ap (λ n. entry_numbers (slice_range entries place (place + n))) (sym (length-map numbers (λ (n : FileNumber). n.0)))
    ∙ stand.are
