-- The version at a moment: behind some steps, at a step, and over a range.
use Rattle.std.proofs.Common.{◌≡◌, ℕ, zero, suc, ◌+◌, ◌<◌, ◌≤◌, ⊎_elim, Bool, true, false, cond, List, [], ◌∷◌, ◌++◌, length, take, drop, get_or, refl, sym, ap, ◌∙◌, subst, arith, take-suc, length-drop}
use Rattle.std.specs.Prelude.{nat_le}
use Rattle.std.specs.List.{All}
use Rattle.std.proofs.lemmas.Bool.{cases_lt, le-leb, lt-leb}
use Rattle.std.proofs.lemmas.List.{take-append-drop, get_or-drop, get_or_default}
use Rattle.std.proofs.lemmas.List.Elements.{All-head, All-tail, All-from_all_within}
use Rattle.tsdb_marks.specs.declared.run.Step.{Step}
use Rattle.std.specs.List.Sorted.{IsPartitionPoint, IsPartitionedBy}
use Rattle.std.proofs.lemmas.Bool.{leb-true, leb-false}
use Rattle.tsdb_marks.specs.Steps.{version_from, version_at, AreStepsRising, IsMet, IsUnmet, IsUntil}

pub from_append : (v : ℕ) (xs ys : List Step) (m : ℕ) → version_from v (xs ++ ys) m ≡ version_from (version_from v xs m) ys m
from_append v [] ys m = refl
from_append v (x ∷ xs) ys m = from_append (cond (nat_le x.start m) x.version v) xs ys m

pub at_snoc : (xs : List Step) (s : Step) (m : ℕ) → version_at (xs ++ s ∷ []) m ≡ cond (nat_le s.start m) s.version (version_at xs m)
at_snoc xs s m = from_append 0 xs (s ∷ []) m

-- steps behind the moment change nothing
pub from_behind : (v : ℕ) (xs : List Step) (m : ℕ) → All (λ s. m < s.start) xs → version_from v xs m ≡ v
from_behind v [] m all = refl
from_behind v (x ∷ xs) m all =
    let P : Step → Type 0 = λ s. m < s.start in
    rw (lt-leb x.start m (All-head P x xs all)) (from_behind v xs m (All-tail P x xs all))

-- no version is greater than a bound on those that begin in time
pub from_up_to : (v b : ℕ) (xs : List Step) (m : ℕ) → v ≤ b → All (λ s. s.start ≤ m → s.version ≤ b) xs → version_from v xs m ≤ b
from_up_to v b [] m le all = le
from_up_to v b (x ∷ xs) m le all =
    let P : Step → Type 0 = λ s. s.start ≤ m → s.version ≤ b in
    let tail = All-tail P x xs all in
    ⊎_elim (λ (lt : m < x.start). rw (lt-leb x.start m lt) (from_up_to v b xs m le tail))
    (λ (ge : x.start ≤ m). rw (le-leb x.start m ge) (from_up_to x.version b xs m (All-head P x xs all ge) tail)) (cases_lt m x.start)

-- at the last step that begins in time
pub at_step : (steps : List Step) (k : ℕ) (s : Step) (m : ℕ) → k < length steps → s ≡ get_or steps k s → s.start ≤ m → All (λ s. m < s.start) (drop (suc k) steps)
    → version_at steps m ≡ s.version
at_step steps k s m within is le behind =
    let front : take (suc k) steps ≡ take k steps ++ s ∷ [] = take-suc steps k s within ∙ ap (λ x. take k steps ++ x ∷ []) (sym is) in
    let split : steps ≡ (take k steps ++ s ∷ []) ++ drop (suc k) steps = sym (take-append-drop (suc k) steps) ∙ ap (λ (xs : List Step). xs ++ drop (suc k) steps) front in
    ap (λ (xs : List Step). version_at xs m) split ∙ from_append 0 (take k steps ++ s ∷ []) (drop (suc k) steps) m ∙ from_behind _ (drop (suc k) steps) m behind
    ∙ at_snoc (take k steps) s m ∙ rw (le-leb s.start m le) refl

pub behind_step : (steps : List Step) (k : ℕ) (s : Step) → AreStepsRising steps → k < length steps → s ≡ get_or steps k s → All (λ t. s.start < t.start) (drop (suc k) steps)
behind_step steps k s rising within is =
    let P : Step → Type 0 = λ t. s.start < t.start in
    All-from_all_within P (drop (suc k) steps) (λ i d low high.
    let inside : suc k + i < length steps = omega (arith, high, length-drop (suc k) steps) in
    let lt : (get_or steps k d).start < (get_or steps (suc k + i) d).start = rising k (suc k + i) d (omega arith) inside in
    let same : get_or steps k d ≡ s = get_or_default steps k d s within ∙ sym is in
    let Q : Step → Type 0 = λ x. x.start < (get_or steps (suc k + i) d).start in
    subst P (sym (get_or-drop (suc k) steps i d)) (subst Q same lt))

back_all : (steps : List Step) (moment count : ℕ) → IsUntil steps moment count → All (λ s. moment < s.start) (drop count steps)
back_all steps moment count until =
    let P : Step → Type 0 = λ s. moment < s.start in
    All-from_all_within P (drop count steps) (λ i d low high. subst P (sym (get_or-drop count steps i d)) (until.back (count + i) d (omega arith) (omega (arith, high, length-drop count steps))))

-- the version that holds when the range begins is greater
pub met_before : (steps : List Step) (from to born count : ℕ) (s : Step) → IsUntil steps from (suc count) → s ≡ get_or steps count s → from ≤ to → born < s.version
    → IsMet (version_at steps) from to born
met_before steps from to born count s until is le newer =
    let P : Step → Type 0 = λ x. x.start ≤ from in
    let e = at_step steps count s from (omega (arith, until.bound)) is (subst P (sym is) (until.front count s (omega arith))) (back_all steps from (suc count) until) in
    record { moment = from; from = omega arith; to = le; newer = rw e newer }

-- that of a step in the range is
pub met_step : (steps : List Step) (from to born count k : ℕ) (s : Step) → AreStepsRising steps → IsUntil steps from count → count ≤ k → k < length steps → s ≡ get_or steps k s
    → s.start ≤ to → born < s.version → IsMet (version_at steps) from to born
met_step steps from to born count k s rising until low within is le newer =
    let P : Step → Type 0 = λ x. from < x.start in
    let lt : from < s.start = subst P (sym is) (until.back k s low within) in
    let e = at_step steps k s s.start within is (omega arith) (behind_step steps k s rising within is) in
    record { moment = s.start; from = omega arith; to = le; newer = rw e newer }

-- neither is
pub unmet_steps : (steps : List Step) (from to born count : ℕ) → IsUntil steps from count → ((k : ℕ) (d : Step) → suc k ≡ count → (get_or steps k d).version ≤ born)
    → ((k : ℕ) (d : Step) → count ≤ k → k < length steps → (get_or steps k d).start ≤ to → (get_or steps k d).version ≤ born)
    → IsUnmet (version_at steps) from to born
unmet_steps steps from to born count until before within = λ m low high.
    let P : Step → Type 0 = λ s. s.start ≤ m → s.version ≤ born in
    let back : All P (drop count steps) = All-from_all_within P (drop count steps) (λ i d l h.
    subst P (sym (get_or-drop count steps i d)) (λ (le : (get_or steps (count + i) d).start ≤ m). within (count + i) d (omega arith) (omega (arith, h, length-drop count steps)) (omega (arith, le)))) in
    let front : version_at (take count steps) m ≤ born = at_front count until before m low in
    let split : version_at steps m ≡ version_from (version_at (take count steps) m) (drop count steps) m =
    ap (λ (xs : List Step). version_at xs m) (sym (take-append-drop count steps)) ∙ from_append 0 (take count steps) (drop count steps) m
    in
    rw split (from_up_to (version_at (take count steps) m) born (drop count steps) m front back)
  where
    at_front : (count : ℕ) → IsUntil steps from count → ((k : ℕ) (d : Step) → suc k ≡ count → (get_or steps k d).version ≤ born) → (m : ℕ) → from ≤ m → version_at (take count steps) m ≤ born
    at_front zero until before m low = omega arith
    at_front (suc k) until before m low =
        let d : Step = record { start = 0; version = 0 } in
        let s : Step = get_or steps k d in
        let within : k < length steps = omega (arith, until.bound) in
        let start : s.start ≤ m = omega (arith, until.front k d (omega arith)) in
        let e : version_at (take (suc k) steps) m ≡ s.version =
        ap (λ (xs : List Step). version_at xs m) (take-suc steps k d within) ∙ at_snoc (take k steps) s m ∙ rw (le-leb s.start m start) refl
        in
        rw e (before k d refl)

-- the place of a moment

abbrev pub begins_until : ℕ → Step → Bool
begins_until moment s = nat_le s.start moment

pub parted : (moment : ℕ) (steps : List Step) → AreStepsRising steps → IsPartitionedBy (begins_until moment) steps
parted moment steps rising = λ i j d le within h.
    let P : ℕ → Type 0 = λ k. begins_until moment (get_or steps k d) ≡ true in
    ⊎_elim (λ (lt : i < j). let less = rising i j d lt within in le-leb (get_or steps i d).start moment (let low = leb-true (get_or steps j d).start moment h in omega (arith, less, low)))
    (λ (ge : j ≤ i). let same : j ≡ i = omega arith in subst P same h) (cases_lt i j)

pub until_point : (moment : ℕ) (steps : List Step) (count : ℕ) → count ≤ length steps → IsPartitionPoint (λ s. begins_until moment s ≡ true) (λ s. begins_until moment s ≡ false) steps count → IsUntil steps moment count
until_point moment steps count le point = record {
  bound = le;
  front = λ k d lt. leb-true (get_or steps k d).start moment (point.0 k d (omega arith) lt);
  back = λ k d low within. leb-false (get_or steps k d).start moment (point.1 k d low within);
}

pub met_first : (steps : List Step) (from to born count version : ℕ) → IsUntil steps from count → (count ≡ 0 → version ≡ 0) → ((k : ℕ) (d : Step) → suc k ≡ count → version ≡ (get_or steps k d).version)
    → from ≤ to → born < version → IsMet (version_at steps) from to born
met_first steps from to born zero version until none step le newer = absurd (let z = none refl in omega (arith, z, newer))
met_first steps from to born (suc k) version until none step le newer =
    let d : Step = record { start = 0; version = 0 } in
    let same = step k d refl in
    let here : get_or steps k d ≡ get_or steps k (get_or steps k d) = get_or_default steps k d (get_or steps k d) (omega (arith, until.bound)) in
    met_before steps from to born k (get_or steps k d) until here le (omega (arith, same, newer))

-- what stands at a step behind the range or behind it is behind the range
pub beyond : (steps : List Step) (to at k : ℕ) (d e : Step) → AreStepsRising steps → at < length steps → to < (get_or steps at d).start → at ≤ k → k < length steps → to < (get_or steps k e).start
beyond steps to at k d e rising here far le within =
    let P : Step → Type 0 = λ s. to < s.start in
    let there : to < (get_or steps at e).start = subst P (get_or_default steps at d e here) far in
    ⊎_elim (λ (lt : at < k). let less = rising at k e lt within in omega (arith, less, there)) (λ (ge : k ≤ at). let same : at ≡ k = omega arith in let Q : ℕ → Type 0 = λ n. to < (get_or steps n e).start in subst Q same there) (cases_lt at k)
