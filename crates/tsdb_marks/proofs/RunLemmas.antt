-- The greatest version in several runs.
use Rattle.std.proofs.Common.{◌≡◌, ℕ, zero, suc, ◌+◌, ◌-◌, ◌<◌, ◌≤◌, ◌↔◌, ⊎_elim, max, List, [], ◌∷◌, ◌++◌, map, length, take, get_or, refl, sym, ap, ◌∙◌, arith, take-suc}
use Rattle.std.specs.Prelude.{nat_lt}
use Rattle.std.specs.List.{All, filter}
use Rattle.std.proofs.lemmas.Bool.{cases_lt, lt-ltb, le-ltb}
use Rattle.std.proofs.lemmas.List.{take_all}
use Rattle.std.proofs.lemmas.List.Elements.{All-head, All-tail, All-cons, All-nil, All-weaker}
use Rattle.tsdb_marks.specs.declared.run.Run.{Run}
use Rattle.tsdb_marks.specs.declared.run.Step.{Step}
use Rattle.tsdb_marks.specs.Series.{SeriesMarks, DropsOld, without_old}
use Rattle.tsdb_marks.specs.Steps.{IsMarkRun, IsMet, IsUnmet, newest_at, newest_of, steps_of, version_at}
use Rattle.tsdb_marks.proofs.StepLemmas.{from_up_to}

pub newest_push : (runs : List (List Step)) (r : List Step) (m : ℕ) → newest_at (runs ++ r ∷ []) m ≡ max (newest_at runs m) (version_at r m)
newest_push [] r m = omega arith
newest_push (x ∷ runs) r m = let others = newest_push runs r m in omega (arith, others)

-- the last of a list
pub last_split : (xs rest : List Run) (r : Run) → 0 < length xs → r ≡ get_or xs (length xs - 1) r → rest ≡ take (length xs - 1) xs → xs ≡ rest ++ r ∷ []
last_split xs rest r some is front =
    let n = length xs - 1 in
    let all : take (suc n) xs ≡ xs = take_all (suc n) xs (omega arith) in
    sym all ∙ take-suc xs n r (omega arith) ∙ ap (λ x. take n xs ++ x ∷ []) (sym is) ∙ ap (λ (ys : List Run). ys ++ r ∷ []) (sym front)

pub newest_runs : (runs : List Run) (r : Run) (m : ℕ) → newest_at (map steps_of (runs ++ r ∷ [])) m ≡ max (newest_at (map steps_of runs) m) (version_at (steps_of r) m)
newest_runs [] r m = omega arith
newest_runs (x ∷ runs) r m = let others = newest_runs runs r m in omega (arith, others)

pub newest_has : (runs : List (List Step)) (i : ℕ) (r : List Step) (m : ℕ) → i < length runs → r ≡ get_or runs i r → version_at r m ≤ newest_at runs m
newest_has [] i r m lt is = absurd (omega (arith, lt))
newest_has (x ∷ runs) zero r m lt is = let e = ap (λ (q : List Step). version_at q m) is in omega (arith, e)
newest_has (x ∷ runs) (suc i) r m lt is = let others = newest_has runs i r m (omega (arith, lt)) is in omega (arith, others)

all_newest : (xs : List Step) → All (λ s. s.version ≤ newest_of xs) xs
all_newest [] = All-nil (λ (s : Step). s.version ≤ 0)
all_newest (x ∷ xs) =
    let n = newest_of (x ∷ xs) in
    All-cons (λ (s : Step). s.version ≤ n) x xs (omega arith) (All-weaker (λ (s : Step). s.version ≤ newest_of xs) (λ (s : Step). s.version ≤ n) (λ s le. omega (arith, le)) xs (all_newest xs))

pub run_up_to : (r : List Step) (m : ℕ) → version_at r m ≤ newest_of r
run_up_to r m = from_up_to 0 (newest_of r) r m (omega arith) (All-weaker (λ (s : Step). s.version ≤ newest_of r) (λ (s : Step). s.start ≤ m → s.version ≤ newest_of r) (λ s le. λ early. le) r (all_newest r))

-- without the runs that have no newer version
newest_filter : (v : ℕ) (runs : List (List Step)) (m b : ℕ) → v ≤ b → (b < newest_at (filter (λ r. nat_lt v (newest_of r)) runs) m) ↔ (b < newest_at runs m)
newest_filter v [] m b le = (λ h. h, λ h. h)
newest_filter v (x ∷ runs) m b le =
    let others = newest_filter v runs m b le in
    let here = version_at x m in
    let low = run_up_to x m in
    ⊎_elim (λ (lt : v < newest_of x). rw (lt-ltb v (newest_of x) lt) (
      λ h. ⊎_elim (λ (i : b < here). omega (arith, i)) (λ (j : here ≤ b). let k = others.0 (omega (arith, h, j)) in omega (arith, k)) (cases_lt b here),
      λ h. ⊎_elim (λ (i : b < here). omega (arith, i)) (λ (j : here ≤ b). let k = others.1 (omega (arith, h, j)) in omega (arith, k)) (cases_lt b here),
    ))
    (λ (ge : newest_of x ≤ v). rw (le-ltb v (newest_of x) ge) (λ h. let k = others.0 h in omega (arith, k), λ h. others.1 (omega (arith, h, low))))
    (cases_lt v (newest_of x))

pub drops_old : (v : ℕ) (series : SeriesMarks) → DropsOld series (without_old v series) v
drops_old v series = record { versions = refl; moments = λ m b le. newest_filter v series.runs m b le }

-- the code asks each run for its newest version
pub told_newest : (v : ℕ) (runs : List Run) → All IsMarkRun runs → map steps_of (filter (λ (r : Run). nat_lt v r.newest) runs) ≡ filter (λ r. nat_lt v (newest_of r)) (map steps_of runs)
told_newest v [] good = refl
told_newest v (x ∷ runs) good =
    let others = told_newest v runs (All-tail IsMarkRun x runs good) in
    let same = (All-head IsMarkRun x runs good).newest in
    ⊎_elim (λ (lt : v < x.newest). rw (lt-ltb v x.newest lt, lt-ltb v (newest_of (steps_of x)) (omega (arith, same, lt))) (ap (λ rs. steps_of x ∷ rs) others))
    (λ (ge : x.newest ≤ v). rw (le-ltb v x.newest ge, le-ltb v (newest_of (steps_of x)) (omega (arith, same, ge))) others)
    (cases_lt v x.newest)

-- of a range

pub met_run : (runs : List (List Step)) (i : ℕ) (r : List Step) (from to born : ℕ) → i < length runs → r ≡ get_or runs i r → IsMet (version_at r) from to born → IsMet (newest_at runs) from to born
met_run runs i r from to born lt is met = let has = newest_has runs i r met.moment lt is in let newer = met.newer in record { moment = met.moment; from = met.from; to = met.to; newer = omega (arith, has, newer) }

pub unmet_push : (runs : List (List Step)) (i : ℕ) (r : List Step) (from to born : ℕ) → i < length runs → r ≡ get_or runs i r → IsUnmet (newest_at (take i runs)) from to born → IsUnmet (version_at r) from to born
    → IsUnmet (newest_at (take (i + 1) runs)) from to born
unmet_push runs i r from to born lt is before one = λ m low high.
    let more : take (i + 1) runs ≡ take i runs ++ r ∷ [] = ap (λ n. take n runs) (let e : i + 1 ≡ suc i = omega arith in e) ∙ take-suc runs i r lt ∙ ap (λ x. take i runs ++ x ∷ []) (sym is) in
    let a = before m low high in
    let b = one m low high in
    rw (more, newest_push (take i runs) r m) (omega (arith, a, b))
