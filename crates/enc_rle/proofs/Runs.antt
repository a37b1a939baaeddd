-- Runs, and the lists that they stand for.
use Rattle.std.proofs.Common.{◌≡◌, ℕ, zero, suc, ◌+◌, ◌-◌, ◌*◌, ◌^◌, ◌<◌, ◌≤◌, List, [], ◌∷◌, ◌++◌, length, replicate, refl, sym, ap, subst, ◌∙◌, inl, inr, arith, append_assoc, add-one}
use Rattle.std.specs.Prelude.{map}
use Rattle.std.specs.List.{flat_map, AllByRecursion}
use Rattle.std.proofs.lemmas.List.{length-map, length-append, length-replicate}
use Rattle.std.proofs.lemmas.List.Elements.{recursion_from_All}
use Rattle.tsdb_bits.specs.Lists.{IsListOf}
use Rattle.std.proofs.lemmas.Bool.{cases_eq, eq-eqb, ne_eqb}
use Rattle.tsdb_bits.specs.Leb.{leb}
use Rattle.tsdb_bits.proofs.LebLaws.{leb_prefix_free, leb-some, length-leb}
use Rattle.enc_rle.specs.Spelling.{ValueRun, put_before, maximal_runs, expand_runs, run_bytes, codes_spelling, spelling, AreMaximalRuns}

-- ---- one more value in front

before_same : (code : ℕ) (run : ValueRun) (runs : List ValueRun) → code ≡ run.code → put_before code (run ∷ runs) ≡ record { count = run.count + 1; code = code } ∷ runs
before_same code run runs e = rw (eq-eqb code run.code e) refl

before_other : (code : ℕ) (run : ValueRun) (runs : List ValueRun) → (code ≡ run.code → ⊥) → put_before code (run ∷ runs) ≡ record { count = 1; code = code } ∷ run ∷ runs
before_other code run runs ne = rw (ne_eqb code run.code ne) refl

expand_runs-before : (code : ℕ) (runs : List ValueRun) → expand_runs (put_before code runs) ≡ code ∷ expand_runs runs
unfolding expand_runs
expand_runs-before code [] = refl
expand_runs-before code (run ∷ runs) =
    elim (cases_eq code run.code) [
      | inl e ↦
          ap expand_runs (before_same code run runs e)
          ∙ ap (λ (n : ℕ). replicate n code ++ expand_runs runs) (add-one run.count)
          ∙ ap (λ (k : ℕ). code ∷ replicate run.count k ++ expand_runs runs) e
      | inr ne ↦ ap expand_runs (before_other code run runs ne)
    ]

pub expand_runs-runs_of : (codes : List ℕ) → expand_runs (maximal_runs codes) ≡ codes
unfolding expand_runs maximal_runs
expand_runs-runs_of [] = refl
expand_runs-runs_of (code ∷ codes) = expand_runs-before code (maximal_runs codes) ∙ ap (λ (t : List ℕ). code ∷ t) (expand_runs-runs_of codes)

joined_before : (code : ℕ) (runs : List ValueRun) → AreMaximalRuns runs → AreMaximalRuns (put_before code runs)
joined_before code [] j = omega arith
joined_before code (run ∷ []) j =
    elim (cases_eq code run.code) [
      | inl e ↦ rw (before_same code run [] e) (omega arith)
      | inr ne ↦ rw (before_other code run [] ne) (omega arith, ne, j)
    ]
joined_before code (run ∷ next ∷ runs) j =
    elim (cases_eq code run.code) [
      | inl e ↦ rw (before_same code run (next ∷ runs) e) (omega arith, (λ f. j.1 (sym e ∙ f)), j.2)
      | inr ne ↦ rw (before_other code run (next ∷ runs) ne) (omega arith, ne, j)
    ]

pub joined-runs_of : (codes : List ℕ) → AreMaximalRuns (maximal_runs codes)
unfolding maximal_runs
joined-runs_of [] = tt
joined-runs_of (code ∷ codes) = joined_before code (maximal_runs codes) (joined-runs_of codes)

-- ---- a whole run in front

-- the first of the runs, where there is one, has another value
abbrev pub StartsOtherwise : ℕ → List ValueRun → Type 0
StartsOtherwise code [] = Unit {0}
StartsOtherwise code (run ∷ runs) = code ≡ run.code → ⊥

before_another : (code : ℕ) (runs : List ValueRun) → StartsOtherwise code runs → put_before code runs ≡ record { count = 1; code = code } ∷ runs
before_another code [] h = refl
before_another code (run ∷ runs) h = before_other code run runs h

pub run_in_front : (n code : ℕ) (codes : List ℕ) → StartsOtherwise code (maximal_runs codes) → maximal_runs (replicate (suc n) code ++ codes) ≡ record { count = suc n; code = code } ∷ maximal_runs codes
unfolding maximal_runs
run_in_front zero code codes h = before_another code (maximal_runs codes) h
run_in_front (suc n) code codes h =
    ap (put_before code) (run_in_front n code codes h)
    ∙ before_same code (record { count = suc n; code = code }) (maximal_runs codes) refl
    ∙ ap (λ (k : ℕ). record { count = k; code = code } ∷ maximal_runs codes) (add-one (suc n))

starts_with : (code : ℕ) (runs : List ValueRun) → (other : ℕ) → (other ≡ code → ⊥) → StartsOtherwise other (put_before code runs)
starts_with code [] other ne = ne
starts_with code (run ∷ runs) other ne =
    elim (cases_eq code run.code) [
      | inl e ↦ rw (before_same code run runs e) ne
      | inr d ↦ rw (before_other code run runs d) ne
    ]

-- the runs of a list that begins with another value
pub starts_otherwise : (code other : ℕ) (codes : List ℕ) → (other ≡ code → ⊥) → StartsOtherwise other (maximal_runs (code ∷ codes))
unfolding maximal_runs
starts_otherwise code other codes ne = starts_with code (maximal_runs codes) other ne

pub no_runs : maximal_runs [] ≡ []
unfolding maximal_runs
no_runs = refl

joined_tail : (run : ValueRun) (runs : List ValueRun) → AreMaximalRuns (run ∷ runs) → (1 ≤ run.count) × AreMaximalRuns runs × StartsOtherwise run.code runs
joined_tail run [] j = (j, tt, tt)
joined_tail run (next ∷ runs) j = (j.0, j.2, j.1)

pub joined_count : (run : ValueRun) (runs : List ValueRun) → AreMaximalRuns (run ∷ runs) → 1 ≤ run.count
joined_count run runs j = (joined_tail run runs j).0

pub runs_of-expand_runs : (runs : List ValueRun) → AreMaximalRuns runs → maximal_runs (expand_runs runs) ≡ runs
unfolding maximal_runs expand_runs
runs_of-expand_runs [] j = refl
runs_of-expand_runs (run ∷ runs) j =
    let t = joined_tail run runs j in
    let rest = runs_of-expand_runs runs t.1 in
    let other : StartsOtherwise run.code (maximal_runs (expand_runs runs)) = subst (λ (r : List ValueRun). StartsOtherwise run.code r) (sym rest) t.2 in
    let n : run.count ≡ suc (run.count - 1) = omega (arith, t.0) in
    ap (λ (k : ℕ). maximal_runs (replicate k run.code ++ expand_runs runs)) n
    ∙ run_in_front (run.count - 1) run.code (expand_runs runs) other
    ∙ ap (λ (k : ℕ). record { count = k; code = run.code } ∷ maximal_runs (expand_runs runs)) (sym n)
    ∙ ap (λ (r : List ValueRun). run ∷ r) rest

-- ---- bytes

pub first_run : (run : ValueRun) (rest bytes behind : List ℕ) (count code : ℕ) → run_bytes run ++ rest ≡ bytes → bytes ≡ leb count ++ (leb code ++ behind) → (run.count ≡ count) × (run.code ≡ code) × (rest ≡ behind)
first_run run rest bytes behind count code e f =
    let p = leb_prefix_free run.count count (leb run.code ++ rest) (leb code ++ behind) (sym (append_assoc (leb run.count) (leb run.code) rest) ∙ e ∙ f) in
    let q = leb_prefix_free run.code code rest behind p.1 in
    (p.0, q.0, q.1)

pub run_split : (count code : ℕ) (bytes behind : List ℕ) → bytes ≡ (leb count ++ leb code) ++ behind → bytes ≡ leb count ++ (leb code ++ behind)
run_split count code bytes behind e = e ∙ append_assoc (leb count) (leb code) behind

pub run_bytes-some : (run : ValueRun) (rest : List ℕ) → [] ≡ run_bytes run ++ rest → ⊥
run_bytes-some run rest e = leb-some run.count (leb run.code ++ rest) (e ∙ append_assoc (leb run.count) (leb run.code) rest)

same_runs : (p q : List ValueRun) → flat_map run_bytes p ≡ flat_map run_bytes q → p ≡ q
same_runs [] [] e = refl
same_runs [] (run ∷ q) e = absurd (run_bytes-some run (flat_map run_bytes q) e)
same_runs (run ∷ p) [] e = absurd (run_bytes-some run (flat_map run_bytes p) (sym e))
same_runs (run ∷ p) (next ∷ q) e =
    let t = first_run run (flat_map run_bytes p) (run_bytes next ++ flat_map run_bytes q) (flat_map run_bytes q) next.count next.code e (append_assoc (leb next.count) (leb next.code) (flat_map run_bytes q)) in
    let r = same_runs p q t.2 in
    ap (λ (k : ℕ). record { count = k; code = run.code } ∷ p) t.0 ∙ ap (λ (k : ℕ). record { count = next.count; code = k } ∷ p) t.1 ∙ ap (λ (s : List ValueRun). next ∷ s) r

pub spelling_parts : (codes : List ℕ) (bytes rest : List ℕ) (n : ℕ) → codes_spelling codes ≡ bytes → bytes ≡ leb n ++ rest → (length codes ≡ n) × (rest ≡ flat_map run_bytes (maximal_runs codes))
unfolding codes_spelling
spelling_parts codes bytes rest n e f =
    let p = leb_prefix_free (length codes) n (flat_map run_bytes (maximal_runs codes)) rest (e ∙ f) in
    (p.0, sym p.1)

-- ---- one spelling, one list

same_codes : (xs ys : List ℕ) → codes_spelling xs ≡ codes_spelling ys → xs ≡ ys
unfolding codes_spelling
same_codes xs ys e =
    let p = leb_prefix_free (length xs) (length ys) (flat_map run_bytes (maximal_runs xs)) (flat_map run_bytes (maximal_runs ys)) e in
    sym (expand_runs-runs_of xs) ∙ ap expand_runs (same_runs (maximal_runs xs) (maximal_runs ys) p.1) ∙ expand_runs-runs_of ys

-- two lists with the same codes are equal
pub same_from_codes : {A : Type 0} (code : A → ℕ) (one : (a b : A) → code a ≡ code b → a ≡ b) (xs ys : List A) → map code xs ≡ map code ys → xs ≡ ys
same_from_codes code one [] [] e = refl
same_from_codes code one [] (y ∷ ys) e = absurd cc
same_from_codes code one (x ∷ xs) [] e = absurd cc
same_from_codes {A} code one (x ∷ xs) (y ∷ ys) e =
    let f : code x ≡ code y = cc in
    let g : map code xs ≡ map code ys = cc in
    ap (λ (z : A). z ∷ xs) (one x y f) ∙ ap (λ (zs : List A). y ∷ zs) (same_from_codes code one xs ys g)

pub same_from_spelling : {A : Type 0} (code : A → ℕ) (one : (a b : A) → code a ≡ code b → a ≡ b) (xs ys : List A) → spelling code xs ≡ spelling code ys → xs ≡ ys
same_from_spelling code one xs ys e = same_from_codes code one xs ys (same_codes (map code xs) (map code ys) e)

-- ---- the number of bytes

sum_of_counts : (runs : List ValueRun) → AreMaximalRuns runs → length runs ≤ length (expand_runs runs)
unfolding expand_runs
sum_of_counts [] j = omega arith
sum_of_counts (run ∷ runs) j =
    let t = joined_tail run runs j in
    omega (arith, t.0, sum_of_counts runs t.1, length-append (replicate run.count run.code) (expand_runs runs), length-replicate run.count run.code)

-- each run has a count and a code of 64 bits
abbrev pub IsShort : ValueRun → Type 0
IsShort run = (run.count < 2 ^ 64) × (run.code < 2 ^ 64)

length-runs : (runs : List ValueRun) → AllByRecursion IsShort runs → length (flat_map run_bytes runs) ≤ 20 * length runs
length-runs [] h = omega arith
length-runs (run ∷ runs) h =
    omega (
      arith,
      length-runs runs h.1,
      length-leb 9 run.count (omega (arith, h.0.0)),
      length-leb 9 run.code (omega (arith, h.0.1)),
      length-append (run_bytes run) (flat_map run_bytes runs),
      length-append (leb run.count) (leb run.code),
    )

-- a run of at most so many values, with a code of 64 bits
abbrev IsBelow : ℕ → ValueRun → Type 0
IsBelow n run = (run.count ≤ n) × (run.code < 2 ^ 64)

one_more : (n : ℕ) (runs : List ValueRun) → AllByRecursion (IsBelow n) runs → AllByRecursion (IsBelow (suc n)) runs
one_more n [] h = tt
one_more n (run ∷ runs) h = ((omega (arith, h.0.0), h.0.1), one_more n runs h.1)

below_before : (n code : ℕ) (runs : List ValueRun) → code < 2 ^ 64 → AllByRecursion (IsBelow n) runs → AllByRecursion (IsBelow (suc n)) (put_before code runs)
below_before n code [] small h = ((omega arith, small), tt)
below_before n code (run ∷ runs) small h =
    elim (cases_eq code run.code) [
      | inl e ↦ rw (before_same code run runs e) ((omega (arith, h.0.0), small), one_more n runs h.1)
      | inr ne ↦ rw (before_other code run runs ne) ((omega arith, small), ((omega (arith, h.0.0), h.0.1), one_more n runs h.1))
    ]

below_runs : (codes : List ℕ) → AllByRecursion (λ code. code < 2 ^ 64) codes → AllByRecursion (IsBelow (length codes)) (maximal_runs codes)
unfolding maximal_runs
below_runs [] h = tt
below_runs (code ∷ codes) h = below_before (length codes) code (maximal_runs codes) h.0 (below_runs codes h.1)

shorter : (n : ℕ) (runs : List ValueRun) → n ≤ 1000 → AllByRecursion (IsBelow n) runs → AllByRecursion IsShort runs
shorter n [] le h = tt
shorter n (run ∷ runs) le h = ((omega (arith, h.0.0), h.0.1), shorter n runs le h.1)

small_codes : {A : Type 0} (code : A → ℕ) (IsValue : A → Type 0) (small : (a : A) → IsValue a → code a < 2 ^ 64) (xs : List A) → AllByRecursion IsValue xs → AllByRecursion (λ c. c < 2 ^ 64) (map code xs)
small_codes code IsValue small [] h = tt
small_codes code IsValue small (x ∷ xs) h = (small x h.0, small_codes code IsValue small xs h.1)

pub length-spelling : {A : Type 0} (code : A → ℕ) (IsValue : A → Type 0) (small : (a : A) → IsValue a → code a < 2 ^ 64) (xs : List A) → IsListOf IsValue xs → length (spelling code xs) < 2 ^ 30
unfolding codes_spelling
length-spelling code IsValue small xs is =
    let codes = map code xs in
    let number : length codes ≡ length xs = length-map xs code in
    let few : length codes ≤ 1000 = omega (arith, is.few) in
    let runs = maximal_runs codes in
    let number_of_runs = sum_of_counts runs (joined-runs_of codes) in
    let all = shorter (length codes) runs few (below_runs codes (small_codes code IsValue small xs (recursion_from_All IsValue xs is.typed))) in
    omega (arith, ap length (expand_runs-runs_of codes), number_of_runs, length-runs runs all, length-leb 9 (length codes) (omega arith), length-append (leb (length codes)) (flat_map run_bytes runs))
