-- The greatest number that is named.
use Rattle.std.proofs.Common.{◌≡◌, ◌⊎◌, inl, inr, ⊎_elim, ℕ, ◌+◌, ◌<◌, ◌≤◌, List, [], ◌∷◌, length}
use Rattle.std.proofs.Common.{Option, Some, None, refl, sym, ap, subst, ◌∙◌, arith}
use Rattle.std.proofs.lemmas.Bool.{cases_lt}
use Rattle.std.proofs.lemmas.Map.Keys.{ge_from_not_lt}
use Rattle.std.specs.BTreeMap.{BTreeMap, IsUpperBound, get}
use Rattle.std.specs.Ordering.{nat_cmp}
use Rattle.std.specs.Prelude.{IfSome, IsSome, max}
use Rattle.tsdb_base.specs.Limits.{end_of_numbers}
use Rattle.std.specs.Prelude.{◌↔◌}
use Rattle.tsdb_base.specs.declared.ids.FileNumber.{FileNumber}
use Rattle.tsdb_base.specs.Lists.{Among}
use Rattle.tsdb_redo.specs.NamedNumbers.{IsGreatest, IsInRun, IsNamed, Named, run_from}
use Rattle.tsdb_redo.specs.Opening.{greatest, next_number, with_stored}
use Rattle.tsdb_redo.specs.Runs.{AreSoundNumbers, AreRuns, IsLastInRuns}
use Rattle.tsdb_redo.proofs.Runs.{one_end}

-- the last number of the last run is the greatest
pub last_run : (runs : BTreeMap ℕ ℕ) (first last : ℕ) → AreRuns runs.entries → get nat_cmp runs first ≡ Some last
    → IsUpperBound nat_cmp runs first → IsLastInRuns runs.entries last
last_run runs first last are run bound = record {
  reaches = λ other there. reaches other there (cases_lt there.first first);
  has = inr (record { first = first; last = last; is_run = run; from = are.forward first last run; to = omega arith });
}
  where
    reaches : (other : ℕ) (there : IsInRun runs.entries other) → (there.first < first) ⊎ (first ≤ there.first) → other ≤ last
    reaches other there (inl lt) =
        omega (arith, there.to, are.apart there.first there.last first last there.is_run run lt, are.forward first last run)
    reaches other there (inr ge) =
        let le : there.first ≤ first =
        ge_from_not_lt first there.first (bound there.first (subst IsSome (sym there.is_run) refl)) in
        let same : there.first ≡ first = omega (arith, le, ge) in
        let end = one_end (run_from first runs.entries) there.last last
        (ap (λ n. run_from n runs.entries) (sym same) ∙ there.is_run) run in
        omega (arith, there.to, end)

-- no run has a number
pub no_run : (runs : List (ℕ × ℕ)) → runs ≡ [] → IsLastInRuns runs 0
no_run runs none = record {
  reaches = λ other there. let e : ◌≡◌ {A = Option ℕ} None (Some there.last) = sym (ap (run_from there.first) none) ∙ there.is_run in absurd cc;
  has = inl refl;
}

-- the newest number counts too
pub with_newest : (named : Named) (newest last : ℕ) → named.newest ≡ Some newest → IsLastInRuns named.runs last
    → IsGreatest named (max last newest)
with_newest named newest last is of = record {
  reaches = λ other there. ⊎_elim (λ run. omega (arith, of.reaches other run))
      (λ e. let same : Some newest ≡ Some other = sym is ∙ e in let s : newest ≡ other = cc in omega (arith, s)) there;
  has = has (cases_lt last newest) of.has;
}
  where
    has : (last < newest) ⊎ (newest ≤ last) → (last ≡ 0) ⊎ IsInRun named.runs last
        → (max last newest ≡ 0) ⊎ (IsInRun named.runs (max last newest) ⊎ (named.newest ≡ Some (max last newest)))
    has (inl lt) run = let e : newest ≡ max last newest = omega (arith, lt) in inr (inr (is ∙ ap Some e))
    has (inr le) (inl zero) = inl (omega (arith, zero, le))
    has (inr le) (inr run) = let e : last ≡ max last newest = omega (arith, le) in inr (inl (subst (IsInRun named.runs) e run))

pub without_newest : (named : Named) (last : ℕ) → named.newest ≡ None → IsLastInRuns named.runs last → IsGreatest named last
without_newest named last none of = record {
  reaches = λ other there. ⊎_elim (λ run. of.reaches other run)
      (λ e. let wrong : ◌≡◌ {A = Option ℕ} None (Some other) = sym none ∙ e in absurd cc) there;
  has = ⊎_elim (λ zero. inl zero) (λ run. inr (inl run)) of.has;
}

pub no_entries : (runs : List (ℕ × ℕ)) → (0 < length runs → ⊥) → runs ≡ []
no_entries [] none = refl
no_entries (run ∷ runs) none = absurd (none (omega arith))

pub newest_end : (named : Named) (newest : ℕ) → named.newest ≡ Some newest → AreSoundNumbers named → newest < end_of_numbers
newest_end named newest is kept = (subst (λ o. IfSome o (λ number. (number < end_of_numbers) × (¬ IsInRun named.runs number)))
    is kept.newest).0

-- the greatest of a list of numbers

greatest_among : (numbers : List ℕ) → (greatest numbers ≡ 0) ⊎ Among (greatest numbers) numbers
greatest_among [] = inl refl
greatest_among (n ∷ ns) = by (cases_lt n (greatest ns)) (greatest_among ns)
  where
    by : (n < greatest ns) ⊎ (greatest ns ≤ n) → (greatest ns ≡ 0) ⊎ Among (greatest ns) ns
        → (max n (greatest ns) ≡ 0) ⊎ Among (max n (greatest ns)) (n ∷ ns)
    by (inl lt) (inl zero) = absurd (omega (arith, lt, zero))
    by (inl lt) (inr among) = let e : greatest ns ≡ max n (greatest ns) = omega (arith, lt) in
        inr (inr (subst (λ k. Among k ns) e among))
    by (inr ge) either = inr (inl (omega (arith, ge)))

among_greatest : (numbers : List ℕ) (n : ℕ) → Among n numbers → n ≤ greatest numbers
among_greatest [] n among = absurd among
among_greatest (m ∷ ms) n (inl same) = omega (arith, same)
among_greatest (m ∷ ms) n (inr among) = omega (arith, among_greatest ms n among)

pub greatest_is : (opening : Named) (numbers : List ℕ) (number : ℕ)
    → ((n : ℕ) → IsNamed opening n ↔ Among n numbers) → IsGreatest opening number → number ≡ greatest numbers
greatest_is opening numbers number are is =
    let above : greatest numbers ≤ number = ⊎_elim (λ zero. omega (arith, zero))
    (λ among. is.reaches (greatest numbers) ((are (greatest numbers)).1 among)) (greatest_among numbers) in
    let below : number ≤ greatest numbers = ⊎_elim (λ zero. omega (arith, zero))
    (λ named. among_greatest numbers number ((are number).0 named)) is.has in
    omega (arith, above, below)

pub next_is : (stored : Option FileNumber) (named : List ℕ) (number : ℕ) → number ≡ greatest named
    → greatest (with_stored stored (number ∷ [])) + 1 ≡ next_number stored named
next_is None named number is = omega (arith, is)
next_is (Some stored) named number is = omega (arith, is)
