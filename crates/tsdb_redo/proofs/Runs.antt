-- Runs of numbers: which numbers they have, and what becomes of them when one more number joins them.
use Rattle.std.proofs.Common.{◌≡◌, ◌≢◌, ◌⊎◌, inl, inr, ⊎_elim, ℕ, ◌+◌, ◌<◌, ◌≤◌, List}
use Rattle.std.proofs.Common.{Option, Some, None, sym, ap, subst, ◌∙◌, arith}
use Rattle.std.proofs.lemmas.Bool.{cases_eq, cases_lt}
use Rattle.tsdb_redo.specs.NamedNumbers.{IsInRun, run_from}
use Rattle.tsdb_redo.specs.Runs.{AreRuns, IsBeginOfRun, EndsWith, HasOneNumberMore, IsLastUpTo}
use Rattle.tsdb_base.specs.Limits.{end_of_numbers}

-- one run that begins with a number has one end
pub one_end : (o : Option ℕ) (a b : ℕ) → o ≡ Some a → o ≡ Some b → a ≡ b
one_end o a b x y = let e : Some a ≡ Some b = sym x ∙ y in cc

pub no_end : {X : Type 0} (o : Option ℕ) (a : ℕ) → o ≡ None → o ≡ Some a → X
no_end o a x y = let e : ◌≡◌ {A = Option ℕ} None (Some a) = sym x ∙ y in absurd cc

pub in_none : (runs : List (ℕ × ℕ)) (number : ℕ) → IsLastUpTo runs number None → IsInRun runs number → ⊥
in_none runs number none run = no_end (run_from run.first runs) run.last (none run.first run.from) run.is_run

-- a run that begins with the number begins up to it
pub first_low : (runs : List (ℕ × ℕ)) (number first : ℕ) → IsBeginOfRun runs number first → first ≤ number
first_low runs number first begins = ⊎_elim (λ same. omega (arith, same)) (λ before. omega (arith, before.0)) begins

-- a number joins the runs
module _ (old new : List (ℕ × ℕ)) (number first last : ℕ) (are : AreRuns old) (within : number < end_of_numbers)
    (free : ¬ IsInRun old number) (begins : IsBeginOfRun old number first) (ends : EndsWith old number last)
    (gone : run_from (number + 1) new ≡ None) (here : run_from first new ≡ Some last)
    (others : (other : ℕ) → other ≢ first → other ≢ number + 1 → run_from other new ≡ run_from other old) where
  low : first ≤ number
  low = first_low old number first begins

  last_high : number ≤ last
  last_high = ⊎_elim (λ run. omega (arith, are.forward (number + 1) last run)) (λ none. omega (arith, none.0)) ends

  -- a run that was there, of which the number is none, ends before it or begins behind it
  passes_by : (begin end : ℕ) → run_from begin old ≡ Some end → begin ≤ number → end < number
  passes_by begin end run le = ⊎_elim (λ lt. lt)
      (λ ge. absurd (free (record { first = begin; last = end; is_run = run; from = le; to = ge })))
      (cases_lt end number)

  -- a run that was there and begins behind the first begins behind the number
  behind_first : (begin end : ℕ) → run_from begin old ≡ Some end → first < begin → number < begin
  behind_first begin end run lt = ⊎_elim (λ gt. gt) (λ le. absurd (by le begins)) (cases_lt number begin)
    where
      by : begin ≤ number → IsBeginOfRun old number first → ⊥
      by le (inl same) = omega (arith, same, lt, le)
      by le (inr before) = omega (
        arith,
        are.apart first before.1 begin end before.3 run lt,
        before.2,
        le,
        are.forward begin end run,
        passes_by begin end run le,
      )

  -- of each run now: it is the one that has grown, or was there
  data IsRunNow (begin end : ℕ) : Type 0 where
    Grown : begin ≡ first → end ≡ last → IsRunNow begin end
    Was : begin ≢ first → begin ≢ number + 1 → run_from begin old ≡ Some end → IsRunNow begin end

  run_now : (begin end : ℕ) → run_from begin new ≡ Some end → IsRunNow begin end
  run_now begin end run = ⊎_elim
      (λ same. no_end (run_from (number + 1) new) end gone (ap (λ n. run_from n new) (sym same) ∙ run))
      (λ apart. ⊎_elim
      (λ same. Grown same (one_end (run_from first new) end last (ap (λ n. run_from n new) (sym same) ∙ run) here))
      (λ other. Was other apart (sym (others begin other apart) ∙ run))
      (cases_eq begin first))
      (cases_eq begin (number + 1))

  had : (other : ℕ) → IsInRun new other → (number ≡ other) ⊎ IsInRun old other
  had other run = by (run_now run.first run.last run.is_run)
    where
      above : number < other → other ≤ last → EndsWith old number last → IsInRun old other
      above lt le (inl behind) =
          record { first = number + 1; last = last; is_run = behind; from = omega (arith, lt); to = le }
      above lt le (inr none) = absurd (omega (arith, lt, le, none.0))

      below : other < number → first ≤ other → IsBeginOfRun old number first → IsInRun old other
      below lt le (inl same) = absurd (omega (arith, lt, le, same))
      below lt le (inr before) =
          record { first = first; last = before.1; is_run = before.3; from = le; to = omega (arith, lt, before.2) }

      by : IsRunNow run.first run.last → (number ≡ other) ⊎ IsInRun old other
      by (Grown begin end) = ⊎_elim (λ same. inl same)
          (λ apart. ⊎_elim
          (λ lt. inr (below lt (omega (arith, begin, run.from)) begins))
          (λ ge. inr (above (omega (arith, ge, λ (e : number ≡ other). apart e)) (omega (arith, end, run.to)) ends))
          (cases_lt other number))
          (cases_eq number other)
      by (Was apart behind was) =
          inr (record { first = run.first; last = run.last; is_run = was; from = run.from; to = run.to })

  has : (other : ℕ) → (number ≡ other) ⊎ IsInRun old other → IsInRun new other
  has other (inl same) = record {
    first = first;
    last = last;
    is_run = here;
    from = omega (arith, same, low);
    to = omega (arith, same, last_high);
  }
  has other (inr run) = ⊎_elim (λ same. behind same ends)
      (λ apart. ⊎_elim (λ same. before same begins)
      (λ differs. record {
        first = run.first;
        last = run.last;
        is_run = others run.first differs apart ∙ run.is_run;
        from = run.from;
        to = run.to;
      })
      (cases_eq run.first first))
      (cases_eq run.first (number + 1))
    where
      behind : run.first ≡ number + 1 → EndsWith old number last → IsInRun new other
      behind same (inl is) =
          let end = one_end (run_from (number + 1) old) run.last last (ap (λ n. run_from n old) (sym same) ∙ run.is_run) is in
          record {
            first = first;
            last = last;
            is_run = here;
            from = omega (arith, low, same, run.from);
            to = omega (arith, end, run.to);
          }
      behind same (inr none) = no_end (run_from (number + 1) old) run.last none.1 (ap (λ n. run_from n old) (sym same) ∙ run.is_run)

      before : run.first ≡ first → IsBeginOfRun old number first → IsInRun new other
      before same (inl is) = absurd (omega (
        arith,
        same,
        is,
        passes_by run.first run.last run.is_run (omega (arith, same, is)),
        are.forward run.first run.last run.is_run,
      ))
      before same (inr is) =
          let end = one_end (run_from first old) run.last is.1 (ap (λ n. run_from n old) (sym same) ∙ run.is_run) is.3 in
          record {
            first = first;
            last = last;
            is_run = here;
            from = omega (arith, same, run.from);
            to = omega (arith, end, run.to, is.2, last_high);
          }

  pub one_more : HasOneNumberMore number old new
  one_more other = (had other, has other)

  end_within : EndsWith old number last → last < end_of_numbers
  end_within (inl behind) = are.within (number + 1) last behind
  end_within (inr none) = omega (arith, none.0, within)

  -- the run that has grown ends before those behind it
  before_next : (next end : ℕ) → next ≢ number + 1 → run_from next old ≡ Some end → first < next
      → EndsWith old number last → last < next
  before_next next end apart run lt (inl behind) =
      are.apart (number + 1) last next end behind run (omega (arith, behind_first next end run lt, λ (e : next ≡ number + 1). apart e))
  before_next next end apart run lt (inr none) = omega (arith, none.0, behind_first next end run lt)

  -- and begins behind those before it
  behind_former : (begin end : ℕ) → run_from begin old ≡ Some end → begin < first → IsBeginOfRun old number first
      → end < first
  behind_former begin end run lt (inl same) = omega (arith, same, passes_by begin end run (omega (arith, lt, same)))
  behind_former begin end run lt (inr before) = are.apart begin end first before.1 run before.3 lt

  pub are_runs : AreRuns new
  are_runs = record {
    forward = λ begin end run. forward begin end (run_now begin end run);
    within = λ begin end run. below begin end (run_now begin end run);
    apart = λ begin end next last run later lt.
        apart begin end next last lt (run_now begin end run) (run_now next last later);
  }
    where
      forward : (begin end : ℕ) → IsRunNow begin end → begin ≤ end
      forward begin end (Grown b e) = omega (arith, b, e, low, last_high)
      forward begin end (Was _ _ run) = are.forward begin end run

      below : (begin end : ℕ) → IsRunNow begin end → end < end_of_numbers
      below begin end (Grown b e) = subst (λ n. n < end_of_numbers) (sym e) (end_within ends)
      below begin end (Was _ _ run) = are.within begin end run

      apart : (begin end next end_2 : ℕ) → begin < next → IsRunNow begin end → IsRunNow next end_2 → end < next
      apart begin end next end_2 lt (Grown b e) (Grown n m) = absurd (omega (arith, b, n, lt))
      apart begin end next end_2 lt (Grown b e) (Was _ not_behind run) =
          subst (λ k. k < next) (sym e) (before_next next end_2 not_behind run (omega (arith, b, lt)) ends)
      apart begin end next end_2 lt (Was _ _ run) (Grown n m) =
          subst (λ k. end < k) (sym n) (behind_former begin end run (omega (arith, n, lt)) begins)
      apart begin end next end_2 lt (Was _ _ run) (Was _ _ later) = are.apart begin end next end_2 run later lt
