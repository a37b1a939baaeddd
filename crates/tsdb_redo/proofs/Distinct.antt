-- No series stands in two cells: what a set of the series so far says of the cells to come.
use Rattle.std.proofs.Common.{◌≡◌, ◌≢◌, ℕ, suc, ◌+◌, ◌<◌, ◌≤◌, Bool, true, false, cond, not, List, [], ◌∷◌, length}
use Rattle.std.proofs.Common.{drop, get_or, nat_eq, refl, sym, ap, subst, ◌∙◌, arith, add-one}
use Rattle.std.proofs.Math.Seq.{drop-cons}
use Rattle.std.proofs.lemmas.Bool.{eq-eqb, eqb-true, false≢true}
use Rattle.std.proofs.lemmas.List.{drop_all}
use Rattle.std.specs.Prelude.{◌↔◌}
use Rattle.std.specs.List.{AllByRecursion as Each}
use Rattle.tsdb_log.specs.declared.record.CellRecord.{CellRecord}
use Rattle.tsdb_redo.specs.Rows.{DifferInSeries}

-- the cells differ, and none of their series is in the set
pub record AreFresh (has : ℕ → Bool) (cells : List CellRecord) : Type 0 where
  pub differ : DifferInSeries cells
  pub new : Each (λ cell. has cell.series.0 ≡ false) cells

each_false : (cells : List CellRecord) → Each (λ cell. false ≡ false) cells
each_false [] = tt
each_false (cell ∷ cells) = (refl, each_false cells)

-- a set without series
pub fresh_all : (has : ℕ → Bool) (cells : List CellRecord) → ((n : ℕ) → has n ≡ false)
    → DifferInSeries cells ↔ AreFresh has cells
fresh_all has cells none = (λ differ. record { differ = differ; new = each cells }, λ fresh. fresh.differ)
  where
    each : (cells : List CellRecord) → Each (λ cell. has cell.series.0 ≡ false) cells
    each [] = tt
    each (cell ∷ cells) = (none cell.series.0, each cells)

module _ (has more : ℕ → Bool) (n : ℕ) (adds : (q : ℕ) → more q ≡ cond (nat_eq n q) true (has q)) where
  adds_other : (q : ℕ) → n ≢ q → more q ≡ has q
  adds_other q apart = adds q ∙ by (nat_eq n q) refl
    where
      by : (b : Bool) → nat_eq n q ≡ b → cond b true (has q) ≡ has q
      by true e = absurd (apart (eqb-true n q e))
      by false e = refl

  not_more : (q : ℕ) → more q ≡ false → (n ≢ q) × (has q ≡ false)
  not_more q none = by (nat_eq n q) refl (sym (adds q) ∙ none)
    where
      by : (b : Bool) → nat_eq n q ≡ b → cond b true (has q) ≡ false → (n ≢ q) × (has q ≡ false)
      by true e t = absurd (false≢true (sym t))
      by false e t = (λ same. false≢true (sym e ∙ eq-eqb n q same), t)

  new_after : (cells : List CellRecord) → Each (λ other. n ≢ other.series.0) cells
      → Each (λ cell. has cell.series.0 ≡ false) cells → Each (λ cell. more cell.series.0 ≡ false) cells
  new_after [] apart new = tt
  new_after (cell ∷ cells) apart new =
      (adds_other cell.series.0 apart.0 ∙ new.0, new_after cells apart.1 new.1)

  new_before : (cells : List CellRecord) → Each (λ cell. more cell.series.0 ≡ false) cells
      → Each (λ other. n ≢ other.series.0) cells × Each (λ cell. has cell.series.0 ≡ false) cells
  new_before [] new = (tt, tt)
  new_before (cell ∷ cells) new =
      let here = not_more cell.series.0 new.0 in
      let rest = new_before cells new.1 in
      ((here.0, rest.0), (here.1, rest.1))

-- the loop over the cells
module _ (has : ℕ → Bool) (cells : List CellRecord) (i : ℕ) (cell : CellRecord) (below : i < length cells)
    (is : cell ≡ get_or cells i cell) (rest : DifferInSeries cells ↔ AreFresh has (drop i cells)) where
  split : drop i cells ≡ cell ∷ drop (i + 1) cells
  split = drop-cons cells i cell below ∙ ap (λ c. c ∷ drop (suc i) cells) (sym is) ∙ ap (λ n. cell ∷ drop n cells) (sym (add-one i))

  pub was_there : has cell.series.0 ≡ true → DifferInSeries cells → ⊥
  was_there seen differ =
      let fresh = subst (AreFresh has) split (rest.0 differ) in
      false≢true (sym fresh.new.0 ∙ seen)

  pub fresh_next : (more : ℕ → Bool) → ((q : ℕ) → more q ≡ cond (nat_eq cell.series.0 q) true (has q))
      → has cell.series.0 ≡ false → DifferInSeries cells ↔ AreFresh more (drop (i + 1) cells)
  fresh_next more adds unseen = (
    λ differ. let fresh = subst (AreFresh has) split (rest.0 differ) in record {
      differ = fresh.differ.1;
      new = new_after has more cell.series.0 adds (drop (i + 1) cells) fresh.differ.0 fresh.new.1;
    },
    λ fresh. let before = new_before has more cell.series.0 adds (drop (i + 1) cells) fresh.new in
        rest.1 (subst (AreFresh has) (sym split) (record {
          differ = (before.0, fresh.differ);
          new = (unseen, before.1);
        })),
  )

pub fresh_end : (has : ℕ → Bool) (cells : List CellRecord) (i : ℕ) → length cells ≤ i
    → DifferInSeries cells ↔ AreFresh has (drop i cells) → DifferInSeries cells
fresh_end has cells i end rest = rest.1 (subst (AreFresh has) (sym (drop_all i cells end)) (record { differ = tt; new = tt }))

pub few_differ : (cells : List CellRecord) → length cells < 2 → DifferInSeries cells
few_differ [] few = tt
few_differ (cell ∷ []) few = (tt, tt)
few_differ (cell ∷ other ∷ cells) few = absurd (omega (arith, few))

pub was_by : (a b : Bool) → a ≡ not b → a ≡ false → b ≡ true
was_by a true e f = refl
was_by a false e f = absurd (false≢true (sym f ∙ e))

pub not_by : (a b : Bool) → a ≡ not b → a ≡ true → b ≡ false
not_by a true e t = absurd (false≢true (sym e ∙ t))
not_by a false e t = refl
