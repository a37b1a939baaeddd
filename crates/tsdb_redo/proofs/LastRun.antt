-- The last run up to a number, as a range of an ordered map gives it.
use Rattle.std.proofs.Common.{◌≡◌, ℕ, ◌≤◌, false, List, [], ◌∷◌, ◌++◌, Some, None, Ordering, refl, sym, subst, arith}
use Rattle.std.specs.BTreeMap.{BTreeMap}
use Rattle.std.specs.BTreeMap.Range.{IsRangeOf}
use Rattle.std.specs.Cmp.{ranked}
use Rattle.std.specs.Ordering.{is_gt, nat_cmp}
use Rattle.std.specs.Prelude.{IsSome}
use Rattle.std.specs.declared.cmp.Ordering.TheVariants.{Equal, Greater, Less}
use Rattle.std.specs.declared.ops.Bound.TheVariants.{Included, Unbounded}
use Rattle.std.proofs.lemmas.Map.Keys.{ge_from_not_lt, le_from_not_gt}
use Rattle.tsdb_redo.specs.Runs.{IsLastUpTo}

not_greater : (a b : ℕ) → a ≤ b → is_gt (nat_cmp a b) ≡ false
not_greater a b le = by (nat_cmp a b) refl
  where
    by : (o : Ordering) → o ≡ nat_cmp a b → is_gt o ≡ false
    by Less e = refl
    by Equal e = refl
    by Greater e = absurd (omega (arith, le, ranked a b Greater e))

module _ (runs : BTreeMap ℕ ℕ) (number : ℕ) (found : List (ℕ × ℕ))
    (range : IsRangeOf nat_cmp Unbounded (Included number) runs found) where
  pub none_up_to : found ≡ [] → IsLastUpTo runs.entries number None
  none_up_to none = λ first le. range.5 none first (tt, not_greater first number le)

  pub last_up_to : (first last : ℕ) (before : List (ℕ × ℕ)) → found ≡ before ++ (first, last) ∷ []
      → IsLastUpTo runs.entries number (Some (first, last))
  last_up_to first last before is =
      let entry = range.3 (first, last) before is in (
        le_from_not_gt first number entry.0.1,
        entry.1,
        λ begin end le run. ge_from_not_lt first begin
            (range.4 (first, last) before is begin (tt, not_greater begin number le) (subst IsSome (sym run) refl)),
      )
