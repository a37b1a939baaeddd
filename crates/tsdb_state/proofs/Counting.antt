-- What counts alone say: numbers of files, rights, and room, over each step.
use Rattle.std.proofs.Common.{◌≡◌, ℕ, zero, suc, ◌+◌, ◌≤◌, ◌<◌, ◌==◌, Bool, true, false, cond, List}
use Rattle.std.proofs.Common.{◌++◌}
use Rattle.std.proofs.Common.{refl, arith, inl, inr}
use Rattle.std.specs.Prelude.{◌⊎◌}
use Rattle.std.specs.List.{range_with_len}
use Rattle.tsdb_base.specs.Lists.{count}
use Rattle.tsdb_base.proofs.Lists.{count_append}
use Rattle.tsdb_state.specs.Jobs.{NumbersInOrder, RightsMatch}
use Rattle.tsdb_base.specs.Limits.{end_of_numbers}
use Rattle.tsdb_state.specs.Records.{numbers_of}
use Rattle.tsdb_state.specs.State.{File}

same_number : (a n : ℕ) → (a == n) ≡ true → a ≡ n
same_number a n e = grind (arith, e)

pub is_or_not : {X : Type 0} (a n : ℕ) → (a ≡ n → X) → ((a == n) ≡ false → X) → X
is_or_not {X} a n is not = by (a == n) refl
  where
    by : (b : Bool) → (a == n) ≡ b → X
    by true e = is (same_number a n e)
    by false e = not e

pub rest_some : (b : Bool) (m : ℕ) → b ≡ false → 1 ≤ cond b 1 0 + m → 1 ≤ m
rest_some true m e some = absurd cc
rest_some false m e some = omega (arith, some)

rest_few : (b : Bool) (m : ℕ) → b ≡ false → m ≤ 1 → cond b 1 0 + m ≤ 1
rest_few true m e few = absurd cc
rest_few false m e few = omega (arith, few)

one_more : (b : Bool) (m : ℕ) → m ≡ 0 → cond b 1 0 + m ≤ 1
one_more true m e = omega (arith, e)
one_more false m e = omega (arith, e)

pub some_of_sum : (a b : ℕ) → 1 ≤ a + b → (1 ≤ a) ⊎ (1 ≤ b)
some_of_sum zero b some = inr (omega arith)
some_of_sum (suc a) b some = inl (omega arith)

pub is_none : (m : ℕ) → (1 ≤ m → ⊥) → m ≡ 0
is_none zero not = refl
is_none (suc m) not = absurd (not (omega arith))

-- a number that is drawn next is the next one or greater, and stands there once
range_from : (n a k : ℕ) → 1 ≤ count n (range_with_len a k) → a ≤ n
range_from n a zero some = absurd (omega (arith, some))
range_from n a (suc k) some = is_or_not a n (λ e. omega (arith, e))
    (λ e. omega (arith, range_from n (a + 1) k (rest_some (a == n) (count n (range_with_len (a + 1) k)) e some)))

range_to : (n a k : ℕ) → 1 ≤ count n (range_with_len a k) → n < a + k
range_to n a zero some = absurd (omega (arith, some))
range_to n a (suc k) some = is_or_not a n (λ e. omega (arith, e))
    (λ e. omega (arith, range_to n (a + 1) k (rest_some (a == n) (count n (range_with_len (a + 1) k)) e some)))

range_once : (n a k : ℕ) → count n (range_with_len a k) ≤ 1
range_once n a zero = omega arith
range_once n a (suc k) = is_or_not a n (λ e. one_more _ _ (is_none _
    (λ some. omega (arith, e, range_from n (a + 1) k some)))) (λ e. rest_few _ _ e (range_once n (a + 1) k))

-- counts that do not grow keep the numbers in order
pub numbers_less : (named : List ℕ) (next later : ℕ) (files more : List File) (drawn left : List ℕ)
    → NumbersInOrder named next files drawn → next ≤ later → later ≤ end_of_numbers
    → ((n : ℕ) → count n (numbers_of more) + count n left ≤ count n (numbers_of files) + count n drawn)
    → ((n : ℕ) → count n left ≤ count n drawn) → NumbersInOrder named later more left
numbers_less named next later files more drawn left order after end fewer few = record {
  from_one = omega (arith, order.from_one, after);
  end = end;
  differ = λ n. omega (arith, order.differ n, fewer n);
  range = λ n some. let range = order.range n (omega (arith, some, fewer n)) in (
    range.0,
    omega (arith, range.1, after),
  );
  named_below = λ n some. omega (arith, order.named_below n some, after);
  unnamed = λ n some. order.unnamed n (omega (arith, some, few n));
}

-- numbers from the next one on are drawn
pub numbers_drawn : (named : List ℕ) (next k : ℕ) (files : List File) (drawn left : List ℕ)
    → NumbersInOrder named next files drawn → next + k ≤ end_of_numbers
    → ((n : ℕ) → count n left ≡ count n drawn + count n (range_with_len next k))
    → NumbersInOrder named (next + k) files left
numbers_drawn named next k files drawn left order end is = record {
  from_one = omega (arith, order.from_one);
  end = end;
  differ = λ n. differ n (count n (range_with_len next k)) refl;
  range = λ n some. range n some (count n (range_with_len next k)) refl;
  named_below = λ n some. omega (arith, order.named_below n some);
  unnamed = λ n some. unnamed n some (count n (range_with_len next k)) refl;
}
  where
    differ : (n m : ℕ) → count n (range_with_len next k) ≡ m → count n (numbers_of files) + count n left ≤ 1
    differ n zero none = omega (arith, is n, none, order.differ n)
    differ n (suc m) some =
        let above = range_from n next k (omega (arith, some)) in
        let old = is_none _ (λ some. absurd (omega (arith, above, (order.range n some).1))) in
        omega (arith, is n, old, range_once n next k)

    range : (n : ℕ) → 1 ≤ count n (numbers_of files) + count n left → (m : ℕ) → count n (range_with_len next k) ≡ m
        → (1 ≤ n) × (n < next + k)
    range n some zero none = let range = order.range n (omega (arith, is n, none, some)) in
        (range.0, omega (arith, range.1))
    range n some (suc m) new = (
      omega (arith, order.from_one, range_from n next k (omega (arith, new))),
      range_to n next k (omega (arith, new)),
    )

    unnamed : (n : ℕ) → 1 ≤ count n left → (m : ℕ) → count n (range_with_len next k) ≡ m → count n named ≡ 0
    unnamed n some zero none = order.unnamed n (omega (arith, is n, none, some))
    unnamed n some (suc m) new =
        let above = range_from n next k (omega (arith, new)) in
        is_none _ (λ some. absurd (omega (arith, above, order.named_below n some)))

-- numbers that were drawn are named by a record, and become those of files
pub numbers_named : (named names : List ℕ) (next : ℕ) (files more : List File) (drawn left : List ℕ)
    → NumbersInOrder named next files drawn
    → ((n : ℕ) → count n names + count n left ≤ count n drawn)
    → ((n : ℕ) → count n (numbers_of more) + count n left ≤ count n (numbers_of files) + count n drawn)
    → NumbersInOrder (names ++ named) next more left
numbers_named named names next files more drawn left order given fewer = record {
  from_one = order.from_one;
  end = order.end;
  differ = λ n. omega (arith, order.differ n, fewer n);
  range = λ n some. order.range n (omega (arith, some, fewer n));
  named_below = λ n some. below n (count n named) refl (omega (arith, count_append n names named, some));
  unnamed = λ n some. omega (
    arith,
    count_append n names named,
    order.unnamed n (omega (arith, given n, some)),
    given n,
    order.differ n,
    some,
  );
}
  where
    below : (n m : ℕ) → count n named ≡ m → 1 ≤ count n names + count n named → n < next
    below n zero none some = (order.range n (omega (arith, given n, some, none))).1
    below n (suc m) old some = order.named_below n (omega (arith, old))

-- rights

pub rights_match : (old new : ℕ → ℕ) (files more : List File) (held left : List ℕ) → RightsMatch old files held
    → ((n : ℕ) → new n ≡ count n left)
    → ((n : ℕ) → 1 ≤ count n left → 1 ≤ count n held)
    → ((n : ℕ) → 1 ≤ count n held → count n (numbers_of files) ≤ count n (numbers_of more))
    → RightsMatch new more left
rights_match old new files more held left match counts held_before kept = record {
  counts = counts;
  there = λ n some.
      let before = held_before n some in omega (arith, match.there n before, kept n before);
}
