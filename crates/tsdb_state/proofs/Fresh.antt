-- Numbers that were drawn are new to the log; and what is in doubt stays so while more files go out.
use Rattle.std.proofs.Common.{◌≡◌, ℕ, ◌+◌, ◌<◌, ◌≤◌, Bool, true, false, cond, List, [], ◌∷◌, ◌++◌}
use Rattle.std.proofs.Common.{sym}
use Rattle.std.proofs.Common.{ap, subst, arith}
use Rattle.std.specs.Prelude.{◌≢◌, ◌==◌, Option, Some, None, IfSome}
use Rattle.std.specs.List.{AllByRecursion as Each}
use Rattle.std.proofs.lemmas.Bool.Decides.{nat_tests}
use mathlib.Core.List.{map-append}
use Rattle.tsdb_base.proofs.Lists.{among_left, each_weaker}
use Rattle.tsdb_base.specs.Lists.{Among, EachPair, count}
use Rattle.tsdb_log.specs.declared.record.LogRecord.{LogRecord}
use Rattle.tsdb_state.proofs.Counting.{rights_match}
use Rattle.tsdb_state.specs.Jobs.{NumbersInOrder, RightsMatch}
use Rattle.tsdb_base.specs.Limits.{end_of_numbers}
use Rattle.tsdb_state.specs.Order.{DoubtInOrder}
use Rattle.tsdb_state.specs.Records.{AreNew, numbers_of}
use Rattle.tsdb_state.specs.State.{File, StoreState, ToldContents}

is_itself : (n : ℕ) → (n == n) ≡ true
is_itself n = grind (arith, nat_tests)

pub count_here : (n : ℕ) (xs : List ℕ) → count n (n ∷ xs) ≡ 1 + count n xs
count_here n xs = ap (λ b. cond b 1 0 + count n xs) (is_itself n)

at_least : (a b : ℕ) → a ≡ 1 + b → 1 ≤ a
at_least a b e = omega arith

behind : (b : Bool) (m : ℕ) → 1 ≤ m → 1 ≤ cond b 1 0 + m
behind true m h = omega arith
behind false m h = omega arith

pub each_counted : (P : ℕ → Type 0) (xs : List ℕ) → ((n : ℕ) → 1 ≤ count n xs → P n) → Each P xs
each_counted P [] all = tt
each_counted P (x ∷ xs) all = (all x (at_least _ _ (count_here x _)), each_counted P xs (λ n h. all n (behind _ _ h)))

twice : (a b : ℕ) → a ≡ 1 + b → a ≤ 1 → 1 ≤ b → ⊥
twice a b e h k = omega arith

less : (b : Bool) (m : ℕ) → cond b 1 0 + m ≤ 1 → m ≤ 1
less true m h = omega arith
less false m h = omega arith

pub pairs_counted : (xs : List ℕ) → ((n : ℕ) → count n xs ≤ 1) → EachPair (λ a b. a ≢ b) xs
pairs_counted [] few = tt
pairs_counted (x ∷ xs) few = (
  each_counted _ _ (λ n h e. twice _ _ (count_here x _) (few x) (subst (λ m. 1 ≤ count m xs) (sym e) h)),
  pairs_counted xs (λ n. less _ _ (few n)),
)

-- numbers among those that are drawn
pub are_new : (named : List ℕ) (next : ℕ) (files : List File) (drawn xs : List ℕ)
    → NumbersInOrder named next files drawn → ((n : ℕ) → count n xs ≤ count n drawn) → AreNew named xs
are_new named next files drawn xs order few = record {
  within = each_counted _ _ (λ n h. below n (order.range n (among n h)).1 order.end);
  unnamed = each_counted _ _ (λ n h. order.unnamed n (drawn_too n h));
  differ = pairs_counted _ (λ n. fewer n (few n) (order.differ n));
}
  where
    drawn_too : (n : ℕ) → 1 ≤ count n xs → 1 ≤ count n drawn
    drawn_too n h = omega (arith, few n)

    among : (n : ℕ) → 1 ≤ count n xs → 1 ≤ count n (numbers_of files) + count n drawn
    among n h = omega (arith, few n)

    below : (n : ℕ) → n < next → next ≤ end_of_numbers → n < end_of_numbers
    below n h k = omega arith

    fewer : (n : ℕ) → count n xs ≤ count n drawn → count n (numbers_of files) + count n drawn ≤ 1 → count n xs ≤ 1
    fewer n h k = omega arith

-- more files on their way out
pub doubt_more : (told : ToldContents) (named : List ℕ) (state : StoreState) (outgoing built : List File)
    (doubt : Option LogRecord)
    → IfSome doubt (DoubtInOrder told named state outgoing)
    → IfSome doubt (DoubtInOrder told named state (outgoing ++ built))
doubt_more told named state outgoing built None order = order
doubt_more told named state outgoing built (Some item) order = record {
  can = order.can;
  order = order.order;
  world = order.world;
  kept = each_weaker _ _ (λ n among. subst (Among n) (sym (map-append _ _ _)) (among_left _ _ n among)) _ order.kept;
}

-- rights where more files are there
pub rights_more : (rights : ℕ → ℕ) (files new : List File) (held : List ℕ) → RightsMatch rights files held
    → ((n : ℕ) → count n (numbers_of files) ≤ count n (numbers_of new)) → RightsMatch rights new held
rights_more rights files new held match more =
    rights_match _ _ _ _ _ _ match match.counts (λ n some. some) (λ n some. more n)
