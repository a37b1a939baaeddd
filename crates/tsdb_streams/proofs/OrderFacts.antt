-- Of pages in order of time the first one that does not end before some times says whether one of them meets these.
use Rattle.std.proofs.Common.{◌≡◌, ℕ, ℤ, zero, suc, ◌+◌, ◌-◌, ◌<◌, ◌≤◌, Bool, true, false, List, [], ◌∷◌, length, map, take, get_or, refl, sym, ap, subst, ⊎_elim, ◌⊎◌, inl, inr, ◌∙◌, arith}
use Rattle.std.specs.Prelude.{◌||◌, ◌≤ℤ◌, ◌<ℤ◌, All, int_lt}
use Rattle.std.specs.List.Sorted.{IsPartitionedBy}
use Rattle.std.proofs.lemmas.Bool.{cases_lt}
use Rattle.std.proofs.lemmas.Int.{ints}
use Rattle.std.proofs.lemmas.List.{get_or-take, get_or_default, length-take-le, take_all, take_more}
use Rattle.std.proofs.lemmas.List.Elements.{All-head, All-nil, All-push, All-tail}
use Rattle.std.proofs.lemmas.List.Quantifiers.{all_pairs_push}
use Rattle.tsdb_aggregate.specs.Pieces.{overlap}
use Rattle.tsdb_base.specs.declared.point.Range.{Range}
use Rattle.tsdb_streams.specs.Clean.{any_meets}
use Rattle.tsdb_streams.specs.Cleaning.{page_times}
use Rattle.tsdb_streams.specs.Order.{ArePagesInOrder, IsNextPage}
use Rattle.tsdb_index.specs.declared.index.PageEntry.{PageEntry}
use Rattle.tsdb_merge.proofs.MergeLemmas.{AllPairs-head, AllPairs-tail}

abbrev Starts : PageEntry → Type 0
Starts page = page.stats.start ≤ℤ page.stats.end

abbrev Ends : PageEntry → PageEntry → Type 0
Ends a b = a.stats.end <ℤ b.stats.start

abbrev pub ends_before : Range → PageEntry → Bool
ends_before times page = int_lt page.stats.end times.from

-- ---- ranges

before_apart : (a times : Range) → int_lt a.to times.from ≡ true → overlap a times ≡ false
before_apart a times low = grind (arith, ints)

later_apart : (a b times : Range) → a.from ≤ℤ a.to → a.to <ℤ b.from → int_lt a.to times.from ≡ false → overlap a times ≡ false → overlap b times ≡ false
later_apart a b times is low reach apart = grind (arith, ints)

lt_of : (a b : ℤ) → int_lt a b ≡ true → a <ℤ b
lt_of a b e = grind (arith, ints)

lt_test : (a b : ℤ) → a <ℤ b → int_lt a b ≡ true
lt_test a b low = grind (arith, ints)

-- ---- the first page that does not end before the times

behind_first : (first : PageEntry) (pages : List PageEntry) (times : Range) → Starts first → All (Ends first) pages → ends_before times first ≡ false → overlap (page_times first) times ≡ false → any_meets times (map page_times pages) ≡ false
behind_first first [] times starts ends reach apart = refl
behind_first first (page ∷ pages) times starts ends reach apart =
    rw (later_apart (page_times first) (page_times page) times starts (All-head (Ends first) page pages ends) reach apart)
    (behind_first first pages times starts (All-tail (Ends first) page pages ends) reach apart)

first_says : (first : PageEntry) (pages : List PageEntry) (times : Range) → Starts first → All (Ends first) pages → ends_before times first ≡ false → any_meets times (map page_times (first ∷ pages)) ≡ overlap (page_times first) times
first_says first pages times starts ends reach = by (overlap (page_times first) times) refl
  where
    by : (b : Bool) → overlap (page_times first) times ≡ b → (b || any_meets times (map page_times pages)) ≡ b
    by true e = refl
    by false e = behind_first first pages times starts ends reach e

passing : (first : PageEntry) (pages : List PageEntry) (times : Range) → ends_before times first ≡ true → any_meets times (map page_times (first ∷ pages)) ≡ any_meets times (map page_times pages)
passing first pages times e = rw (before_apart (page_times first) times e) refl

-- the page at a place says whether one meets the times, where those before it end before these, and it does not
pub one_meets : (pages : List PageEntry) (times : Range) (place : ℕ) (page : PageEntry) → ArePagesInOrder pages → place < length pages → page ≡ get_or pages place page → ((k : ℕ) (d : PageEntry) → k < place → ends_before times (get_or pages k d) ≡ true)
    → ends_before times (get_or pages place page) ≡ false → overlap (page_times page) times ≡ any_meets times (map page_times pages)
one_meets [] times place page order low is early late = absurd (omega (arith, low))
one_meets (first ∷ pages) times zero page order low is early late =
    ap (λ (p : PageEntry). overlap (page_times p) times) is ∙ sym (first_says first pages times (All-head Starts first pages order.0) (AllPairs-head Ends first pages order.1) late)
one_meets (first ∷ pages) times (suc place) page order low is early late =
    one_meets pages times place page (All-tail Starts first pages order.0, AllPairs-tail Ends first pages order.1) (omega (arith, low)) is (λ k d below. early (suc k) d (omega (arith, below))) late
    ∙ sym (passing first pages times (early 0 first (omega arith)))

-- none meets the times where all end before these
pub none_meets : (pages : List PageEntry) (times : Range) → ((k : ℕ) (d : PageEntry) → k < length pages → ends_before times (get_or pages k d) ≡ true) → any_meets times (map page_times pages) ≡ false
none_meets [] times early = refl
none_meets (first ∷ pages) times early = passing first pages times (early 0 first (omega arith)) ∙ none_meets pages times (λ k d low. early (suc k) d (omega (arith, low)))

ends_sooner : (a b : PageEntry) (times : Range) → Ends a b → Starts b → ends_before times b ≡ true → ends_before times a ≡ true
ends_sooner a b times ends starts e = let low = lt_of b.stats.end times.from e in lt_test a.stats.end times.from (omega (arith, ints, low, ends, starts))

pub parted : (times : Range) (pages : List PageEntry) → ArePagesInOrder pages → IsPartitionedBy (ends_before times) pages
parted times pages order = λ i j d le within e.
    let P : ℕ → Type 0 = λ k. ends_before times (get_or pages k d) ≡ true in
    ⊎_elim (λ (lt : i < j). ends_sooner (get_or pages i d) (get_or pages j d) times (order.1 i j d lt within) (order.0 j d within) e)
    (λ (ge : j ≤ i). let same : j ≡ i = omega arith in subst P same e) (cases_lt i j)

-- ---- the test of the order, page by page

pub order_none : (pages : List PageEntry) → ArePagesInOrder (take 0 pages)
order_none pages = (All-nil Starts, λ i j d lt within. absurd (omega (arith, within)))

-- one page more
order_push : (pages : List PageEntry) (i : ℕ) (first : PageEntry) → i < length pages → ArePagesInOrder (take i pages) → IsNextPage pages i → ArePagesInOrder (take (i + 1) pages)
order_push pages i first low order next =
    subst ArePagesInOrder (sym (take_more pages i first low)) (All-push Starts (take i pages) (get_or pages i first) order.0 (next first).0, all_pairs_push Ends (take i pages) (get_or pages i first) order.1 (λ k d below. by k d (let long = long_is in omega (arith, below, long)) (cases_lt k (i - 1))))
  where
    long_is : length (take i pages) ≡ i
    long_is = length-take-le i pages (omega (arith, low))

    last : (d : PageEntry) → 0 < i → Ends (get_or (take i pages) (i - 1) d) (get_or pages i first)
    last d some =
        subst (λ (p : PageEntry). Ends p (get_or pages i first)) (sym (get_or-take (i - 1 + 1) pages (i - 1) d (omega arith)) ∙ ap (λ n. get_or (take n pages) (i - 1) d) (omega (arith, some)))
        (subst (λ (p : PageEntry). Ends (get_or pages (i - 1) d) p) (get_or_default pages i d first low) ((next d).1 some))

    by : (k : ℕ) (d : PageEntry) → k < i → (k < i - 1) ⊎ (i - 1 ≤ k) → Ends (get_or (take i pages) k d) (get_or pages i first)
    by k d below (inl lt) =
        let long = long_is in
        let one : Ends (get_or (take i pages) k d) (get_or (take i pages) (i - 1) d) = order.1 k (i - 1) d lt (omega (arith, below, long)) in
        let two : Starts (get_or (take i pages) (i - 1) d) = order.0 (i - 1) d (omega (arith, below, long)) in
        let three = last d (omega (arith, below)) in
        omega (arith, ints, one, two, three)
    by k d below (inr ge) =
        let same : k ≡ i - 1 = omega (arith, below, ge) in
        subst (λ n. Ends (get_or (take i pages) n d) (get_or pages i first)) (sym same) (last d (omega (arith, below)))

pub order_more : (pages : List PageEntry) (i : ℕ) → i < length pages → ArePagesInOrder (take i pages) → IsNextPage pages i → ArePagesInOrder (take (i + 1) pages)
order_more [] i low order next = absurd (omega (arith, low))
order_more (first ∷ rest) i low order next = order_push (first ∷ rest) i first low order next

pub order_all : (pages : List PageEntry) (i : ℕ) → length pages ≤ i → ArePagesInOrder (take i pages) → ArePagesInOrder pages
order_all pages i past order = subst ArePagesInOrder (take_all i pages past) order
