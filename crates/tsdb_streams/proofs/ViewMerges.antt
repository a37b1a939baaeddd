-- The merge of sources of which pages are passed over.
use Rattle.std.proofs.Common.{◌≡◌, ◌⊎◌, inl, inr, ℕ, ℤ, ◌<◌, Bool, true, false, cond, not, List, [], ◌∷◌, ◌++◌, map, length, get_or, Option, None, Some, is_some, refl, sym, ap, subst, ◌∙◌, arith}
use Rattle.std.specs.Prelude.{◌<ℤ◌, ◌≤ℤ◌, ◌≢◌, All, AllPairs, Contains, filter, flat_map}
use Rattle.std.specs.List.{AllByRecursion as Each}
use Rattle.std.specs.List.Sorted.{IsPermutation}
use Rattle.std.proofs.lemmas.Bool.{false≢true}
use Rattle.std.proofs.lemmas.Int.{ints}
use Rattle.std.proofs.lemmas.List.Elements.{All-contains, All-cons, All-filter, All-from_recursion, All-head, All-nil, All-tail, filter_passes}
use Rattle.std.proofs.lemmas.List.Kept.{AllPairs-cons, AllPairs-filter}
use Rattle.std.proofs.lemmas.List.Sorted.{All-permutation, list_any-IsPermutation}
use Rattle.tsdb_aggregate.proofs.ListFacts.{AllPairs-permutation, Contains-filter, Contains-from_filter}
use Rattle.tsdb_aggregate.specs.Pieces.{overlap}
use Rattle.tsdb_base.specs.declared.answers.Aggregate.TheVariants.{MinTime}
use Rattle.tsdb_base.specs.declared.point.Point.{Point}
use Rattle.tsdb_base.specs.declared.point.Range.{Range}
use Rattle.tsdb_base.specs.declared.point.Stats.{Stats}
use Rattle.tsdb_base.specs.declared.value.Value.{Value}
use Rattle.tsdb_base.specs.declared.value.Value.TheVariants.{I64}
use Rattle.tsdb_streams.proofs.CleanFacts.{inside}
use Rattle.tsdb_streams.proofs.KeptLemmas.{common_time}
use Rattle.tsdb_streams.proofs.Views.{AreApart, AreSound, IsFit, Seen, View, ViewsApart, all_of, covered, fit_of, gathered, kept_all, kept_left, lists_left, overlap_swap, passed_of, separate}
use Rattle.tsdb_streams.specs.KeptPoints.{stats_range}
use Rattle.tsdb_streams.specs.PartedMerge.{AreStatsInOrder, is_between, points_within}
use Rattle.tsdb_base.specs.Lists.{Among, EachPair, if_some}
use Rattle.tsdb_base.proofs.Lists.{each_among}
use Rattle.tsdb_model.specs.Folds.{value_of_points}
use Rattle.tsdb_model.specs.World.{is_in}
use Rattle.tsdb_base.specs.Points.{IsRising}
use Rattle.tsdb_merge.specs.Winners.{HasNoneAt, IsMergeOf, IsWinner}
use Rattle.tsdb_merge.proofs.MergeLemmas.{AllPairs-head, AllPairs-nil, AllPairs-tail, Contains-cases, Contains-head, Contains-nil, Contains-tail, same_points}
use Rattle.tsdb_stats.specs.Statistics.{AreStatsOf}

-- ---- a merge, as far as times pass a test

module _ (test : ℤ → Bool) where
  abbrev at : Point → Bool
  at p = test p.time

  same_time : (q p : Point) → q.time ≡ p.time → at p ≡ true → at q ≡ true
  same_time q p same e = ap test same ∙ e

  none_back : (p : Point) (list : List Point) → at p ≡ true → HasNoneAt p.time (filter at list) → HasNoneAt p.time list
  none_back p [] here none = All-nil (λ (q : Point). q.time ≢ p.time)
  none_back p (q ∷ list) here none = by (at q) refl (none_back p list here) none
    where
      by : (b : Bool) → at q ≡ b → (HasNoneAt p.time (filter at list) → HasNoneAt p.time list) → HasNoneAt p.time (cond b (q ∷ filter at list) (filter at list)) → HasNoneAt p.time (q ∷ list)
      by true e rest h = All-cons (λ (q : Point). q.time ≢ p.time) q list (All-head (λ (q : Point). q.time ≢ p.time) q (filter at list) h) (rest (All-tail (λ (q : Point). q.time ≢ p.time) q (filter at list) h))
      by false e rest h = All-cons (λ (q : Point). q.time ≢ p.time) q list (λ same. false≢true (sym e ∙ same_time q p same here)) (rest h)

  all_back : (p : Point) (lists : List (List Point)) → at p ≡ true → All (HasNoneAt p.time) (map (filter at) lists) → All (HasNoneAt p.time) lists
  all_back p [] here none = All-nil (HasNoneAt p.time)
  all_back p (list ∷ lists) here none =
      All-cons (HasNoneAt p.time) list lists (none_back p list here (All-head (HasNoneAt p.time) (filter at list) (map (filter at) lists) none)) (all_back p lists here (All-tail (HasNoneAt p.time) (filter at list) (map (filter at) lists) none))

  all_on : (p : Point) (lists : List (List Point)) → All (HasNoneAt p.time) lists → All (HasNoneAt p.time) (map (filter at) lists)
  all_on p [] none = All-nil (HasNoneAt p.time)
  all_on p (list ∷ lists) none =
      All-cons (HasNoneAt p.time) (filter at list) (map (filter at) lists) (All-filter at (λ (q : Point). q.time ≢ p.time) list (All-head (HasNoneAt p.time) list lists none)) (all_on p lists (All-tail (HasNoneAt p.time) list lists none))

  passes : (p : Point) (list : List Point) → Contains (filter at list) p → at p ≡ true
  passes p list has = All-contains (λ (q : Point). at q ≡ true) (filter at list) p (filter_passes at list) has

  winner_back : (lists : List (List Point)) (p : Point) → IsWinner (map (filter at) lists) p → IsWinner lists p × (at p ≡ true)
  winner_back [] p win = absurd win
  winner_back (first ∷ later) p (inl win) = let rest = winner_back later p win in (inl rest.0, rest.1)
  winner_back (first ∷ later) p (inr win) = let here = passes p first win.0 in (inr (Contains-from_filter at first p win.0, all_back p later here win.1), here)

  winner_on : (lists : List (List Point)) (p : Point) → IsWinner lists p → at p ≡ true → IsWinner (map (filter at) lists) p
  winner_on [] p win here = absurd win
  winner_on (first ∷ later) p (inl win) here = inl (winner_on later p win here)
  winner_on (first ∷ later) p (inr win) here = inr (Contains-filter at first p win.0 here, all_on p later win.1)

  all_from : (Q : Point → Type 0) (xs : List Point) → ((p : Point) → Contains xs p → Q p) → All Q xs
  all_from Q [] f = All-nil Q
  all_from Q (x ∷ xs) f = All-cons Q x xs (f x (Contains-head x xs)) (all_from Q xs (λ p has. f p (Contains-tail x p xs has)))

  pub merge_filter : (lists : List (List Point)) (points : List Point) → IsMergeOf lists points → IsMergeOf (map (filter at) lists) (filter at points)
  merge_filter lists points merge = record {
    rising = AllPairs-filter (λ (a b : Point). a.time <ℤ b.time) at points merge.rising;
    winners = all_from (IsWinner (map (filter at) lists)) (filter at points) (λ p has. winner_on lists p (All-contains (IsWinner lists) points p merge.winners (Contains-from_filter at points p has)) (passes p points has));
    complete = λ p win. let back = winner_back lists p win in Contains-filter at points p (merge.complete p back.0) back.1;
  }

pub one_merge : (lists : List (List Point)) (xs ys : List Point) → IsMergeOf lists xs → IsMergeOf lists ys → xs ≡ ys
one_merge lists xs ys a b = same_points xs ys a.rising b.rising (λ p has. b.complete p (All-contains (IsWinner lists) xs p a.winners has)) (λ p has. a.complete p (All-contains (IsWinner lists) ys p b.winners has))

-- ---- the points of a page that is passed over

append_cases : (xs ys : List Point) (p : Point) → Contains (xs ++ ys) p → Contains xs p ⊎ Contains ys p
append_cases [] ys p has = inr has
append_cases (x ∷ xs) ys p has = step (Contains-cases x p (xs ++ ys) has) (append_cases xs ys p)
  where
    rest : Contains xs p ⊎ Contains ys p → Contains (x ∷ xs) p ⊎ Contains ys p
    rest (inl l) = inl (Contains-tail x p xs l)
    rest (inr r) = inr r

    step : (x ≡ p) ⊎ Contains (xs ++ ys) p → (Contains (xs ++ ys) p → Contains xs p ⊎ Contains ys p) → Contains (x ∷ xs) p ⊎ Contains ys p
    step (inl same) again = inl (subst (λ z. Contains (x ∷ xs) z) same (Contains-head x xs))
    step (inr there) again = rest (again there)

pub left_part : (xs ys : List Point) (p : Point) → Contains xs p → Contains (xs ++ ys) p
left_part [] ys p has = absurd (Contains-nil p has)
left_part (x ∷ xs) ys p has = step (Contains-cases x p xs has) (left_part xs ys p)
  where
    step : (x ≡ p) ⊎ Contains xs p → (Contains xs p → Contains (xs ++ ys) p) → Contains (x ∷ xs ++ ys) p
    step (inl same) again = subst (λ z. Contains (x ∷ xs ++ ys) z) same (Contains-head x (xs ++ ys))
    step (inr there) again = Contains-tail x p (xs ++ ys) (again there)

pub right_part : (xs ys : List Point) (p : Point) → Contains ys p → Contains (xs ++ ys) p
right_part [] ys p has = has
right_part (x ∷ xs) ys p has = Contains-tail x p (xs ++ ys) (right_part xs ys p has)

abbrev pub points_of : List Seen → List Point
points_of seens = flat_map (λ (s : Seen). s.points) seens

in_all : (seens : List Seen) (p : Point) → Contains (points_of seens) p → (b : Seen) × Among b seens × Contains b.points p
in_all [] p has = absurd (Contains-nil p has)
in_all (a ∷ seens) p has = by (append_cases a.points (points_of seens) p has) (in_all seens p)
  where
    by : Contains a.points p ⊎ Contains (points_of seens) p → (Contains (points_of seens) p → (b : Seen) × Among b seens × Contains b.points p) → (b : Seen) × Among b (a ∷ seens) × Contains b.points p
    by (inl here) again = (a, inl refl, here)
    by (inr there) again = let rest = again there in (rest.0, inr rest.1, rest.2)

to_all : (seens : List Seen) (a : Seen) (p : Point) → Among a seens → Contains a.points p → Contains (points_of seens) p
to_all [] a p m has = absurd m
to_all (b ∷ seens) a p (inl same) has = left_part b.points (points_of seens) p (subst (λ (s : Seen). Contains s.points p) (sym same) has)
to_all (b ∷ seens) a p (inr m) has = right_part b.points (points_of seens) p (to_all seens a p m has)

-- ---- lists that rise

abbrev Before : Point → Point → Type 0
Before a b = a.time <ℤ b.time

all_front : (Q : Point → Type 0) (xs ys : List Point) → All Q (xs ++ ys) → All Q xs
all_front Q [] ys all = All-nil Q
all_front Q (x ∷ xs) ys all = All-cons Q x xs (All-head Q x (xs ++ ys) all) (all_front Q xs ys (All-tail Q x (xs ++ ys) all))

pub rising_front : (xs ys : List Point) → IsRising (xs ++ ys) → IsRising xs
rising_front [] ys r = AllPairs-nil Before
rising_front (x ∷ xs) ys r = AllPairs-cons Before x xs (all_front (Before x) xs ys (AllPairs-head Before x (xs ++ ys) r)) (rising_front xs ys (AllPairs-tail Before x (xs ++ ys) r))

pub rising_back : (xs ys : List Point) → IsRising (xs ++ ys) → IsRising ys
rising_back [] ys r = r
rising_back (x ∷ xs) ys r = rising_back xs ys (AllPairs-tail Before x (xs ++ ys) r)

-- the points of one page rise
part_rises : (seens : List Seen) (a : Seen) → Among a seens → IsRising (points_of seens) → IsRising a.points
part_rises [] a m rising = absurd m
part_rises (b ∷ seens) a (inl same) rising = subst (λ (s : Seen). IsRising s.points) same (rising_front b.points (points_of seens) rising)
part_rises (b ∷ seens) a (inr m) rising = part_rises seens a m (rising_back b.points (points_of seens) rising)

winner_view : (views : List View) (test : Point → Bool) (p : Point) → IsWinner (map (filter test) (map kept_all views)) p → (w : View) × Among w views × Contains (filter test (kept_all w)) p
winner_view [] test p win = absurd win
winner_view (v ∷ views) test p (inl win) = let rest = winner_view views test p win in (rest.0, inr rest.1, rest.2)
winner_view (v ∷ views) test p (inr win) = (v, inl refl, win.0)

module _ (views : List View) (sound : AreSound views) where
  abbrev in_hull : Seen → Point → Bool
  in_hull a p = is_in a.hull p.time

  inside_of : (v : View) (a : Seen) (p : Point) → Among v views → Among a v.seens → Contains a.points p → is_in a.hull p.time ≡ true
  inside_of v a p mv ma has = All-contains (λ (p : Point). is_in a.hull p.time ≡ true) a.points p (fit_of views sound v a mv ma).inside has

  module _ (v : View) (a : Seen) (mv : Among v views) (ma : Among a v.seens) (stats : Stats) (passed : a.passed ≡ Some stats) where
    -- another page that has a point within its times is this one
    same_page : (w : View) (b : Seen) (p : Point) → Among w views → Among b w.seens → Contains b.points p → is_in a.hull p.time ≡ true → Contains a.points p
    same_page w b p mw mb has here = by (separate views sound v w a b mv ma mw mb)
      where
        by : (a ≡ b) ⊎ AreApart a b → Contains a.points p
        by (inl same) = subst (λ (s : Seen). Contains s.points p) (sym same) has
        by (inr apart) = absurd (false≢true (sym (apart.first (ap is_some passed)) ∙ common_time a.hull b.hull p.time here (inside_of w b p mw mb has)))

    complete : (p : Point) → IsWinner (map (filter (in_hull a)) (map kept_all views)) p → Contains a.points p
    complete p win =
        let found = winner_view views (in_hull a) p win in
        let w = found.0 in
        let here = All-contains (λ (q : Point). in_hull a q ≡ true) (filter (in_hull a) (kept_all w)) p (filter_passes (in_hull a) (kept_all w)) found.2 in
        let page = in_all w.seens p (Contains-from_filter w.keep (all_of w) p (Contains-from_filter (in_hull a) (kept_all w) p found.2)) in
        same_page w page.0 p found.1 page.1 page.2 here

    none_there : (w : View) (p : Point) → Among w views → ViewsApart v w → Contains a.points p → (q : Point) → Contains (filter (in_hull a) (kept_all w)) q → q.time ≢ p.time
    none_there w p mw apart has q there same =
        let here = All-contains (λ (q : Point). in_hull a q ≡ true) (filter (in_hull a) (kept_all w)) q (filter_passes (in_hull a) (kept_all w)) there in
        let page = in_all w.seens q (Contains-from_filter w.keep (all_of w) q (Contains-from_filter (in_hull a) (kept_all w) q there)) in
        let r = each_among (AreApart a) w.seens page.0 (each_among (λ a. Each (AreApart a) w.seens) v.seens a apart ma) page.1 in
        false≢true (sym (r.first (ap is_some passed)) ∙ common_time a.hull page.0.hull q.time here (inside_of w page.0 q mw page.1 page.2))

    all_none : (Q : Point → Type 0) (xs : List Point) → ((q : Point) → Contains xs q → Q q) → All Q xs
    all_none Q [] f = All-nil Q
    all_none Q (x ∷ xs) f = All-cons Q x xs (f x (Contains-head x xs)) (all_none Q xs (λ q h. f q (Contains-tail x q xs h)))

    none_later : (p : Point) (later : List View) → ((w : View) → Among w later → Among w views) → Each (ViewsApart v) later → Contains a.points p → All (HasNoneAt p.time) (map (filter (in_hull a)) (map kept_all later))
    none_later p [] among apart has = All-nil (HasNoneAt p.time)
    none_later p (w ∷ later) among apart has =
        All-cons (HasNoneAt p.time) (filter (in_hull a) (kept_all w)) (map (filter (in_hull a)) (map kept_all later))
        (all_none (λ (q : Point). q.time ≢ p.time) (filter (in_hull a) (kept_all w)) (none_there w p (among w (inl refl)) apart.0 has))
        (none_later p later (λ u m. among u (inr m)) apart.1 has)

    wins : (p : Point) (some : List View) → ((w : View) → Among w some → Among w views) → Among v some → EachPair ViewsApart some → Contains a.points p → IsWinner (map (filter (in_hull a)) (map kept_all some)) p
    wins p [] among m pairs has = absurd m
    wins p (w ∷ some) among (inl same) pairs has =
        let kept = All-contains (λ (p : Point). v.keep p ≡ true) a.points p ((fit_of views sound v a mv ma).kept stats passed) has in
        let there = Contains-filter (in_hull a) (kept_all v) p (Contains-filter v.keep (all_of v) p (to_all v.seens a p ma has) kept) (inside_of v a p mv ma has) in
        inr (subst (λ (u : View). Contains (filter (in_hull a) (kept_all u)) p) (sym same) there, none_later p some (λ u m. among u (inr m)) (subst (λ (u : View). Each (ViewsApart u) some) same pairs.0) has)
    wins p (w ∷ some) among (inr m) pairs has = inl (wins p some (λ u k. among u (inr k)) m pairs.1 has)

    merge_page : IsMergeOf (map (filter (in_hull a)) (map kept_all views)) a.points
    merge_page = record {
      rising = part_rises v.seens a ma (each_among (λ (v : View). IsRising (all_of v)) views v sound.rising mv);
      winners = all_none (IsWinner (map (filter (in_hull a)) (map kept_all views))) a.points (λ p has. wins p views (λ w m. m) mv sound.across has);
      complete = complete;
    }

    -- the statistics are those of the merge's points within their times
    pub stats_within : (points : List Point) → IsMergeOf (map kept_all views) points → AreStatsOf (points_within stats points) stats
    stats_within points merge =
        let fit = fit_of views sound v a mv ma in
        let part = merge_filter (is_in a.hull) (map kept_all views) points merge in
        let same : filter (in_hull a) points ≡ a.points = one_merge (map (filter (in_hull a)) (map kept_all views)) (filter (in_hull a) points) a.points part merge_page in
        subst (λ ps. AreStatsOf ps stats) (sym (ap (λ r. filter (λ (p : Point). is_in r p.time) points) (fit.times stats passed) ∙ same)) (fit.are stats passed)

-- ---- all pages that are passed over, in order of time

each_append : {X : Type 0} (P : X → Type 0) (xs ys : List X) → Each P xs → Each P ys → Each P (xs ++ ys)
each_append P [] ys a b = b
each_append P (x ∷ xs) ys a b = (a.0, each_append P xs ys a.1 b)

each_flat : {X Y : Type 0} (P : Y → Type 0) (f : X → List Y) (xs : List X) → ((x : X) → Among x xs → Each P (f x)) → Each P (flat_map f xs)
each_flat P f [] each = tt
each_flat P f (x ∷ xs) each = each_append P (f x) (flat_map f xs) (each x (inl refl)) (each_flat P f xs (λ y m. each y (inr m)))

pairs_append : {X : Type 0} (R : X → X → Type 0) (xs ys : List X) → EachPair R xs → EachPair R ys → Each (λ x. Each (R x) ys) xs → EachPair R (xs ++ ys)
pairs_append R [] ys a b cross = b
pairs_append R (x ∷ xs) ys a b cross = (each_append (R x) xs ys a.0 cross.0, pairs_append R xs ys a.1 b cross.1)

each_of : {X : Type 0} (P : X → Type 0) (xs : List X) → ((x : X) → Among x xs → P x) → Each P xs
each_of P [] f = tt
each_of P (x ∷ xs) f = (f x (inl refl), each_of P xs (λ y m. f y (inr m)))

pairs_flat : {X Y : Type 0} (R : Y → Y → Type 0) (Q : X → X → Type 0) (f : X → List Y) (xs : List X) → EachPair Q xs → ((x : X) → Among x xs → EachPair R (f x))
    → ((x z : X) → Among x xs → Among z xs → Q x z → Each (λ y. Each (R y) (f z)) (f x)) → EachPair R (flat_map f xs)
pairs_flat R Q f [] pairs one two = tt
pairs_flat R Q f (x ∷ xs) pairs one two =
    pairs_append R (f x) (flat_map f xs) (one x (inl refl)) (pairs_flat R Q f xs pairs.1 (λ z m. one z (inr m)) (λ z w mz mw q. two z w (inr mz) (inr mw) q))
    (each_of (λ y. Each (R y) (flat_map f xs)) (f x) (λ y my. each_flat (R y) f xs (λ z mz. each_among (λ y. Each (R y) (f z)) (f x) y (two x z (inl refl) (inr mz) (each_among (Q x) xs z pairs.0 mz)) my)))

pairs_all : {X : Type 0} (R : X → X → Type 0) (xs : List X) → EachPair R xs → AllPairs R xs
pairs_all R [] pairs = λ i j d l m. absurd (omega (arith, m))
pairs_all R (x ∷ xs) pairs = AllPairs-cons R x xs (All-from_recursion (R x) xs pairs.0) (pairs_all R xs pairs.1)

abbrev Disjoint : Stats → Stats → Type 0
Disjoint s t = overlap (stats_range s) (stats_range t) ≡ false

disjoint_swap : (s t : Stats) → Disjoint s t → Disjoint t s
disjoint_swap s t e = overlap_swap (stats_range t) (stats_range s) ∙ e

is_proper : (keep : Point → Bool) (a : Seen) (stats : Stats) → IsFit keep a → a.passed ≡ Some stats → stats.start ≤ℤ stats.end
is_proper keep a stats fit is = by a.points (fit.are stats is).start fit.inside
  where
    none_some : ◌≡◌ {A = Option Value} None (Some (I64 stats.start)) → ⊥
    none_some e = cc

    by : (points : List Point) → value_of_points MinTime points ≡ Some (I64 stats.start) → All (λ p. is_in a.hull p.time ≡ true) points → stats.start ≤ℤ stats.end
    by [] e all = absurd (none_some e)
    by (p ∷ ps) e all =
        let at = inside a.hull p.time (All-head (λ (p : Point). is_in a.hull p.time ≡ true) p ps all) in
        let times : stats_range stats ≡ a.hull = fit.times stats is in
        subst (λ (r : Range). r.from ≤ℤ r.to) (sym times) (omega (arith, ints, at.0, at.1))

ends_first : (a b : Range) → a.from ≤ℤ a.to → b.from ≤ℤ b.to → a.from ≤ℤ b.from → overlap a b ≡ false → a.to <ℤ b.from
ends_first a b na nb l e = grind (arith, ints)

module _ (views : List View) (sound : AreSound views) where
  passed_is : (P : Stats → Type 0) → ((v : View) (a : Seen) (stats : Stats) → Among v views → Among a v.seens → a.passed ≡ Some stats → P stats) → Each P (gathered views)
  passed_is P f = each_flat P passed_of views (λ v mv. each_flat P (λ (s : Seen). if_some s.passed) v.seens (λ a ma. one v a a.passed mv ma refl))
    where
      one : (v : View) (a : Seen) (passed : Option Stats) → Among v views → Among a v.seens → a.passed ≡ passed → Each P (if_some a.passed)
      one v a None mv ma is = subst (λ o. Each P (if_some o)) (sym is) tt
      one v a (Some stats) mv ma is = subst (λ o. Each P (if_some o)) (sym is) (f v a stats mv ma is, tt)

  disjoint_two : (v w : View) (a b : Seen) (p q : Option Stats) → Among v views → Among w views → Among a v.seens → Among b w.seens → AreApart a b → a.passed ≡ p → b.passed ≡ q → Each (λ s. Each (Disjoint s) (if_some q)) (if_some p)
  disjoint_two v w a b None q mv mw ma mb apart ep eq = tt
  disjoint_two v w a b (Some s) None mv mw ma mb apart ep eq = (tt, tt)
  disjoint_two v w a b (Some s) (Some t) mv mw ma mb apart ep eq =
      ((ap (λ r. overlap r (stats_range t)) ((fit_of views sound v a mv ma).times s ep) ∙ ap (overlap a.hull) ((fit_of views sound w b mw mb).times t eq) ∙ apart.first (ap is_some ep), tt), tt)

  cross_two : (v w : View) (a b : Seen) → Among v views → Among w views → Among a v.seens → Among b w.seens → AreApart a b → Each (λ s. Each (Disjoint s) (if_some b.passed)) (if_some a.passed)
  cross_two v w a b mv mw ma mb apart = disjoint_two v w a b a.passed b.passed mv mw ma mb apart refl refl

  one_alone : (o : Option Stats) → EachPair Disjoint (if_some o)
  one_alone None = tt
  one_alone (Some s) = (tt, tt)

  all_disjoint : EachPair Disjoint (gathered views)
  all_disjoint =
      pairs_flat Disjoint ViewsApart passed_of views sound.across
      (λ v mv. pairs_flat Disjoint AreApart (λ (s : Seen). if_some s.passed) v.seens (each_among (λ (v : View). EachPair AreApart v.seens) views v sound.within mv) (λ a ma. one_alone a.passed) (λ a b ma mb apart. cross_two v v a b mv mv ma mb apart))
      (λ v w mv mw apart. across v w mv mw apart)
    where
      across : (v w : View) → Among v views → Among w views → ViewsApart v w → Each (λ s. Each (Disjoint s) (passed_of w)) (passed_of v)
      across v w mv mw apart = each_flat (λ s. Each (Disjoint s) (passed_of w)) (λ (s : Seen). if_some s.passed) v.seens (λ a ma. each_of (λ s. Each (Disjoint s) (passed_of w)) (if_some a.passed)
          (λ s ms. each_flat (Disjoint s) (λ (t : Seen). if_some t.passed) w.seens (λ b mb.
          each_among (λ s. Each (Disjoint s) (if_some b.passed)) (if_some a.passed) s (cross_two v w a b mv mw ma mb (each_among (AreApart a) w.seens b (each_among (λ a. Each (AreApart a) w.seens) v.seens a apart ma) mb)) ms)))

  -- the merge is parted
  pub parted : (clean : List Stats) (points left : List Point) → IsPermutation (gathered views) clean → AllPairs (λ a b. a.start ≤ℤ b.start) clean → IsMergeOf (map kept_all views) points → IsMergeOf (map kept_left views) left
      → AreStatsInOrder clean points × (left ≡ filter (is_between clean) points)
  parted clean points left perm starts merge rest = (
    record {
      statistics = All-permutation (λ stats. AreStatsOf (points_within stats points) stats) (gathered views) clean perm
          (All-from_recursion (λ stats. AreStatsOf (points_within stats points) stats) (gathered views) (passed_is (λ stats. AreStatsOf (points_within stats points) stats) (λ v a stats mv ma is. stats_within views sound v a mv ma stats is points merge)));
      order = λ i j d l m. ends_first (stats_range (get_or clean i d)) (stats_range (get_or clean j d)) (proper i d (omega (arith, l, m))) (proper j d m) (starts i j d l m) (apart i j d l m);
    },
    same,
  )
    where
      all_proper : All (λ (s : Stats). s.start ≤ℤ s.end) clean
      all_proper = All-permutation (λ (s : Stats). s.start ≤ℤ s.end) (gathered views) clean perm
          (All-from_recursion (λ (s : Stats). s.start ≤ℤ s.end) (gathered views) (passed_is (λ (s : Stats). s.start ≤ℤ s.end) (λ v a stats mv ma is. is_proper v.keep a stats (fit_of views sound v a mv ma) is)))

      proper : (i : ℕ) (d : Stats) → i < length clean → (get_or clean i d).start ≤ℤ (get_or clean i d).end
      proper i d l = all_proper i d l

      apart : AllPairs Disjoint clean
      apart = AllPairs-permutation Disjoint disjoint_swap (gathered views) clean perm (pairs_all Disjoint (gathered views) all_disjoint)

      test : ℤ → Bool
      test t = not (covered (gathered views) t)

      all_left : map kept_left views ≡ map (filter (λ (p : Point). test p.time)) (map kept_all views)
      all_left = lists_left views sound views (λ v m. m)

      same_cover : (t : ℤ) → covered (gathered views) t ≡ covered clean t
      same_cover t = list_any-IsPermutation (λ s. is_in (stats_range s) t) (gathered views) clean perm

      same : left ≡ filter (is_between clean) points
      same = one_merge (map kept_left views) left (filter (λ (p : Point). test p.time) points) rest (subst (λ ls. IsMergeOf ls (filter (λ (p : Point). test p.time) points)) (sym all_left) (merge_filter test (map kept_all views) points merge))
          ∙ ap (λ f. filter f points) (λ i p. not (same_cover p.time i))
