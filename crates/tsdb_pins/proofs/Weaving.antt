-- A loop that adds the statistics of clean pages, and the points between them, in order of time.
use Rattle.std.proofs.Common.{◌≡◌, ◌⊎◌, inl, inr, ℕ, ℤ, zero, suc, ◌+◌, ◌<◌, ◌≤◌, Bool, true, false, cond, not, List, [], ◌∷◌, ◌++◌, length, drop, get_or, Option, None, Some, refl, sym, ap, subst, ◌∙◌, arith}
use Rattle.std.specs.Prelude.{◌||◌, ◌&&◌, int_le, int_lt, ◌<ℤ◌, ◌≤ℤ◌, All, AllPairs, Contains, filter}
use Rattle.std.specs.List.{list_any}
use Rattle.std.proofs.lemmas.Bool.{false≢true}
use Rattle.std.proofs.lemmas.Int.{ints}
use Rattle.std.proofs.lemmas.List.Elements.{All-contains, All-cons, All-head, All-nil, All-tail, filter_passes}
use Rattle.std.proofs.lemmas.List.{append_assoc, append-nil}
use Rattle.std.proofs.lemmas.List.Kept.{AllPairs-filter}
use Rattle.tsdb_aggregate.proofs.ListFacts.{Contains-filter, Contains-from_filter}
use Rattle.tsdb_aggregate.specs.Steps.{IsTally}
use Rattle.tsdb_aggregate.specs.declared.tally.Tally.{Tally}
use Rattle.tsdb_base.specs.declared.answers.Aggregate.{Aggregate}
use Rattle.tsdb_base.specs.declared.answers.Figure.{Figure}
use Rattle.tsdb_base.specs.declared.point.Point.{Point}
use Rattle.tsdb_base.specs.declared.point.Stats.{Stats}
use Rattle.tsdb_streams.proofs.CleanFacts.{inside}
use Rattle.std.proofs.Math.Seq.{drop-cons}
use Rattle.tsdb_pins.proofs.Draining.{takes_none, takes_one}
use Rattle.tsdb_pins.specs.Reading.{IsFoldOf}
use Rattle.tsdb_pins.specs.Weaving.{AreLater, IsNextPoint, Weaves, ends_before}
use Rattle.tsdb_streams.specs.KeptPoints.{stats_range}
use Rattle.tsdb_streams.specs.PartedMerge.{AreStatsInOrder, IsParted, is_between, points_within}
use Rattle.tsdb_model.specs.Folds.{aggregate_of}
use Rattle.tsdb_model.specs.World.{is_in}
use Rattle.tsdb_base.specs.Points.{IsRising}
use Rattle.tsdb_merge.specs.Winners.{TakesTold}
use Rattle.tsdb_merge.proofs.MergeLemmas.{AllPairs-head, AllPairs-tail, Contains-cases, Contains-head, Contains-nil, Contains-tail}
use Rattle.tsdb_stats.specs.Statistics.{AreStatsOf}

abbrev Before : Point → Point → Type 0
Before a b = a.time <ℤ b.time

abbrev in_times : Stats → Point → Bool
in_times s p = is_in (stats_range s) p.time

below : (from to t : ℤ) → (int_le from t && int_le t to) ≡ false → t ≤ℤ to → t <ℤ from
below from to t out low = grind (arith, ints)

-- ---- the points of the first statistics stand first

none_in : (s : Stats) (points : List Point) → ((p : Point) → Contains points p → s.end <ℤ p.time) → filter (in_times s) points ≡ []
none_in s [] later = refl
none_in s (p ∷ ps) later = by (in_times s p) refl (none_in s ps (λ q has. later q (Contains-tail p q ps has)))
  where
    by : (b : Bool) → in_times s p ≡ b → filter (in_times s) ps ≡ [] → cond b (p ∷ filter (in_times s) ps) (filter (in_times s) ps) ≡ []
    by true e rest = absurd (let low = (inside (stats_range s) p.time e).1 in let high = later p (Contains-head p ps) in omega (arith, ints, low, high))
    by false e rest = rest

all_out : (s : Stats) (points : List Point) → ((p : Point) → Contains points p → s.end <ℤ p.time) → filter (λ p. not (in_times s p)) points ≡ points
all_out s [] later = refl
all_out s (p ∷ ps) later = by (in_times s p) refl (all_out s ps (λ q has. later q (Contains-tail p q ps has)))
  where
    by : (b : Bool) → in_times s p ≡ b → filter (λ p. not (in_times s p)) ps ≡ ps → cond (not b) (p ∷ filter (λ p. not (in_times s p)) ps) (filter (λ p. not (in_times s p)) ps) ≡ p ∷ ps
    by true e rest = absurd (let low = (inside (stats_range s) p.time e).1 in let high = later p (Contains-head p ps) in omega (arith, ints, low, high))
    by false e rest = ap (λ l. p ∷ l) rest

pub first_stand : (s : Stats) (points : List Point) → IsRising points → ((p : Point) → Contains points p → in_times s p ≡ false → s.end <ℤ p.time) → points ≡ filter (in_times s) points ++ filter (λ p. not (in_times s p)) points
first_stand s [] rising out = refl
first_stand s (p ∷ ps) rising out = by (in_times s p) refl (first_stand s ps (AllPairs-tail Before p ps rising) (λ q has e. out q (Contains-tail p q ps has) e))
  where
    later : in_times s p ≡ false → (q : Point) → Contains ps q → s.end <ℤ q.time
    later e q has =
        let high = out p (Contains-head p ps) e in
        let low : p.time <ℤ q.time = All-contains (Before p) ps q (AllPairs-head Before p ps rising) has in
        omega (arith, ints, high, low)

    by : (b : Bool) → in_times s p ≡ b → ps ≡ filter (in_times s) ps ++ filter (λ p. not (in_times s p)) ps
        → p ∷ ps ≡ cond b (p ∷ filter (in_times s) ps) (filter (in_times s) ps) ++ cond (not b) (p ∷ filter (λ p. not (in_times s p)) ps) (filter (λ p. not (in_times s p)) ps)
    by true e rest = ap (λ l. p ∷ l) rest
    by false e rest = sym (ap (λ l. l ++ p ∷ filter (λ p. not (in_times s p)) ps) (none_in s ps (later e)) ∙ ap (λ l. p ∷ l) (all_out s ps (later e)))

-- ---- what is between the later ones

filter_both : (s : Stats) (clean : List Stats) (points : List Point) → filter (is_between (s ∷ clean)) points ≡ filter (is_between clean) (filter (λ p. not (in_times s p)) points)
filter_both s clean [] = refl
filter_both s clean (p ∷ ps) = by (in_times s p) (filter_both s clean ps)
  where
    by : (b : Bool) → filter (is_between (s ∷ clean)) ps ≡ filter (is_between clean) (filter (λ p. not (in_times s p)) ps)
        → cond (not (b || list_any (λ stats. is_in (stats_range stats) p.time) clean)) (p ∷ filter (is_between (s ∷ clean)) ps) (filter (is_between (s ∷ clean)) ps)
        ≡ filter (is_between clean) (cond (not b) (p ∷ filter (λ p. not (in_times s p)) ps) (filter (λ p. not (in_times s p)) ps))
    by true rest = rest
    by false rest = ap (λ l. cond (is_between clean p) (p ∷ l) l) rest

-- a time of other statistics is none of these
within_out : (s t : Stats) (points : List Point) → s.end <ℤ t.start → points_within t (filter (λ p. not (in_times s p)) points) ≡ points_within t points
within_out s t [] low = refl
within_out s t (p ∷ ps) low = by (in_times s p) (in_times t p) refl refl (within_out s t ps low)
  where
    by : (a b : Bool) → in_times s p ≡ a → in_times t p ≡ b → points_within t (filter (λ p. not (in_times s p)) ps) ≡ points_within t ps
        → filter (in_times t) (cond (not a) (p ∷ filter (λ p. not (in_times s p)) ps) (filter (λ p. not (in_times s p)) ps)) ≡ cond b (p ∷ points_within t ps) (points_within t ps)
    by true true e f rest = absurd (let x = (inside (stats_range s) p.time e).1 in let y = (inside (stats_range t) p.time f).0 in omega (arith, ints, x, y, low))
    by true false e f rest = rest
    by false b e f rest = ap (λ c. cond c (p ∷ points_within t (filter (λ p. not (in_times s p)) ps)) (points_within t (filter (λ p. not (in_times s p)) ps))) f ∙ ap (λ l. cond b (p ∷ l) l) rest

taken_rest : (s : Stats) (clean : List Stats) (points : List Point) → AreStatsInOrder (s ∷ clean) points → AreStatsInOrder clean (filter (λ p. not (in_times s p)) points)
taken_rest s clean points taken = record {
  statistics = stats clean (AllPairs-head (λ (a b : Stats). a.end <ℤ b.start) s clean taken.order) (All-tail (λ stats. AreStatsOf (points_within stats points) stats) s clean taken.statistics);
  order = AllPairs-tail (λ (a b : Stats). a.end <ℤ b.start) s clean taken.order;
}
  where
    stats : (list : List Stats) → All (λ t. s.end <ℤ t.start) list → All (λ stats. AreStatsOf (points_within stats points) stats) list → All (λ stats. AreStatsOf (points_within stats (filter (λ p. not (in_times s p)) points)) stats) list
    stats [] low all = All-nil (λ stats. AreStatsOf (points_within stats (filter (λ p. not (in_times s p)) points)) stats)
    stats (t ∷ list) low all =
        All-cons (λ stats. AreStatsOf (points_within stats (filter (λ p. not (in_times s p)) points)) stats) t list
        (subst (λ ps. AreStatsOf ps t) (sym (within_out s t points (All-head (λ (t : Stats). s.end <ℤ t.start) t list low))) (All-head (λ stats. AreStatsOf (points_within stats points) stats) t list all))
        (stats list (All-tail (λ (t : Stats). s.end <ℤ t.start) t list low) (All-tail (λ stats. AreStatsOf (points_within stats points) stats) t list all))

-- ---- the loop

pub weaves_first : (name : Aggregate) (all left : List Point) (clean : List Stats) (tally : Tally) → IsTally name [] tally → AreStatsInOrder clean all → left ≡ filter (is_between clean) all → IsRising all → Weaves name all clean left tally
weaves_first name all left clean tally is taken left_is rising = record { done = []; rest = all; split = refl; tally_is = is; taken = taken; left_is = left_is; rising = rising }

any_after : (s : Stats) (clean : List Stats) (time : ℤ) → All (λ (t : Stats). s.end <ℤ t.start) clean → list_any (λ t. is_in (stats_range t) time) clean ≡ true → s.end <ℤ time
any_after s [] time low any = absurd (false≢true any)
any_after s (t ∷ clean) time low any = by (is_in (stats_range t) time) refl (any_after s clean time (All-tail (λ (t : Stats). s.end <ℤ t.start) t clean low))
  where
    by : (b : Bool) → is_in (stats_range t) time ≡ b → (list_any (λ t. is_in (stats_range t) time) clean ≡ true → s.end <ℤ time) → s.end <ℤ time
    by true e rest = let a = (inside (stats_range t) time e).0 in let b = All-head (λ (t : Stats). s.end <ℤ t.start) t clean low in omega (arith, ints, a, b)
    by false e rest = rest (sym (ap (λ b. b || list_any (λ t. is_in (stats_range t) time) clean) e) ∙ any)

-- the statistics of the next page are added
pub weaves_clean : (name : Aggregate) (all : List Point) (s : Stats) (clean : List Stats) (left : List Point) (tally one more : Tally) → Weaves name all (s ∷ clean) left tally → ((q : Point) → Contains left q → s.end <ℤ q.time)
    → ((xs ys : List Point) → IsTally name xs tally → IsTally name ys one → IsTally name (xs ++ ys) more) → ((points : List Point) → AreStatsOf points s → IsTally name points one) → Weaves name all clean left more
weaves_clean name all s clean left tally one more was later joins is = record {
  done = was.done ++ filter (in_times s) was.rest;
  rest = filter (λ p. not (in_times s p)) was.rest;
  split = was.split ∙ ap (λ l. was.done ++ l) (first_stand s was.rest was.rising out) ∙ sym (append_assoc was.done (filter (in_times s) was.rest) (filter (λ p. not (in_times s p)) was.rest));
  tally_is = joins was.done (filter (in_times s) was.rest) was.tally_is (is (filter (in_times s) was.rest) (All-head (λ stats. AreStatsOf (points_within stats was.rest) stats) s clean was.taken.statistics));
  taken = taken_rest s clean was.rest was.taken;
  left_is = was.left_is ∙ filter_both s clean was.rest;
  rising = AllPairs-filter Before (λ p. not (in_times s p)) was.rest was.rising;
}
  where
    out : (p : Point) → Contains was.rest p → in_times s p ≡ false → s.end <ℤ p.time
    out p has e = by (list_any (λ t. is_in (stats_range t) p.time) clean) refl
      where
        by : (b : Bool) → list_any (λ t. is_in (stats_range t) p.time) clean ≡ b → s.end <ℤ p.time
        by true any = any_after s clean p.time (AllPairs-head (λ (a b : Stats). a.end <ℤ b.start) s clean was.taken.order) any
        by false any = later p (subst (λ l. Contains l p) (sym was.left_is) (Contains-filter (is_between (s ∷ clean)) was.rest p has (ap not (ap (λ b. b || list_any (λ t. is_in (stats_range t) p.time) clean) e ∙ any))))

-- no page is left
pub weaves_end : (name : Aggregate) (all : List Point) (tally : Tally) → Weaves name all [] [] tally → IsTally name all tally
weaves_end name all tally was = subst (λ l. IsTally name l tally) (sym (was.split ∙ ap (λ l. was.done ++ l) (none was.rest was.left_is) ∙ append-nil was.done)) was.tally_is
  where
    none : (rest : List Point) → [] ≡ filter (is_between []) rest → rest ≡ []
    none [] e = refl
    none (p ∷ rest) e = absurd (nil_cons p (filter (is_between []) rest) e)
      where
        nil_cons : (p : Point) (ps : List Point) → [] ≡ p ∷ ps → ⊥
        nil_cons p ps e = cc

-- where the first statistics do not end before a point that is between them, no point before it is covered
covered_later : (clean : List Stats) (h q : Point) → AllPairs (λ a b. a.end <ℤ b.start) clean → AreLater (Some q) clean → is_between clean q ≡ true → list_any (λ t. is_in (stats_range t) h.time) clean ≡ true → h.time <ℤ q.time → ⊥
covered_later [] h q order none between any low = false≢true any
covered_later (s ∷ clean) h q order none between any low = by (in_times s h) refl
  where
    not_in : in_times s q ≡ false
    not_in = first (in_times s q) between
      where
        first : (b : Bool) → not (b || list_any (λ t. is_in (stats_range t) q.time) clean) ≡ true → b ≡ false
        first true e = absurd (false≢true e)
        first false e = refl

    before : q.time <ℤ s.start
    before = below s.start s.end q.time not_in none

    by : (b : Bool) → in_times s h ≡ b → ⊥
    by true e = let a = (inside (stats_range s) h.time e).0 in let b = before in absurd (omega (arith, ints, a, b, low))
    by false e =
        let late = any_after s clean h.time (AllPairs-head (λ (a b : Stats). a.end <ℤ b.start) s clean order) (sym (ap (λ b. b || list_any (λ t. is_in (stats_range t) h.time) clean) e) ∙ any) in
        absurd (omega (arith, ints, late, low, none))

-- a point between the pages is added
pub weaves_point : (name : Aggregate) (all : List Point) (clean : List Stats) (q : Point) (left : List Point) (tally one more : Tally) → Weaves name all clean (q ∷ left) tally → AreLater (Some q) clean
    → ((xs ys : List Point) → IsTally name xs tally → IsTally name ys one → IsTally name (xs ++ ys) more) → IsTally name (q ∷ []) one → Weaves name all clean left more
weaves_point name all clean q left tally one more was none joins is = by was.rest refl
  where
    nil_cons : (p : Point) (ps : List Point) → p ∷ ps ≡ [] → ⊥
    nil_cons p ps e = cc

    there : (h : Point) (rest : List Point) → q ∷ left ≡ filter (is_between clean) rest → (is_between clean q ≡ true) × Contains rest q
    there h rest e =
        let has : Contains (filter (is_between clean) rest) q = subst (λ l. Contains l q) e (Contains-head q left) in
        (All-contains (λ (p : Point). is_between clean p ≡ true) (filter (is_between clean) rest) q (filter_passes (is_between clean) rest) has, Contains-from_filter (is_between clean) rest q has)

    more_of : (rest : List Point) → was.rest ≡ q ∷ rest → left ≡ filter (is_between clean) rest → is_between clean q ≡ true → Weaves name all clean left more
    more_of rest split left_is between = record {
      done = was.done ++ q ∷ [];
      rest = rest;
      split = was.split ∙ ap (λ l. was.done ++ l) split ∙ sym (append_assoc was.done (q ∷ []) rest);
      tally_is = joins was.done (q ∷ []) was.tally_is is;
      taken = record { statistics = stats clean (subst (λ l. All (λ stats. AreStatsOf (points_within stats l) stats) clean) split was.taken.statistics) (apart clean between); order = was.taken.order };
      left_is = left_is;
      rising = AllPairs-tail Before q rest (subst IsRising split was.rising);
    }
      where
        apart : (list : List Stats) → is_between list q ≡ true → All (λ (s : Stats). in_times s q ≡ false) list
        apart [] e = All-nil (λ (s : Stats). in_times s q ≡ false)
        apart (s ∷ list) e = All-cons (λ (s : Stats). in_times s q ≡ false) s list (first (in_times s q) (list_any (λ t. is_in (stats_range t) q.time) list) e) (apart list (second (in_times s q) (list_any (λ t. is_in (stats_range t) q.time) list) e))
          where
            first : (a b : Bool) → not (a || b) ≡ true → a ≡ false
            first true b e = absurd (false≢true e)
            first false b e = refl

            second : (a b : Bool) → not (a || b) ≡ true → not b ≡ true
            second true b e = absurd (false≢true e)
            second false b e = e

        stats : (list : List Stats) → All (λ stats. AreStatsOf (points_within stats (q ∷ rest)) stats) list → All (λ (s : Stats). in_times s q ≡ false) list → All (λ stats. AreStatsOf (points_within stats rest) stats) list
        stats [] all out = All-nil (λ stats. AreStatsOf (points_within stats rest) stats)
        stats (s ∷ list) all out =
            All-cons (λ stats. AreStatsOf (points_within stats rest) stats) s list
            (subst (λ ps. AreStatsOf ps s) (ap (λ b. cond b (q ∷ points_within s rest) (points_within s rest)) (All-head (λ (s : Stats). in_times s q ≡ false) s list out)) (All-head (λ stats. AreStatsOf (points_within stats (q ∷ rest)) stats) s list all))
            (stats list (All-tail (λ stats. AreStatsOf (points_within stats (q ∷ rest)) stats) s list all) (All-tail (λ (s : Stats). in_times s q ≡ false) s list out))

    by : (rest : List Point) → was.rest ≡ rest → Weaves name all clean left more
    by [] e = absurd (nil_cons q left (was.left_is ∙ ap (filter (is_between clean)) e))
    by (h ∷ rest) e = choose (list_any (λ t. is_in (stats_range t) h.time) clean) refl
      where
        left_rest : q ∷ left ≡ filter (is_between clean) (h ∷ rest)
        left_rest = was.left_is ∙ ap (filter (is_between clean)) e

        choose : (b : Bool) → list_any (λ t. is_in (stats_range t) h.time) clean ≡ b → Weaves name all clean left more
        choose false any =
            let heads : q ∷ left ≡ h ∷ filter (is_between clean) rest = left_rest ∙ ap (λ b. cond (not b) (h ∷ filter (is_between clean) rest) (filter (is_between clean) rest)) any in
            let same : q ≡ h = cc in
            let left_is : left ≡ filter (is_between clean) rest = cc in
            more_of rest (e ∙ ap (λ p. p ∷ rest) (sym same)) left_is (there h (h ∷ rest) left_rest).0
        choose true any =
            let tails : q ∷ left ≡ filter (is_between clean) rest = left_rest ∙ ap (λ b. cond (not b) (h ∷ filter (is_between clean) rest) (filter (is_between clean) rest)) any in
            let found = there h rest tails in
            let low : h.time <ℤ q.time = All-contains (Before h) rest q (AllPairs-head Before h rest (subst IsRising e was.rising)) found.1 in
            absurd (covered_later clean h q was.taken.order none found.0 any low)

-- ---- one step of each loop

lt_of : (a b : ℤ) → int_lt a b ≡ true → a <ℤ b
lt_of a b e = grind (arith, ints)

le_not : (a b : ℤ) → int_lt a b ≡ false → b ≤ℤ a
le_not a b e = grind (arith, ints)

pub step_clean : (name : Aggregate) (all : List Point) (clean : List Stats) (i : ℕ) (s : Stats) (left : List Point) (point : Option Point) (tally one more : Tally) → i < length clean → s ≡ get_or clean i s → ends_before s point ≡ true → IsNextPoint point left
    → Weaves name all (drop i clean) left tally → ((xs ys : List Point) → IsTally name xs tally → IsTally name ys one → IsTally name (xs ++ ys) more) → ((points : List Point) → AreStatsOf points s → IsTally name points one) → Weaves name all (drop (i + 1) clean) left more
step_clean name all clean i s left point tally one more low at ends next was joins is =
    let step : i + 1 ≡ suc i = omega arith in
    let first : drop i clean ≡ s ∷ drop (i + 1) clean = drop-cons clean i s low ∙ ap (λ z. z ∷ drop (suc i) clean) (sym at) ∙ ap (λ n. s ∷ drop n clean) (sym step) in
    let now : Weaves name all (s ∷ drop (i + 1) clean) left tally = subst (λ l. Weaves name all l left tally) first was in
    weaves_clean name all s (drop (i + 1) clean) left tally one more now (later point ends next (subst IsRising (sym now.left_is) (AllPairs-filter Before (is_between (s ∷ drop (i + 1) clean)) now.rest now.rising))) joins is
  where
    later : (point : Option Point) → ends_before s point ≡ true → IsNextPoint point left → IsRising left → (q : Point) → Contains left q → s.end <ℤ q.time
    later None e none rising q has = absurd (Contains-nil q (subst (λ l. Contains l q) none has))
    later (Some p) e next rising q has = by (Contains-cases p q next.0 (subst (λ l. Contains l q) next.1 has))
      where
        by : (p ≡ q) ⊎ Contains next.0 q → s.end <ℤ q.time
        by (inl same) = subst (λ (z : Point). s.end <ℤ z.time) same (lt_of s.end p.time e)
        by (inr there) =
            let a = lt_of s.end p.time e in
            let b : p.time <ℤ q.time = All-contains (Before p) next.0 q (AllPairs-head Before p next.0 (subst IsRising next.1 rising)) there in
            omega (arith, ints, a, b)

pub later_here : (clean : List Stats) (i : ℕ) (s : Stats) (point : Option Point) → i < length clean → s ≡ get_or clean i s → ends_before s point ≡ false → AreLater point (drop i clean)
later_here clean i s None low at ends = absurd (false≢true (sym ends))
later_here clean i s (Some p) low at ends = subst (AreLater (Some p)) (sym (drop-cons clean i s low ∙ ap (λ z. z ∷ drop (suc i) clean) (sym at))) (le_not s.end p.time ends)

drop_all : {X : Type 0} (n : ℕ) (xs : List X) → length xs ≤ n → drop n xs ≡ []
drop_all zero [] low = refl
drop_all (suc n) [] low = refl
drop_all zero (x ∷ xs) low = absurd (omega (arith, low))
drop_all (suc n) (x ∷ xs) low = drop_all n xs (omega (arith, low))

pub later_end : (clean : List Stats) (n : ℕ) (point : Option Point) → length clean ≤ n → AreLater point (drop n clean)
later_end clean n None past = drop_all n clean past
later_end clean n (Some p) past = subst (AreLater (Some p)) (sym (drop_all n clean past)) tt

pub same_end : (name : Aggregate) (all : List Point) (clean : List Stats) (n m : ℕ) (left : List Point) (tally : Tally) → length clean ≤ n → length clean ≤ m → Weaves name all (drop n clean) left tally → Weaves name all (drop m clean) left tally
same_end name all clean n m left tally a b was = subst (λ l. Weaves name all l left tally) (drop_all n clean a ∙ sym (drop_all m clean b)) was

-- what was pulled of a stream, where it is told
pub record Woven (name : Aggregate) (all : List Point) (clean : List Stats) (next : ℕ) (now : Option (List Point)) (tally : Tally) : Type 0 where
  pub left : List Point
  pub told : now ≡ Some left
  pub weaves : Weaves name all (drop next clean) left tally

pub next_is : (now after : Option (List Point)) (left : List Point) (point : Option Point) → now ≡ Some left → TakesTold now point after → IsNextPoint point left
next_is now after left None is takes = takes_none now after left is takes
next_is now after left (Some q) is takes = let one = takes_one now after left q is takes in (one.0, one.2)

pub woven_point : (name : Aggregate) (all : List Point) (clean : List Stats) (next : ℕ) (now after : Option (List Point)) (left : List Point) (point : Option Point) (q : Point) (tally one more : Tally) → now ≡ Some left → TakesTold now point after → point ≡ Some q
    → Weaves name all (drop next clean) left tally → AreLater point (drop next clean) → ((xs ys : List Point) → IsTally name xs tally → IsTally name ys one → IsTally name (xs ++ ys) more) → IsTally name (q ∷ []) one → Woven name all clean next after more
woven_point name all clean next now after left point q tally one more is takes some weaves later joins single =
    let taken = takes_one now after left q is (subst (λ o. TakesTold now o after) some takes) in record {
      left = taken.0;
      told = taken.1;
      weaves = weaves_point name all (drop next clean) q taken.0 tally one more (subst (λ l. Weaves name all (drop next clean) l tally) taken.2 weaves) (subst (λ o. AreLater o (drop next clean)) some later) joins single;
    }

pub woven_end : (name : Aggregate) (all : List Point) (clean : List Stats) (next : ℕ) (now after : Option (List Point)) (left : List Point) (point : Option Point) (tally : Tally) → now ≡ Some left → TakesTold now point after → point ≡ None
    → Weaves name all (drop next clean) left tally → AreLater point (drop next clean) → IsTally name all tally
woven_end name all clean next now after left point tally is takes none weaves later =
    let empty : left ≡ [] = takes_none now after left is (subst (λ o. TakesTold now o after) none takes) in
    let no_clean : drop next clean ≡ [] = subst (λ o. AreLater o (drop next clean)) none later in
    weaves_end name all tally (subst (λ l. Weaves name all [] l tally) empty (subst (λ c. Weaves name all c left tally) no_clean weaves))

-- the answer of all points that are parted into clean pages and what is left
pub fold_of : (name : Aggregate) (lists : List (List Point)) (clean : List Stats) (left : Option (List Point)) (answer : Option Figure) → IsParted lists clean left
    → ((all : List Point) → AreStatsInOrder clean all → IsRising all → left ≡ Some (filter (is_between clean) all) → answer ≡ aggregate_of name all) → IsFoldOf name lists answer
fold_of name lists clean left answer is folded = record { points = is.points; merge = is.merge; is = folded is.points is.taken is.merge.rising is.left_is }
