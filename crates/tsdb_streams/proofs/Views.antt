-- Sources as pages with their times, of which some are passed over: what is left of their merge.
use Rattle.std.proofs.Common.{◌≡◌, ◌⊎◌, inl, inr, ℤ, Bool, true, false, cond, not, List, [], ◌∷◌, ◌++◌, map, Option, None, Some, is_some, refl, sym, ap, subst, ◌∙◌}
use Rattle.std.specs.Prelude.{◌||◌, ◌&&◌, All, Contains, filter, flat_map}
use Rattle.std.specs.List.{AllByRecursion as Each, list_any}
use Rattle.std.proofs.lemmas.Bool.{false≢true}
use Rattle.std.proofs.lemmas.List.Elements.{All-contains, filter-append}
use Rattle.std.proofs.lemmas.List.Folds.{list_any-append}
use Rattle.tsdb_aggregate.specs.Pieces.{overlap}
use Rattle.tsdb_base.specs.declared.point.Point.{Point}
use Rattle.tsdb_base.specs.declared.point.Range.{Range}
use Rattle.tsdb_base.specs.declared.point.Stats.{Stats}
use Rattle.tsdb_streams.proofs.KeptLemmas.{common_time}
use Rattle.tsdb_streams.specs.KeptPoints.{stats_range}
use Rattle.tsdb_base.specs.Lists.{Among, EachPair, if_some}
use Rattle.tsdb_base.proofs.Lists.{each_among}
use Rattle.tsdb_model.specs.World.{is_in}
use Rattle.tsdb_base.specs.Points.{IsRising}
use Rattle.tsdb_merge.proofs.MergeLemmas.{Contains-head, Contains-tail}
use Rattle.tsdb_stats.specs.Statistics.{AreStatsOf}

-- ---- pages

-- a page or a part: its times, the statistics where it is passed over, and its points
pub record Seen : Type 0 where
  pub hull : Range
  pub passed : Option Stats
  pub points : List Point

-- a source: which points are kept, and its pages
pub record View : Type 0 where
  pub keep : Point → Bool
  pub seens : List Seen

abbrev pub all_of : View → List Point
all_of v = flat_map (λ (s : Seen). s.points) v.seens

abbrev pub left_of : View → List Point
left_of v = flat_map (λ (s : Seen). cond (is_some s.passed) [] s.points) v.seens

abbrev pub kept_all : View → List Point
kept_all v = filter v.keep (all_of v)

abbrev pub kept_left : View → List Point
kept_left v = filter v.keep (left_of v)

abbrev pub passed_of : View → List Stats
passed_of v = flat_map (λ (s : Seen). if_some s.passed) v.seens

abbrev pub gathered : List View → List Stats
gathered views = flat_map passed_of views

-- one of these covers the time
abbrev pub covered : List Stats → ℤ → Bool
covered stats time = list_any (λ s. is_in (stats_range s) time) stats

-- the points lie within the times, and statistics are those of the points, all of which are kept
pub record IsFit (keep : Point → Bool) (s : Seen) : Type 0 where
  pub inside : All (λ p. is_in s.hull p.time ≡ true) s.points
  pub times : (stats : Stats) → s.passed ≡ Some stats → stats_range stats ≡ s.hull
  pub are : (stats : Stats) → s.passed ≡ Some stats → AreStatsOf s.points stats
  pub kept : (stats : Stats) → s.passed ≡ Some stats → All (λ p. keep p ≡ true) s.points

-- where one of two is passed over, they have no time in common
pub record AreApart (a b : Seen) : Type 0 where
  pub first : is_some a.passed ≡ true → overlap a.hull b.hull ≡ false
  pub second : is_some b.passed ≡ true → overlap a.hull b.hull ≡ false

abbrev pub ViewsApart : View → View → Type 0
ViewsApart v w = Each (λ a. Each (AreApart a) w.seens) v.seens

pub record AreSound (views : List View) : Type 0 where
  pub fit : Each (λ v. Each (IsFit v.keep) v.seens) views
  pub rising : Each (λ v. IsRising (all_of v)) views
  pub within : Each (λ v. EachPair AreApart v.seens) views
  pub across : EachPair ViewsApart views

-- ---- pairs

or_swap : (a b : Bool) → (a || b) ≡ (b || a)
or_swap true true = refl
or_swap true false = refl
or_swap false true = refl
or_swap false false = refl

pub overlap_swap : (a b : Range) → overlap a b ≡ overlap b a
overlap_swap a b = or_swap (is_in a b.from && is_in b b.from) (is_in b a.from && is_in a a.from)

apart_swap : (a b : Seen) → AreApart a b → AreApart b a
apart_swap a b r = record { first = λ e. overlap_swap b.hull a.hull ∙ r.second e; second = λ e. overlap_swap b.hull a.hull ∙ r.first e }

pair_of : {X : Type 0} (R : X → X → Type 0) (xs : List X) (x y : X) → EachPair R xs → Among x xs → Among y xs → (x ≡ y) ⊎ (R x y ⊎ R y x)
pair_of R [] x y pairs mx my = absurd mx
pair_of R (z ∷ xs) x y pairs (inl ex) (inl ey) = inl (sym ex ∙ ey)
pair_of R (z ∷ xs) x y pairs (inl ex) (inr my) = inr (inl (subst (λ a. R a y) ex (each_among (R z) xs y pairs.0 my)))
pair_of R (z ∷ xs) x y pairs (inr mx) (inl ey) = inr (inr (subst (λ a. R a x) ey (each_among (R z) xs x pairs.0 mx)))
pair_of R (z ∷ xs) x y pairs (inr mx) (inr my) = pair_of R xs x y pairs.1 mx my

views_pair : (v w : View) (a b : Seen) → ViewsApart v w → Among a v.seens → Among b w.seens → AreApart a b
views_pair v w a b r ma mb = each_among (AreApart a) w.seens b (each_among (λ a. Each (AreApart a) w.seens) v.seens a r ma) mb

-- two pages of all are the same, or apart
pub separate : (views : List View) → AreSound views → (v w : View) (a b : Seen) → Among v views → Among a v.seens → Among w views → Among b w.seens → (a ≡ b) ⊎ AreApart a b
separate views sound v w a b mv ma mw mb = by (pair_of ViewsApart views v w sound.across mv mw)
  where
    inner : (pair : (a ≡ b) ⊎ (AreApart a b ⊎ AreApart b a)) → (a ≡ b) ⊎ AreApart a b
    inner (inl same) = inl same
    inner (inr (inl r)) = inr r
    inner (inr (inr r)) = inr (apart_swap b a r)

    by : (v ≡ w) ⊎ (ViewsApart v w ⊎ ViewsApart w v) → (a ≡ b) ⊎ AreApart a b
    by (inl same) = inner (pair_of AreApart v.seens a b (each_among (λ (v : View). EachPair AreApart v.seens) views v sound.within mv) ma (subst (λ (u : View). Among b u.seens) (sym same) mb))
    by (inr (inl r)) = inr (views_pair v w a b r ma mb)
    by (inr (inr r)) = inr (apart_swap b a (views_pair w v b a r mb ma))

pub fit_of : (views : List View) → AreSound views → (v : View) (a : Seen) → Among v views → Among a v.seens → IsFit v.keep a
fit_of views sound v a mv ma = each_among (IsFit v.keep) v.seens a (each_among (λ (v : View). Each (IsFit v.keep) v.seens) views v sound.fit mv) ma

-- ---- which times are covered

or_right : (a b : Bool) → b ≡ true → (a || b) ≡ true
or_right true b e = refl
or_right false b e = e

or_left : (a b : Bool) → a ≡ true → (a || b) ≡ true
or_left a b e = rw e refl

or_none : (a b : Bool) → a ≡ false → b ≡ false → (a || b) ≡ false
or_none a b e f = rw (e, f) refl

any_flat : {X Y : Type 0} (q : Y → Bool) (f : X → List Y) (xs : List X) (x : X) → Among x xs → list_any q (f x) ≡ true → list_any q (flat_map f xs) ≡ true
any_flat q f [] x m e = absurd m
any_flat q f (y ∷ xs) x (inl same) e = list_any-append q (f y) (flat_map f xs) ∙ or_left (list_any q (f y)) (list_any q (flat_map f xs)) (ap (λ z. list_any q (f z)) same ∙ e)
any_flat q f (y ∷ xs) x (inr m) e = list_any-append q (f y) (flat_map f xs) ∙ or_right (list_any q (f y)) (list_any q (flat_map f xs)) (any_flat q f xs x m e)

none_flat : {X Y : Type 0} (q : Y → Bool) (f : X → List Y) (xs : List X) → ((x : X) → Among x xs → list_any q (f x) ≡ false) → list_any q (flat_map f xs) ≡ false
none_flat q f [] none = refl
none_flat q f (y ∷ xs) none = list_any-append q (f y) (flat_map f xs) ∙ or_none (list_any q (f y)) (list_any q (flat_map f xs)) (none y (inl refl)) (none_flat q f xs (λ x m. none x (inr m)))

not_in : (a b : Range) (t : ℤ) → overlap a b ≡ false → is_in a t ≡ true → is_in b t ≡ true → ⊥
not_in a b t apart in_a in_b = false≢true (sym apart ∙ common_time a b t in_a in_b)

is_false : (b : Bool) → (b ≡ true → ⊥) → b ≡ false
is_false true none = absurd (none refl)
is_false false none = refl

module _ (views : List View) (sound : AreSound views) where
  covered_one : (v : View) (a : Seen) (p : Point) (passed : Option Stats) → Among v views → Among a v.seens → a.passed ≡ passed → Contains a.points p → covered (gathered views) p.time ≡ is_some passed
  covered_one v a p (Some stats) mv ma is has =
      let fit = fit_of views sound v a mv ma in
      let here : is_in (stats_range stats) p.time ≡ true = ap (λ r. is_in r p.time) (fit.times stats is) ∙ All-contains (λ (p : Point). is_in a.hull p.time ≡ true) a.points p fit.inside has in
      any_flat (λ s. is_in (stats_range s) p.time) passed_of views v mv (any_flat (λ s. is_in (stats_range s) p.time) (λ (s : Seen). if_some s.passed) v.seens a ma
      (ap (λ o. list_any (λ s. is_in (stats_range s) p.time) (if_some o)) is ∙ or_left (is_in (stats_range stats) p.time) false here))
  covered_one v a p None mv ma is has =
      none_flat (λ s. is_in (stats_range s) p.time) passed_of views (λ w mw. none_flat (λ s. is_in (stats_range s) p.time) (λ (s : Seen). if_some s.passed) w.seens (λ b mb. other w b b.passed mw mb refl))
    where
      clash : (stats : Stats) (b : Seen) → b.passed ≡ Some stats → (a ≡ b) ⊎ AreApart a b → is_in b.hull p.time ≡ true → ⊥
      clash stats b some (inl same) e = none_some (sym is ∙ ap (λ (s : Seen). s.passed) same ∙ some)
        where
          none_some : ◌≡◌ {A = Option Stats} None (Some stats) → ⊥
          none_some e = cc
      clash stats b some (inr apart) e =
          not_in a.hull b.hull p.time (apart.second (ap is_some some)) (All-contains (λ (p : Point). is_in a.hull p.time ≡ true) a.points p (fit_of views sound v a mv ma).inside has) e

      other : (w : View) (b : Seen) (passed : Option Stats) → Among w views → Among b w.seens → b.passed ≡ passed → list_any (λ s. is_in (stats_range s) p.time) (if_some b.passed) ≡ false
      other w b None mw mb some = ap (λ o. list_any (λ s. is_in (stats_range s) p.time) (if_some o)) some
      other w b (Some stats) mw mb some =
          ap (λ o. list_any (λ s. is_in (stats_range s) p.time) (if_some o)) some
          ∙ or_none (is_in (stats_range stats) p.time) false
          (is_false (is_in (stats_range stats) p.time) (λ e. clash stats b some (separate views sound v w a b mv ma mw mb) (ap (λ r. is_in r p.time) (sym ((fit_of views sound w b mw mb).times stats some)) ∙ e))) refl

-- ---- what is left of one source

same_test : (b : Bool) (x : Point) (xs ys : List Point) → xs ≡ ys → cond b (x ∷ xs) xs ≡ cond b (x ∷ ys) ys
same_test b x xs ys e = ap (λ l. cond b (x ∷ l) l) e

filter_twice : (u keep : Point → Bool) (x : Point) (xs : List Point) → filter u (cond (keep x) (x ∷ xs) xs) ≡ cond (keep x) (cond (u x) (x ∷ filter u xs) (filter u xs)) (filter u xs)
filter_twice u keep x xs = by (keep x)
  where
    by : (b : Bool) → filter u (cond b (x ∷ xs) xs) ≡ cond b (cond (u x) (x ∷ filter u xs) (filter u xs)) (filter u xs)
    by true = refl
    by false = refl

cond_same : {X : Type 0} (b : Bool) (x : X) → cond b x x ≡ x
cond_same true x = refl
cond_same false x = refl

filter_gone : (u keep : Point → Bool) (xs : List Point) → ((p : Point) → Contains xs p → u p ≡ false) → filter u (filter keep xs) ≡ []
filter_gone u keep [] none = refl
filter_gone u keep (x ∷ xs) none =
    let rest = filter_gone u keep xs (λ p has. none p (Contains-tail x p xs has)) in
    filter_twice u keep x (filter keep xs) ∙ ap (λ b. cond (keep x) (cond b (x ∷ filter u (filter keep xs)) (filter u (filter keep xs))) (filter u (filter keep xs))) (none x (Contains-head x xs))
    ∙ cond_same (keep x) (filter u (filter keep xs)) ∙ rest

filter_stays : (u keep : Point → Bool) (xs : List Point) → ((p : Point) → Contains xs p → u p ≡ true) → filter u (filter keep xs) ≡ filter keep xs
filter_stays u keep [] all = refl
filter_stays u keep (x ∷ xs) all =
    let rest = filter_stays u keep xs (λ p has. all p (Contains-tail x p xs has)) in
    filter_twice u keep x (filter keep xs) ∙ ap (λ b. cond (keep x) (cond b (x ∷ filter u (filter keep xs)) (filter u (filter keep xs))) (filter u (filter keep xs))) (all x (Contains-head x xs))
    ∙ ap (λ l. cond (keep x) (x ∷ l) l) rest

abbrev outside : List Stats → Point → Bool
outside stats p = not (covered stats p.time)

module _ (stats : List Stats) (keep : Point → Bool) where
  left_is : (seens : List Seen) → ((a : Seen) (p : Point) → Among a seens → Contains a.points p → covered stats p.time ≡ is_some a.passed)
      → filter keep (flat_map (λ (s : Seen). cond (is_some s.passed) [] s.points) seens) ≡ filter (outside stats) (filter keep (flat_map (λ (s : Seen). s.points) seens))
  left_is [] says = refl
  left_is (a ∷ seens) says =
      filter-append keep (cond (is_some a.passed) [] a.points) (flat_map (λ (s : Seen). cond (is_some s.passed) [] s.points) seens)
      ∙ ap (λ l. filter keep (cond (is_some a.passed) [] a.points) ++ l) (left_is seens (λ b p m has. says b p (inr m) has))
      ∙ ap (λ l. l ++ filter (outside stats) (filter keep (flat_map (λ (s : Seen). s.points) seens))) (one (is_some a.passed) (λ p has. says a p (inl refl) has))
      ∙ sym (ap (filter (outside stats)) (filter-append keep a.points (flat_map (λ (s : Seen). s.points) seens)) ∙ filter-append (outside stats) (filter keep a.points) (filter keep (flat_map (λ (s : Seen). s.points) seens)))
    where
      one : (b : Bool) → ((p : Point) → Contains a.points p → covered stats p.time ≡ b) → filter keep (cond b [] a.points) ≡ filter (outside stats) (filter keep a.points)
      one true e = sym (filter_gone (outside stats) keep a.points (λ p has. ap not (e p has)))
      one false e = sym (filter_stays (outside stats) keep a.points (λ p has. ap not (e p has)))

-- the points that are left of each source are those that are not covered
pub lists_left : (views : List View) → AreSound views → (some : List View) → ((v : View) → Among v some → Among v views) → map kept_left some ≡ map (filter (outside (gathered views))) (map kept_all some)
lists_left views sound [] among = refl
lists_left views sound (v ∷ some) among =
    ap (λ l. l ∷ map kept_left some) (left_is (gathered views) v.keep v.seens (λ a p m has. covered_one views sound v a p a.passed (among v (inl refl)) m refl has))
    ∙ ap (λ l. filter (outside (gathered views)) (kept_all v) ∷ l) (lists_left views sound some (λ w m. among w (inr m)))
