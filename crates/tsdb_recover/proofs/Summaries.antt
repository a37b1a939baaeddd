-- What entries say together, one entry more at a time.
use Rattle.std.proofs.Common.{◌≡◌, ℕ, suc, ℤ, ◌+◌, ◌-◌, ◌<◌, ◌≤◌, List, [], ◌∷◌, ◌++◌, length, get_or, take, map, Option, None, Some, inl, inr, refl, sym, ap, ◌∙◌, subst, take-suc, take_all, arith}
use Rattle.std.specs.Prelude.{◌⊎◌, sum_by, slice_get}
use Rattle.std.specs.List.{AllByRecursion as Each, AllZip}
use Rattle.std.specs.Option.{option_map}
use Rattle.std.proofs.lemmas.List.Sums.{sum_by-append}
use Rattle.std.proofs.lemmas.Option.{slice_get_cases}
use Rattle.tsdb_base.specs.declared.point.Point.{Point}
use Rattle.tsdb_base.specs.declared.point.Stats.{Stats}
use Rattle.tsdb_base.specs.declared.value.Value.{Value}
use Rattle.tsdb_base.specs.declared.value.Value.TheVariants as value
use Rattle.tsdb_recover.proofs.Order.{Comes, tree_rises}
use Rattle.tsdb_recover.proofs.Says.{entries_say}
use Rattle.tsdb_recover.specs.DescribedSteps.{AddsHull, AddsPath, IsSummary, SaysSeries}
use Rattle.tsdb_recover.specs.DescribedTrees.{tree_part}
use Rattle.tsdb_recover.specs.declared.summary.Summary.{Summary}
use Rattle.tsdb_flush.proofs.PartsInMaking.{before_middle}
use Rattle.tsdb_flush.proofs.Widening.{from_ends}
use Rattle.tsdb_flush.specs.MakingSteps.{AreFrom, ComeBefore}
use Rattle.tsdb_index.specs.declared.index.IndexEntry.{IndexEntry}
use Rattle.tsdb_flush.specs.BuiltFile.{paths_of}
use Rattle.tsdb_flush.specs.Parts.{Filled}
use Rattle.tsdb_base.proofs.Lists.{each_left, each_right, pairs_left}
use Rattle.tsdb_base.specs.Lists.{EachPair}
use Rattle.tsdb_base.specs.Points.{IsRising}
use Rattle.tsdb_pages.specs.File.{AreEntriesIn}
use Rattle.tsdb_pages.specs.Trees.{IsMade, IsTree}
use Rattle.tsdb_pages.specs.declared.tree.Tree.{Tree}
use Rattle.tsdb_path.specs.Nodes.{IsPath, child_of}
use Rattle.tsdb_stats.specs.Statistics.{AreStatsOf}

-- ---- the times of an entry

-- the point at a place, whose time this is
pub record HasPointAt (points : List Point) (place : ℕ) (time : ℤ) : Type 0 where
  pub point : Point
  pub within : place < length points
  pub at : get_or points place point ≡ point
  pub time_is : point.time ≡ time

point_at : (points : List Point) (place : ℕ) (time : ℤ)
    → option_map (λ (point : Point). value.I64 point.time) (slice_get points place) ≡ Some (value.I64 time)
    → HasPointAt points place time
point_at points place time is = pick (slice_get_cases points place).1
  where
    time_in : Point → Value
    time_in point = value.I64 point.time

    pick : ((point : Point) × (place < length points) × (slice_get points place ≡ Some point)
        × (get_or points place point ≡ point)) ⊎ ((length points ≤ place) × (slice_get points place ≡ None))
        → HasPointAt points place time
    pick (inl found) =
        let same : Some (value.I64 found.0.time) ≡ Some (value.I64 time) = ap (option_map time_in) (sym found.2) ∙ is in
        record { point = found.0; within = found.1; at = found.3; time_is = cc }
    pick (inr past) =
        let clash : None ≡ Some (value.I64 time) = ap (option_map time_in) (sym past.1) ∙ is in
        absurd cc

-- the points begin and end at the times that their statistics say
pub times_said : (points : List Point) (stats : Stats) → AreStatsOf points stats → IsRising points
    → AreFrom points stats.start stats.end
times_said points stats are rising =
    let first = point_at points 0 stats.start are.start in
    let last = point_at points (length points - 1) stats.end are.end in
    subst (λ from. AreFrom points from stats.end) first.time_is
    (subst (AreFrom points first.point.time) last.time_is
    (from_ends points first.point last.point rising first.within first.at last.at))

-- ---- one entry more

sum_more : (part : List Filled) (filled : Filled) → sum_by (λ f. length f.points) (part ++ filled ∷ [])
    ≡ sum_by (λ f. length f.points) part + length filled.points
sum_more part filled = grind (arith, sum_by-append (λ (f : Filled). length f.points) part (filled ∷ []))

paths_more : (part : List Filled) (filled : Filled) → paths_of (part ++ filled ∷ [])
    ≡ paths_of part ++ filled.schema.path ∷ []
paths_more [] filled = refl
paths_more (f ∷ part) filled = ap (λ (l : List (List ℕ)). f.schema.path ∷ l) (paths_more part filled)

pub summary_more : (part : List Filled) (filled : Filled) (entry : IndexEntry) (old new : Summary) → SaysSeries entry filled
    → ComeBefore part filled.schema → IsSummary part old → new.points ≡ old.points + entry.stats.count
    → AddsHull entry old.hulls.items new.hulls.items → AddsPath entry old.series.items new.series.items
    → IsSummary (part ++ filled ∷ []) new
summary_more part filled entry old new says before is count hull path = record {
  points = count ∙ (λ i. is.points i + says.stats.count i) ∙ sym (sum_more part filled);
  hulls = hull filled.points says.stats says.rising part filled.schema says.device before is.hulls;
  paths = λ all.
      let old_paths = is.paths (each_left (λ (f : Filled). IsPath f.schema.path) part (filled ∷ []) all) in
      let last : IsPath filled.schema.path = (each_right (λ (f : Filled). IsPath f.schema.path) part (filled ∷ []) all).0 in
      path (subst IsPath says.path last) ∙ ap (λ l. l ++ child_of entry.device entry.measurement ∷ []) old_paths
      ∙ ap (λ p. paths_of part ++ p ∷ []) (sym says.path) ∙ sym (paths_more part filled);
}

-- ---- all entries

-- what is summed up are the first entries, whatever series in order they are of
abbrev pub HasSummed : List IndexEntry → ℕ → Summary → Type 0
HasSummed entries place summary = (part : List Filled) → AllZip SaysSeries (take place entries) part → EachPair Comes part
    → IsSummary part summary

pub none_summed : (entries : List IndexEntry) (summary : Summary) → IsSummary [] summary → HasSummed entries 0 summary
none_summed entries summary is [] zip pairs = is
none_summed entries summary is (filled ∷ part) zip pairs = absurd zip

-- the last of the series, beside the last of the entries
pub record EndsWith {X Y : Type 0} (R : X → Y → Type 0) (xs : List X) (x : X) (ys : List Y) : Type 0 where
  pub front : List Y
  pub last : Y
  pub is : ys ≡ front ++ last ∷ []
  pub before : AllZip R xs front
  pub here : R x last

zip_last : {X Y : Type 0} (R : X → Y → Type 0) (xs : List X) (x : X) (ys : List Y) → AllZip R (xs ++ x ∷ []) ys
    → EndsWith R xs x ys
zip_last R [] x [] zip = absurd zip
zip_last R [] x (y ∷ []) zip = record { front = []; last = y; is = refl; before = tt; here = zip.0 }
zip_last R [] x (y ∷ z ∷ ys) zip = absurd zip.1
zip_last R (w ∷ xs) x [] zip = absurd zip
zip_last R (w ∷ xs) x (y ∷ ys) zip =
    let rest = zip_last R xs x ys zip.1 in
    record {
      front = y ∷ rest.front;
      last = rest.last;
      is = ap (λ l. y ∷ l) rest.is;
      before = (zip.0, rest.before);
      here = rest.here;
    }

pub one_summed : (entries : List IndexEntry) (place : ℕ) (entry : IndexEntry) (old new : Summary)
    → place < length entries → get_or entries place entry ≡ entry
    → ((part : List Filled) (filled : Filled) → SaysSeries entry filled → ComeBefore part filled.schema → IsSummary part old
    → IsSummary (part ++ filled ∷ []) new)
    → HasSummed entries place old → HasSummed entries (place + 1) new
one_summed entries place entry old new within at step summed = λ part zip pairs.
    let next : suc place ≡ place + 1 = omega arith in
    let more : take (place + 1) entries ≡ take place entries ++ entry ∷ [] =
    ap (λ (n : ℕ). take n entries) (sym next) ∙ take-suc entries place entry within
    ∙ ap (λ (e : IndexEntry). take place entries ++ e ∷ []) at in
    let ends = zip_last SaysSeries (take place entries) entry part (subst (λ l. AllZip SaysSeries l part) more zip) in
    let split : EachPair Comes (ends.front ++ ends.last ∷ []) = subst (EachPair Comes) ends.is pairs in
    subst (λ p. IsSummary p new) (sym ends.is)
    (step ends.front ends.last ends.here (before_middle Comes ends.front ends.last [] split)
    (summed ends.front ends.before (pairs_left Comes ends.front (ends.last ∷ []) split)))

pub all_summed : (entries : List IndexEntry) (place : ℕ) (summary : Summary) → length entries ≤ place
    → HasSummed entries place summary → (tree : Tree) → IsTree tree → IsMade tree → AreEntriesIn tree entries
    → IsSummary (tree_part tree) summary
all_summed entries place summary behind summed tree is made are = summed (tree_part tree)
    (subst (λ l. AllZip SaysSeries l (tree_part tree)) (sym (take_all place entries behind))
    (entries_say tree entries is made are)) (tree_rises tree is made)
