-- The points that a stream keeps of lists of points.
use Rattle.std.proofs.Common.{◌≡◌, ℕ, ℤ, ◌≤◌, Bool, true, false, List, [], ◌∷◌, length, refl, sym, ◌∙◌, arith}
use Rattle.std.proofs.lemmas.Int.{ints}
use Rattle.std.specs.Prelude.{cond, ◌&&◌, ◌≤ℤ◌, filter, int_le}
use Rattle.std.proofs.lemmas.Bool.{false≢true}
use Rattle.std.proofs.lemmas.List.Elements.{All-head, All-tail}
use Rattle.tsdb_aggregate.specs.Pieces.{overlap}
use Rattle.tsdb_base.specs.declared.point.Point.{Point}
use Rattle.tsdb_base.specs.declared.point.Range.{Range}
use Rattle.tsdb_base.specs.declared.point.Stats.{Stats}
use Rattle.tsdb_streams.specs.KeptPoints.{is_kept, kept, stats_range}
use Rattle.tsdb_model.specs.World.{is_in}
use Rattle.tsdb_marks.specs.declared.marks.Mark.{Mark}
use Rattle.tsfile_reader.specs.Page.{LieIn}

le_of : (a b : ℤ) → int_le a b ≡ true → a ≤ℤ b
le_of a b e = grind (arith, ints)

-- a point outside of the range is not kept
outside : (path : List ℕ) (range : Range) (marks : List Mark) (born : ℕ) (point : Point) → ((range.from ≤ℤ point.time) → (point.time ≤ℤ range.to) → ⊥) → is_kept path range marks born point ≡ false
outside path range marks born point none = by (int_le range.from point.time) (int_le point.time range.to) _ refl refl
  where
    by : (a b c : Bool) → int_le range.from point.time ≡ a → int_le point.time range.to ≡ b → ((a && b) && c) ≡ false
    by false b c e f = refl
    by true false c e f = refl
    by true true c e f = absurd (none (le_of range.from point.time e) (le_of point.time range.to f))

le_test : (a b : ℤ) → a ≤ℤ b → int_le a b ≡ true
le_test a b low = grind (arith, ints)

inside : (range : Range) (time : ℤ) → range.from ≤ℤ time → time ≤ℤ range.to → is_in range time ≡ true
inside range time from to = rw (le_test range.from time from, le_test time range.to to) refl

-- ranges that have a time in common overlap
pub common_time : (a b : Range) (time : ℤ) → is_in a time ≡ true → is_in b time ≡ true → overlap a b ≡ true
common_time a b time in_a in_b = grind (arith, ints)

-- none is kept of points whose times do not meet the range
pub none_kept : (path : List ℕ) (range : Range) (marks : List Mark) (born : ℕ) (stats : Stats) (points : List Point) → LieIn stats points → overlap range (stats_range stats) ≡ false → kept path range marks born points ≡ []
none_kept path range marks born stats [] lie apart = refl
none_kept path range marks born stats (point ∷ points) lie apart =
    let P : Point → Type 0 = λ point. (stats.start ≤ℤ point.time) × (point.time ≤ℤ stats.end) in
    let here = All-head P point points lie in
    let out = outside path range marks born point (λ from to. false≢true (sym apart ∙ common_time range (stats_range stats) point.time (inside range point.time from to) (inside (stats_range stats) point.time here.0 here.1))) in
    rw out (none_kept path range marks born stats points (All-tail P point points lie) apart)

one_fewer : (b : Bool) {X : Type 0} (x : X) (kept xs : List X) → length kept ≤ length xs → length (cond b (x ∷ kept) kept) ≤ length (x ∷ xs)
one_fewer true x kept xs low = omega (arith, low)
one_fewer false x kept xs low = omega (arith, low)

-- the points of a filter are no more
pub fewer_kept : {X : Type 0} (test : X → Bool) (xs : List X) → length (filter test xs) ≤ length xs
fewer_kept test [] = omega arith
fewer_kept test (x ∷ xs) = one_fewer (test x) x (filter test xs) xs (fewer_kept test xs)
