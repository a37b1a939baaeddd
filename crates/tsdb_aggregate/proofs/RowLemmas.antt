-- Rows of entries, and lanes of them.
use Rattle.std.proofs.Common.{◌≡◌, ℕ, zero, suc, ◌+◌, ◌<◌, ◌≤◌, List, [], ◌∷◌, ◌++◌, length, get_or, take, drop, Some, refl, sym, ap, ◌∙◌, subst, map, sum_by, ⊎_elim, arith}
use Rattle.std.specs.Prelude.{ℤ, ◌<ℤ◌, ◌≤ℤ◌, ◌≢◌, All, AllPairs, Contains, IsTrue}
use Rattle.std.specs.List.{AllZip}
use Rattle.std.specs.Vec.Iter.{into_iter_items}
use Rattle.std.proofs.lemmas.Grind.{flat_map-append}
use Rattle.std.proofs.lemmas.Int.{ints}
use Rattle.std.proofs.lemmas.List.{append-nil, append_assoc, length-drop, map-append, take_more}
use Rattle.std.proofs.lemmas.List.Elements.{All-cons, All-contains, All-head, All-map, All-nil, All-push, All-tail, Contains-append_cases}
use Rattle.std.proofs.lemmas.List.Sorted.{All-permutation, IsPermutation-map, sum_by-IsPermutation}
use Rattle.std.proofs.lemmas.List.Sums.{sum_by-append, sum_by-cons}
use Rattle.tsdb_base.specs.declared.point.Point.{Point}
use Rattle.tsdb_base.specs.declared.point.Range.{Range}
use Rattle.tsdb_model.specs.World.{is_in}
use Rattle.tsdb_base.specs.Points.{IsRising}
use Rattle.tsdb_merge.specs.Winners.{HasNoneAt, IsMergeOf}
use Rattle.tsdb_merge.proofs.Joined.{joined_merge}
use Rattle.tsdb_merge.proofs.MergeLemmas.{AllPairs-head, AllPairs-nil, AllPairs-tail, All-from_contains, All-left, All-right, Contains-head, Contains-nil, Contains-tail}
use Rattle.tsdb_aggregate.specs.Lanes.{AreLanesOf, HasPiecePlaces, IsLaneOf, IsRowOfPieces, append_told, rows_joined, lane_cost, lane_left, lefts, told_behind}
use Rattle.tsdb_aggregate.specs.Loads.{Held, held_at}
use Rattle.tsdb_aggregate.specs.Pieces.{HasOrder, HeldPiece, hull, piece_points}
use Rattle.tsdb_aggregate.specs.Steps.{held_piece, held_parts}
use Rattle.tsdb_aggregate.specs.declared.entry.PieceEntry.{PieceEntry}
use Rattle.tsdb_aggregate.specs.declared.lanes.Lane.{Lane}
use Rattle.tsdb_aggregate.proofs.ListFacts.{AllPairs-append, take_two}

-- ---- how long a row is

abbrev same_source : PieceEntry → PieceEntry → Type 0
same_source a b = a.piece.now.source ≡ b.piece.now.source

abbrev ends_before : PieceEntry → PieceEntry → Type 0
ends_before a b = a.piece.now.stats.end <ℤ b.piece.now.stats.start

pairs_one : {X : Type 0} (R : X → X → Type 0) (x : X) → AllPairs R (x ∷ [])
pairs_one R x i j d l m = absurd (omega (arith, l, m))

pairs_more : {X : Type 0} (R : X → X → Type 0) (xs : List X) (x : X) → AllPairs R xs → All (λ y. R y x) xs → AllPairs R (xs ++ x ∷ [])
pairs_more R xs x pairs each = AllPairs-append R xs (x ∷ []) pairs (pairs_one R x) (λ a b ha hb. subst (λ y. R a y) (only x b hb) (All-contains (λ y. R y x) xs a each ha))
  where
    only : {X : Type 0} (x y : X) → Contains (x ∷ []) y → x ≡ y
    only x y (zero, l, e) = e
    only x y (suc k, l, e) = absurd (omega (arith, l))

pub row_more : (entries : List PieceEntry) (n : ℕ) (x : PieceEntry) (source : ℕ) (end : ℤ) → n < length entries → x ≡ get_or entries n x → All (λ a. a.piece.now.source ≡ source) (take n entries) → All (λ a. a.piece.now.stats.end ≤ℤ end) (take n entries)
    → (get_or entries n x).piece.now.source ≡ source → end <ℤ (get_or entries n x).piece.now.stats.start → IsRowOfPieces (take n entries) → IsRowOfPieces (take (n + 1) entries)
row_more entries n x source end l is sources ends own after row =
    let z = get_or entries n x in
    let split : take (n + 1) entries ≡ take n entries ++ z ∷ [] = take_more entries n x l in
    let some = row.some in
    rw split (record {
      some = omega (arith, length-more (take n entries) z);
      source = pairs_more same_source (take n entries) z row.source (weaker (λ a. a.piece.now.source ≡ source) (λ a. same_source a z) (λ a e. e ∙ sym own) (take n entries) sources);
      order = pairs_more ends_before (take n entries) z row.order (weaker (λ a. a.piece.now.stats.end ≤ℤ end) (λ a. ends_before a z) (λ a e. omega (arith, ints)) (take n entries) ends);
    })
  where
    length-more : (xs : List PieceEntry) (y : PieceEntry) → length (xs ++ y ∷ []) ≡ suc (length xs)
    length-more [] y = refl
    length-more (x ∷ xs) y = ap suc (length-more xs y)

    weaker : (P Q : PieceEntry → Type 0) → ((a : PieceEntry) → P a → Q a) → (xs : List PieceEntry) → All P xs → All Q xs
    weaker P Q f xs all = All-from_contains Q xs (λ a h. f a (All-contains P xs a all h))

-- ---- rows one behind the other

pub record HasRows (entries : List PieceEntry) (m : ℕ) (lanes : List Lane) : Type 0 where
  pub within : m ≤ length entries
  pub rows : List (List PieceEntry)
  pub all : take m entries ≡ rows_joined rows
  pub each : All IsRowOfPieces rows
  pub lanes_are : AllZip IsLaneOf rows lanes

zip_more : {A B : Type 0} (R : A → B → Type 0) (xs : List A) (ys : List B) (x : A) (y : B) → AllZip R xs ys → R x y → AllZip R (xs ++ x ∷ []) (ys ++ y ∷ [])
zip_more R [] [] x y all own = (own, tt)
zip_more R [] (b ∷ ys) x y all own = absurd all
zip_more R (a ∷ xs) [] x y all own = absurd all
zip_more R (a ∷ xs) (b ∷ ys) x y all own = (all.0, zip_more R xs ys x y all.1 own)

pub one_row : (entries rest row : List PieceEntry) (m n : ℕ) (lanes : List Lane) (lane : Lane) → rest ≡ drop m entries → row ≡ take n rest → length row ≡ n → n ≤ length rest → IsRowOfPieces (take n rest) → IsLaneOf row lane
    → HasRows entries m lanes → HasRows entries (m + length row) (lanes ++ lane ∷ [])
one_row entries rest row m n lanes lane er eg long within own of h =
    let same : row ≡ take n (drop m entries) = eg ∙ ap (λ xs. take n xs) er in
    let drops = length-drop m entries in
    let left : length rest ≡ length (drop m entries) = ap length er in
    let before = h.within in
    rw long (record {
      within = omega (arith, before, within, drops, left);
      rows = h.rows ++ row ∷ [];
      all = take_two m n entries ∙ ap (λ xs. xs ++ take n (drop m entries)) h.all ∙ ap (λ xs. rows_joined h.rows ++ xs) (sym same ∙ sym (append-nil row)) ∙ sym (flat_map-append (λ row. row) h.rows (row ∷ []));
      each = All-push IsRowOfPieces h.rows row h.each (subst IsRowOfPieces (sym eg) own);
      lanes_are = zip_more IsLaneOf h.rows lanes row lane h.lanes_are of;
    })

-- ---- what is told of a row

abbrev pub points_behind : List Held → List PieceEntry → List Point
points_behind held [] = []
points_behind held (entry ∷ entries) = piece_points (held_piece held entry) ++ points_behind held entries

told_row : (held : List Held) (row : List PieceEntry) → All HasOrder (held_parts held row) → told_behind held (map (λ entry. entry.place) row) ≡ Some (points_behind held row)
told_row held [] order = refl
told_row held (e ∷ es) order =
    let own : (held_at held e.place).points ≡ Some (piece_points (held_piece held e)) = (All-head HasOrder (held_piece held e) (held_parts held es) order).told in
    let later = told_row held es (All-tail HasOrder (held_piece held e) (held_parts held es) order) in
    ap (λ ps. append_told ps (told_behind held (map (λ entry. entry.place) es))) own ∙ ap (λ ps. append_told (Some (piece_points (held_piece held e))) ps) later

told_lane : (held : List Held) (row : List PieceEntry) (lane : Lane) → IsLaneOf row lane → All HasOrder (held_parts held row) → lane_left held lane ≡ Some (points_behind held row)
told_lane held row lane of order =
    ap (λ ps. append_told (Some ps) (told_behind held (into_iter_items lane.waiting))) of.rest ∙ ap (λ ks. append_told (Some []) (told_behind held ks)) of.waiting ∙ ap (λ ps. append_told (Some []) ps) (told_row held row order)

parts_first : (held : List Held) (row rest : List PieceEntry) → All HasOrder (held_parts held (row ++ rest)) → All HasOrder (held_parts held row)
parts_first held row rest order = All-left HasOrder (held_parts held row) (held_parts held rest) (subst (λ ps. All HasOrder ps) (map-append (held_piece held) row rest) order)

parts_rest : (held : List Held) (row rest : List PieceEntry) → All HasOrder (held_parts held (row ++ rest)) → All HasOrder (held_parts held rest)
parts_rest held row rest order = All-right HasOrder (held_parts held row) (held_parts held rest) (subst (λ ps. All HasOrder ps) (map-append (held_piece held) row rest) order)

pub told_lanes : (held : List Held) (rows : List (List PieceEntry)) (lanes : List Lane) → AllZip IsLaneOf rows lanes → All HasOrder (held_parts held (rows_joined rows)) → lefts held lanes ≡ map Some (map (points_behind held) rows)
told_lanes held [] [] zip order = refl
told_lanes held [] (lane ∷ lanes) zip order = absurd zip
told_lanes held (row ∷ rows) [] zip order = absurd zip
told_lanes held (row ∷ rows) (lane ∷ lanes) zip order =
    ap (λ l. l ∷ lefts held lanes) (told_lane held row lane zip.0 (parts_first held row (rows_joined rows) order)) ∙ ap (λ ls. Some (points_behind held row) ∷ ls) (told_lanes held rows lanes zip.1 (parts_rest held row (rows_joined rows) order))

-- ---- points of a row rise

in_row : (held : List Held) (row : List PieceEntry) (p : Point) → Contains (points_behind held row) p → (b : PieceEntry) × Contains row b × Contains (piece_points (held_piece held b)) p
in_row held [] p h = absurd (Contains-nil p h)
in_row held (e ∷ es) p h = ⊎_elim
    (λ own. (e, Contains-head e es, own))
    (λ later. let rest = in_row held es p later in (rest.0, Contains-tail e rest.0 es rest.1, rest.2))
    (Contains-append_cases (piece_points (held_piece held e)) (points_behind held es) p h)

in_hull : (held : List Held) (row : List PieceEntry) (b : PieceEntry) (p : Point) → All HasOrder (held_parts held row) → Contains row b → Contains (piece_points (held_piece held b)) p → IsTrue (is_in (hull b.piece.now) p.time)
in_hull held row b p order among own = All-contains (λ q. IsTrue (is_in (hull b.piece.now) q.time)) (piece_points (held_piece held b)) p (All-contains (λ c. HasOrder (held_piece held c)) row b (each row order) among).within own
  where
    each : (xs : List PieceEntry) → All HasOrder (held_parts held xs) → All (λ c. HasOrder (held_piece held c)) xs
    each [] all = All-nil (λ c. HasOrder (held_piece held c))
    each (x ∷ xs) all = All-cons (λ c. HasOrder (held_piece held c)) x xs (All-head HasOrder (held_piece held x) (held_parts held xs) all) (each xs (All-tail HasOrder (held_piece held x) (held_parts held xs) all))

apart_times : (a b : Range) (t u : ℤ) → IsTrue (is_in a t) → IsTrue (is_in b u) → a.to <ℤ b.from → t <ℤ u
apart_times a b t u x y l = grind (arith, ints)

later_points : (held : List Held) (e : PieceEntry) (es : List PieceEntry) → All HasOrder (held_parts held (e ∷ es)) → AllPairs ends_before (e ∷ es) → (p q : Point) → Contains (piece_points (held_piece held e)) p → Contains (points_behind held es) q → p.time <ℤ q.time
later_points held e es order ends p q hp hq =
    let b = in_row held es q hq in
    let first = in_hull held (e ∷ es) e p order (Contains-head e es) hp in
    let second = in_hull held (e ∷ es) b.0 q order (Contains-tail e b.0 es b.1) b.2 in
    apart_times (hull e.piece.now) (hull b.0.piece.now) p.time q.time first second (All-contains (ends_before e) es b.0 (AllPairs-head ends_before e es ends) b.1)

row_rising : (held : List Held) (row : List PieceEntry) → All HasOrder (held_parts held row) → AllPairs ends_before row → IsRising (points_behind held row)
row_rising held [] order ends = AllPairs-nil (λ a b. a.time <ℤ b.time)
row_rising held (e ∷ es) order ends = AllPairs-append (λ a b. a.time <ℤ b.time) (piece_points (held_piece held e)) (points_behind held es)
    (All-head HasOrder (held_piece held e) (held_parts held es) order).rising
    (row_rising held es (All-tail HasOrder (held_piece held e) (held_parts held es) order) (AllPairs-tail ends_before e es ends))
    (later_points held e es order ends)

pub rows_rising : (held : List Held) (rows : List (List PieceEntry)) → All HasOrder (held_parts held (rows_joined rows)) → All IsRowOfPieces rows → All IsRising (map (points_behind held) rows)
rows_rising held [] order each = All-nil IsRising
rows_rising held (row ∷ rows) order each = All-cons IsRising (points_behind held row) (map (points_behind held) rows)
    (row_rising held row (parts_first held row (rows_joined rows) order) (All-head IsRowOfPieces row rows each).order)
    (rows_rising held rows (parts_rest held row (rows_joined rows) order) (All-tail IsRowOfPieces row rows each))

-- ---- the merge of rows is that of their pieces

abbrev lists : List Held → List PieceEntry → List (List Point)
lists held row = map piece_points (held_parts held row)

none_later : (p : Point) (qs : List Point) → ((q : Point) → Contains qs q → p.time <ℤ q.time) → HasNoneAt p.time qs
none_later p qs later = All-from_contains (λ q. q.time ≢ p.time) qs (λ q h e. let l : p.time <ℤ q.time = later q h in absurd (omega (arith, ints)))

row_merge : (held : List Held) (before rest : List (List Point)) (row : List PieceEntry) (all : List Point) → 0 < length row → All HasOrder (held_parts held row) → AllPairs ends_before row
    → IsMergeOf (before ++ points_behind held row ∷ rest) all → IsMergeOf (before ++ (lists held row ++ rest)) all
row_merge held before rest [] all some order ends merge = absurd (omega (arith, some))
row_merge held before rest (e ∷ []) all some order ends merge = subst (λ ps. IsMergeOf (before ++ ps ∷ rest) all) (append-nil (piece_points (held_piece held e))) merge
row_merge held before rest (e ∷ f ∷ es) all some order ends merge =
    let first = piece_points (held_piece held e) in
    let apart = All-from_contains (λ p. HasNoneAt p.time (points_behind held (f ∷ es))) first (λ p h. none_later p (points_behind held (f ∷ es)) (λ q k. later_points held e (f ∷ es) order ends p q h k)) in
    let parted : IsMergeOf (before ++ first ∷ points_behind held (f ∷ es) ∷ rest) all = (joined_merge first (points_behind held (f ∷ es)) rest apart before all).1 merge in
    let moved : IsMergeOf ((before ++ first ∷ []) ++ points_behind held (f ∷ es) ∷ rest) all = subst (λ ls. IsMergeOf ls all) (sym (append_assoc before (first ∷ []) (points_behind held (f ∷ es) ∷ rest))) parted in
    let later = row_merge held (before ++ first ∷ []) rest (f ∷ es) all (omega arith) (All-tail HasOrder (held_piece held e) (held_parts held (f ∷ es)) order) (AllPairs-tail ends_before e (f ∷ es) ends) moved in
    subst (λ ls. IsMergeOf ls all) (append_assoc before (first ∷ []) (lists held (f ∷ es) ++ rest)) later

pub rows_merge : (held : List Held) (before : List (List Point)) (rows : List (List PieceEntry)) (all : List Point) → All HasOrder (held_parts held (rows_joined rows)) → All IsRowOfPieces rows
    → IsMergeOf (before ++ map (points_behind held) rows) all → IsMergeOf (before ++ lists held (rows_joined rows)) all
rows_merge held before [] all order each merge = merge
rows_merge held before (row ∷ rows) all order each merge =
    let own = All-head IsRowOfPieces row rows each in
    let first = row_merge held before (map (points_behind held) rows) row all own.some (parts_first held row (rows_joined rows) order) own.order merge in
    let moved = subst (λ ls. IsMergeOf ls all) (sym (append_assoc before (lists held row) (map (points_behind held) rows))) first in
    let later = rows_merge held (before ++ lists held row) rows all (parts_rest held row (rows_joined rows) order) (All-tail IsRowOfPieces row rows each) moved in
    let both : lists held (row ++ rows_joined rows) ≡ lists held row ++ lists held (rows_joined rows) = ap (map piece_points) (map-append (held_piece held) row (rows_joined rows)) ∙ map-append piece_points (held_parts held row) (held_parts held (rows_joined rows)) in
    subst (λ ls. IsMergeOf ls all) (append_assoc before (lists held row) (lists held (rows_joined rows)) ∙ ap (λ ls. before ++ ls) (sym both)) later

-- ---- what lanes cost, and their places

abbrev costs : List Held → List PieceEntry → ℕ
costs held entries = sum_by (λ part. part.1.cost) (held_parts held entries)

cost_of_row : (held : List Held) (row : List PieceEntry) → sum_by (λ place. (held_at held place).cost) (map (λ entry. entry.place) row) ≡ costs held row
cost_of_row held [] = refl
cost_of_row held (e ∷ es) =
    sum_by-cons (λ place. (held_at held place).cost) e.place (map (λ entry. entry.place) es) ∙ ap (λ n. (held_at held e.place).cost + n) (cost_of_row held es) ∙ sym (sum_by-cons (λ (part : HeldPiece). part.1.cost) (held_piece held e) (held_parts held es))

cost_of_rows : (held : List Held) (rows : List (List PieceEntry)) (lanes : List Lane) → AllZip IsLaneOf rows lanes → sum_by (lane_cost held) lanes ≡ costs held (rows_joined rows)
cost_of_rows held [] [] zip = refl
cost_of_rows held [] (lane ∷ lanes) zip = absurd zip
cost_of_rows held (row ∷ rows) [] zip = absurd zip
cost_of_rows held (row ∷ rows) (lane ∷ lanes) zip =
    let own : lane_cost held lane ≡ costs held row = ap (λ ks. sum_by (λ place. (held_at held place).cost) ks) zip.0.waiting ∙ cost_of_row held row in
    let rest = cost_of_rows held rows lanes zip.1 in
    let both : costs held (row ++ rows_joined rows) ≡ costs held row + costs held (rows_joined rows) = ap (λ ps. sum_by (λ (part : HeldPiece). part.1.cost) ps) (map-append (held_piece held) row (rows_joined rows)) ∙ sum_by-append (λ (part : HeldPiece). part.1.cost) (held_parts held row) (held_parts held (rows_joined rows)) in
    sum_by-cons (lane_cost held) lane lanes ∙ ap (λ n. n + sum_by (lane_cost held) lanes) own ∙ ap (λ n. costs held row + n) rest ∙ sym both

pub cost_of_lanes : (held : List Held) (group : List PieceEntry) (lanes : List Lane) → AreLanesOf group lanes → sum_by (lane_cost held) lanes ≡ costs held group
cost_of_lanes held group lanes h = cost_of_rows held h.rows lanes h.lanes_are ∙ sum_by-IsPermutation (λ (part : HeldPiece). part.1.cost) (held_parts held group) (held_parts held (rows_joined h.rows)) (IsPermutation-map (held_piece held) group (rows_joined h.rows) h.all)

places_of_rows : (count : ℕ) (rows : List (List PieceEntry)) (lanes : List Lane) → AllZip IsLaneOf rows lanes → All (λ entry. entry.place < count) (rows_joined rows) → All (HasPiecePlaces count) lanes
places_of_rows count [] [] zip all = All-nil (HasPiecePlaces count)
places_of_rows count [] (lane ∷ lanes) zip all = absurd zip
places_of_rows count (row ∷ rows) [] zip all = absurd zip
places_of_rows count (row ∷ rows) (lane ∷ lanes) zip all = All-cons (HasPiecePlaces count) lane lanes
    (subst (λ ks. All (λ k. k < count) ks) (sym zip.0.waiting) (All-map (λ k. k < count) (λ (entry : PieceEntry). entry.place) row (All-left (λ (entry : PieceEntry). entry.place < count) row (rows_joined rows) all)))
    (places_of_rows count rows lanes zip.1 (All-right (λ (entry : PieceEntry). entry.place < count) row (rows_joined rows) all))

pub places_of_lanes : (count : ℕ) (group : List PieceEntry) (lanes : List Lane) → AreLanesOf group lanes → All (λ entry. entry.place < count) group → All (HasPiecePlaces count) lanes
places_of_lanes count group lanes h all = places_of_rows count h.rows lanes h.lanes_are (All-permutation (λ (entry : PieceEntry). entry.place < count) group (rows_joined h.rows) h.all all)
