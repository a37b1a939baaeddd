-- The tally of the winners of one group, of a group behind others, and of all entries.
use Rattle.std.proofs.Common.{◌≡◌, ℕ, zero, suc, ◌+◌, ◌<◌, ◌≤◌, Bool, true, false, not, cond, List, [], ◌∷◌, ◌++◌, length, get_or, take, drop, Option, inl, inr, ⊎_elim, refl, sym, ap, ◌∙◌, subst, map, filter, sum_by, arith}
use Rattle.std.specs.Prelude.{ℤ, ◌≢◌, ◌<ℤ◌, ◌&&◌, ◌||◌, All, AllPairs, Contains, IsTrue}
use Rattle.std.specs.List.Sorted.{IsPermutation}
use Rattle.std.proofs.lemmas.Bool.{false≢true}
use Rattle.std.proofs.lemmas.Int.{ints}
use Rattle.std.proofs.lemmas.List.{map-append, take-append-drop}
use Rattle.std.proofs.lemmas.List.Elements.{All-contains, All-filter, All-head, All-tail, filter_passes, Contains-append_cases}
use Rattle.std.proofs.lemmas.List.Kept.{AllPairs-filter}
use Rattle.std.proofs.lemmas.List.Sorted.{All-permutation, IsPermutation-map, IsPermutation-sym, sum_by-IsPermutation}
use Rattle.std.proofs.lemmas.List.Sums.{sum_by-append, sum_by-cons}
use Rattle.tsdb_base.specs.declared.answers.Aggregate.{Aggregate}
use Rattle.tsdb_base.specs.declared.point.Point.{Point}
use Rattle.tsdb_base.specs.declared.point.Range.{Range}
use Rattle.tsdb_base.specs.declared.answers.Figure.{Figure}
use Rattle.tsdb_model.specs.World.{is_in}
use Rattle.tsdb_merge.specs.Winners.{HasNoneAt, IsMergeOf}
use Rattle.tsdb_merge.proofs.MergeLemmas.{All-from_contains, All-left, All-right, Contains-head}
use Rattle.tsdb_aggregate.specs.Loads.{Held}
use Rattle.tsdb_aggregate.specs.Pieces.{ArePiecesApart, ArePiecesSound, HasOrder, IsCleanIn, HeldPiece, cost_in, has_asked, hull, overlap, most_loads, piece_points}
use Rattle.tsdb_aggregate.specs.Steps.{AddsWinners, End, HasTally, IsCut, IsPieceGroup, IsTally, answer_of, cost_of, held_piece, held_parts, kept_value}
use Rattle.tsdb_aggregate.specs.Winners.{AreWinners, IsAggregate}
use Rattle.tsdb_aggregate.specs.declared.entry.PieceEntry.{PieceEntry}
use Rattle.tsdb_aggregate.specs.declared.tally.Tally.{Tally}
use Rattle.tsdb_stats.specs.Statistics.{AreStatsOf}
use Rattle.tsdb_aggregate.proofs.ListFacts.{AllPairs-left, AllPairs-right, AllPairs-map, AllPairs-of_map, AllPairs-permutation, Contains-from_drop, Contains-from_take, Contains-of_map, drop_two, take_two}
use Rattle.tsdb_aggregate.proofs.TallyLemmas.{tally_answers}
use Rattle.tsdb_aggregate.proofs.WinnerLemmas.{Before, IsBelow, same_filtered, same_permuted, winners_append, winners_clean, winners_of_merge, winners_of_same}

-- ---- one group

apart_both : (a b : HeldPiece) → ArePiecesApart a b → ArePiecesApart b a
apart_both a b h = record {
  times = λ same. All-from_contains (λ p. HasNoneAt p.time (piece_points a)) (piece_points b) (λ p hp.
      All-from_contains (λ q. q.time ≢ p.time) (piece_points a) (λ q hq e.
      All-contains (λ r. r.time ≢ q.time) (piece_points b) p (All-contains (λ r. HasNoneAt r.time (piece_points b)) (piece_points a) q (h.times (sym same)) hq) hp (sym e)));
  hulls = λ c. other (is_in (hull a.0) b.0.stats.start && is_in (hull b.0) b.0.stats.start) (is_in (hull b.0) a.0.stats.start && is_in (hull a.0) a.0.stats.start) (h.hulls (other_true (b.0.clean) (a.0.clean) c));
}
  where
    other : (p q : Bool) → (p || q) ≡ false → (q || p) ≡ false
    other true q e = absurd (false≢true (sym e))
    other false true e = e
    other false false e = e

    other_true : (p q : Bool) → (p || q) ≡ true → (q || p) ≡ true
    other_true true true e = refl
    other_true true false e = refl
    other_true false true e = refl
    other_true false false e = e

pub apart_permuted : (xs ys : List HeldPiece) → IsPermutation xs ys → AllPairs ArePiecesApart xs → AllPairs ArePiecesApart ys
apart_permuted xs ys perm h = AllPairs-permutation ArePiecesApart apart_both xs ys perm h

pub winners_of_group : (held : List Held) (range : Range) (group entries : List PieceEntry) (all : List Point)
    → IsPermutation group entries → AllPairs (λ a b. a.piece.now.source ≤ b.piece.now.source) entries → AllPairs ArePiecesApart (held_parts held group)
    → IsMergeOf (map piece_points (held_parts held entries)) all → AreWinners (held_parts held group) range (filter (λ point. is_in range point.time) all)
winners_of_group held range group entries all perm sources apart merge =
    let moved : IsPermutation (held_parts held group) (held_parts held entries) = IsPermutation-map (held_piece held) group entries perm in
    let pairs = AllPairs-of_map ArePiecesApart (held_piece held) entries (apart_permuted (held_parts held group) (held_parts held entries) moved apart) in
    let below : AllPairs IsBelow (held_parts held entries) = AllPairs-map IsBelow (held_piece held) entries (λ i j d l m. record { source = sources i j d l m; times = (pairs i j d l m).times }) in
    let points = filter (λ point. is_in range point.time) all in
    winners_of_same range (held_parts held entries) (held_parts held group) points (same_permuted range (held_parts held entries) (held_parts held group) (IsPermutation-sym (held_parts held group) (held_parts held entries) moved))
    (winners_of_merge range (held_parts held entries) all below merge)

-- ---- a clean piece alone

pub adds_clean : (held : List Held) (range : Range) (name : Aggregate) (group : List PieceEntry) (x : PieceEntry) (before now next : Tally) → IsPieceGroup group → ArePiecesSound name range (held_parts held group)
    → IsTrue (get_or group 0 x).piece.now.clean → ((points : List Point) → AreStatsOf points (get_or group 0 x).piece.now.stats → IsTrue (has_asked name (get_or group 0 x).piece.now.stats) → IsTally name points next)
    → ((xs ys : List Point) → IsTally name xs before → IsTally name ys next → IsTally name (xs ++ ys) now) → AddsWinners held range name group before now
adds_clean held range name [] x before now next some sound clean of_stats join = absurd (omega (arith, some.0))
adds_clean held range name (y ∷ []) x before now next some sound clean of_stats join =
    let order : HasOrder (held_piece held y) = All-contains HasOrder (held_piece held y ∷ []) (held_piece held y) sound.order (Contains-head (held_piece held y) []) in
    let own : IsCleanIn name range (held_piece held y) = All-contains (λ part. IsTrue part.0.clean → IsCleanIn name range part) (held_piece held y ∷ []) (held_piece held y) sound.clean (Contains-head (held_piece held y) []) clean in
    record {
      points = piece_points (held_piece held y);
      winners = winners_clean name range (held_piece held y) order own;
      adds = λ earlier first. join earlier (piece_points (held_piece held y)) first (of_stats (piece_points (held_piece held y)) own.statistics own.asked);
    }
adds_clean held range name (y ∷ z ∷ zs) x before now next (some, inl one) sound clean of_stats join = absurd (omega (arith, one))
adds_clean held range name (y ∷ z ∷ zs) x before now next (some, inr unclean) sound clean of_stats join = absurd (false≢true (sym (All-head (λ (e : PieceEntry). e.piece.now.clean ≡ false) y (z ∷ zs) unclean) ∙ clean))

cost_unclean : (held : List Held) (group : List PieceEntry) → All (λ entry. entry.piece.now.clean ≡ false) group → sum_by (λ part. part.1.cost) (held_parts held group) ≡ sum_by cost_of (held_parts held group)
cost_unclean held [] all = refl
cost_unclean held (y ∷ ys) all =
    let own : cost_of (held_piece held y) ≡ (held_piece held y).1.cost = ap (λ b. cond b 0 (held_piece held y).1.cost) (All-head (λ (e : PieceEntry). e.piece.now.clean ≡ false) y ys all) in
    let rest = cost_unclean held ys (All-tail (λ (e : PieceEntry). e.piece.now.clean ≡ false) y ys all) in
    sum_by-cons (λ part. part.1.cost) (held_piece held y) (held_parts held ys) ∙ ap (λ n. (held_piece held y).1.cost + n) rest ∙ ap (λ n. n + sum_by cost_of (held_parts held ys)) (sym own) ∙ sym (sum_by-cons cost_of (held_piece held y) (held_parts held ys))

pub cost_of_group : (held : List Held) (group : List PieceEntry) (x : PieceEntry) → IsPieceGroup group → (get_or group 0 x).piece.now.clean ≡ false → sum_by (λ part. part.1.cost) (held_parts held group) ≡ sum_by cost_of (held_parts held group)
cost_of_group held [] x some e = refl
cost_of_group held (y ∷ []) x some e = cost_unclean held (y ∷ []) (λ k d l. first k d l)
  where
    first : (k : ℕ) (d : PieceEntry) → k < length (y ∷ []) → (get_or (y ∷ []) k d).piece.now.clean ≡ false
    first zero d l = e
    first (suc k) d l = absurd (omega arith)
cost_of_group held (y ∷ z ∷ zs) x (some, inl one) e = absurd (omega (arith, one))
cost_of_group held (y ∷ z ∷ zs) x (some, inr unclean) e = cost_unclean held (y ∷ z ∷ zs) unclean

-- ---- a group behind others

before_from_end : (held : List Held) (xs ys : List PieceEntry) → All HasOrder (held_parts held xs) → All HasOrder (held_parts held ys) → End xs ys → Before (held_parts held xs) (held_parts held ys)
before_from_end held xs ys ox oy end s t p q hp hq =
    let a = Contains-of_map (held_piece held) xs hp.part hp.among in
    let b = Contains-of_map (held_piece held) ys hq.part hq.among in
    let inside : IsTrue (is_in (hull hp.part.0) p.time) = All-contains (λ r. IsTrue (is_in (hull hp.part.0) r.time)) (piece_points hp.part) p (All-contains HasOrder (held_parts held xs) hp.part ox hp.among).within hp.has in
    let within : IsTrue (is_in (hull hq.part.0) q.time) = All-contains (λ r. IsTrue (is_in (hull hq.part.0) r.time)) (piece_points hq.part) q (All-contains HasOrder (held_parts held ys) hq.part oy hq.among).within hq.has in
    let first : IsTrue (is_in (hull a.0.piece.now) p.time) = subst (λ (x : HeldPiece). IsTrue (is_in (hull x.0) p.time)) (sym a.2) inside in
    let second : IsTrue (is_in (hull b.0.piece.now) q.time) = subst (λ (x : HeldPiece). IsTrue (is_in (hull x.0) q.time)) (sym b.2) within in
    between (hull a.0.piece.now) (hull b.0.piece.now) p.time q.time first second (end a.0 b.0 a.1 b.1)
  where
    between : (a b : Range) (t u : ℤ) → IsTrue (is_in a t) → IsTrue (is_in b u) → a.to <ℤ b.from → t <ℤ u
    between a b t u x y l = grind (arith, ints)

parts_two : (held : List Held) (m n : ℕ) (entries : List PieceEntry) → held_parts held (take (m + n) entries) ≡ held_parts held (take m entries) ++ held_parts held (take n (drop m entries))
parts_two held m n entries = ap (held_parts held) (take_two m n entries) ∙ map-append (held_piece held) (take m entries) (take n (drop m entries))

parts_split : (held : List Held) (m : ℕ) (entries : List PieceEntry) → held_parts held (take m entries) ++ held_parts held (drop m entries) ≡ held_parts held entries
parts_split held m entries = sym (map-append (held_piece held) (take m entries) (drop m entries)) ∙ ap (held_parts held) (take-append-drop m entries)

-- what is so of all entries is so of those of a group
pub order_of_first : (held : List Held) (m : ℕ) (entries : List PieceEntry) → All HasOrder (held_parts held entries) → All HasOrder (held_parts held (take m entries))
order_of_first held m entries all = All-left HasOrder (held_parts held (take m entries)) (held_parts held (drop m entries)) (subst (λ ps. All HasOrder ps) (sym (parts_split held m entries)) all)

pub sound_first : (name : Aggregate) (range : Range) (held : List Held) (m : ℕ) (entries : List PieceEntry) → ArePiecesSound name range (held_parts held entries) → ArePiecesSound name range (held_parts held (take m entries))
sound_first name range held m entries sound =
    let e = sym (parts_split held m entries) in
    record {
      order = order_of_first held m entries sound.order;
      clean = All-left (λ part. IsTrue part.0.clean → IsCleanIn name range part) (held_parts held (take m entries)) (held_parts held (drop m entries)) (subst (λ ps. All (λ part. IsTrue part.0.clean → IsCleanIn name range part) ps) e sound.clean);
      apart = AllPairs-left ArePiecesApart (held_parts held (take m entries)) (held_parts held (drop m entries)) (subst (λ ps. AllPairs ArePiecesApart ps) e sound.apart);
    }

pub sound_rest : (name : Aggregate) (range : Range) (held : List Held) (m : ℕ) (entries : List PieceEntry) → ArePiecesSound name range (held_parts held entries) → ArePiecesSound name range (held_parts held (drop m entries))
sound_rest name range held m entries sound =
    let e = sym (parts_split held m entries) in
    record {
      order = All-right HasOrder (held_parts held (take m entries)) (held_parts held (drop m entries)) (subst (λ ps. All HasOrder ps) e sound.order);
      clean = All-right (λ part. IsTrue part.0.clean → IsCleanIn name range part) (held_parts held (take m entries)) (held_parts held (drop m entries)) (subst (λ ps. All (λ part. IsTrue part.0.clean → IsCleanIn name range part) ps) e sound.clean);
      apart = AllPairs-right ArePiecesApart (held_parts held (take m entries)) (held_parts held (drop m entries)) (subst (λ ps. AllPairs ArePiecesApart ps) e sound.apart);
    }

pub tally_more : (held : List Held) (range : Range) (name : Aggregate) (m n : ℕ) (entries : List PieceEntry) (before now : Tally) → ArePiecesSound name range (held_parts held entries) → IsCut m entries
    → HasTally held range name (take m entries) before → AddsWinners held range name (take n (drop m entries)) before now → HasTally held range name (take (m + n) entries) now
tally_more held range name m n entries before now sound cut first second =
    let apart : Before (held_parts held (take m entries)) (held_parts held (take n (drop m entries))) =
    before_from_end held (take m entries) (take n (drop m entries)) (sound_first name range held m entries sound).order (sound_first name range held n (drop m entries) (sound_rest name range held m entries sound)).order
    (λ a b ha hb. cut a b ha (Contains-from_take n (drop m entries) b hb)) in
    record {
      points = first.points ++ second.points;
      winners = subst (λ ps. AreWinners ps range (first.points ++ second.points)) (sym (parts_two held m n entries))
          (winners_append (held_parts held (take m entries)) (held_parts held (take n (drop m entries))) range first.points second.points apart first.winners second.winners);
      tally_is = second.adds first.points first.tally_is;
    }

pub cut_more : (m n : ℕ) (entries : List PieceEntry) → IsCut m entries → IsCut n (drop m entries) → IsCut (m + n) entries
cut_more m n entries first second a b ha hb =
    let late : Contains (drop n (drop m entries)) b = subst (λ es. Contains es b) (drop_two m n entries) hb in
    ⊎_elim
    (λ early. first a b early (Contains-from_drop n (drop m entries) b late))
    (λ own. second a b own late)
    (Contains-append_cases (take m entries) (take n (drop m entries)) a (subst (λ es. Contains es a) (take_two m n entries) ha))

pub cost_more : (held : List Held) (m n : ℕ) (entries : List PieceEntry) → sum_by cost_of (held_parts held (take (m + n) entries)) ≡ sum_by cost_of (held_parts held (take m entries)) + sum_by cost_of (held_parts held (take n (drop m entries)))
cost_more held m n entries = ap (λ ps. sum_by cost_of ps) (parts_two held m n entries) ∙ sum_by-append cost_of (held_parts held (take m entries)) (held_parts held (take n (drop m entries)))

-- ---- all pieces

cost_each : (b c : Bool) (n : ℕ) → cond b (cond c 0 n) 0 ≡ cond (b && not c) n 0
cost_each true true n = refl
cost_each true false n = refl
cost_each false true n = refl
cost_each false false n = refl

cost_kept : (b : Bool) (part : HeldPiece) (rest : List HeldPiece) → sum_by cost_of (cond b (part ∷ rest) rest) ≡ cond b (cost_of part) 0 + sum_by cost_of rest
cost_kept true part rest = sum_by-cons cost_of part rest
cost_kept false part rest = omega arith

cost_filtered : (range : Range) (parts : List HeldPiece) → sum_by cost_of (filter (λ part. overlap range (hull part.0)) parts) ≡ most_loads range parts
cost_filtered range [] = refl
cost_filtered range (part ∷ parts) =
    let b = overlap range (hull part.0) in
    let rest = filter (λ (x : HeldPiece). overlap range (hull x.0)) parts in
    cost_kept b part rest
    ∙ ap (λ n. n + sum_by cost_of rest) (cost_each b part.0.clean part.1.cost)
    ∙ ap (λ n. cost_in range part + n) (cost_filtered range parts)
    ∙ sym (sum_by-cons (cost_in range) part parts)

pub cost_of_all : (range : Range) (parts : List HeldPiece) (held : List Held) (entries : List PieceEntry) → IsPermutation (filter (λ part. overlap range (hull part.0)) parts) (held_parts held entries)
    → sum_by cost_of (held_parts held entries) ≡ most_loads range parts
cost_of_all range parts held entries perm = sum_by-IsPermutation cost_of (filter (λ part. overlap range (hull part.0)) parts) (held_parts held entries) perm ∙ cost_filtered range parts

pub sound_entries : (name : Aggregate) (range : Range) (parts : List HeldPiece) (held : List Held) (entries : List PieceEntry) → IsPermutation (filter (λ part. overlap range (hull part.0)) parts) (held_parts held entries)
    → ArePiecesSound name range parts → ArePiecesSound name range (held_parts held entries)
sound_entries name range parts held entries perm sound =
    let test : HeldPiece → Bool = λ part. overlap range (hull part.0) in
    record {
      order = All-permutation HasOrder (filter test parts) (held_parts held entries) perm (All-filter test HasOrder parts sound.order);
      clean = All-permutation (λ part. IsTrue part.0.clean → IsCleanIn name range part) (filter test parts) (held_parts held entries) perm (All-filter test (λ part. IsTrue part.0.clean → IsCleanIn name range part) parts sound.clean);
      apart = apart_permuted (filter test parts) (held_parts held entries) perm (AllPairs-filter ArePiecesApart test parts sound.apart);
    }

pub meet_entries : (range : Range) (parts : List HeldPiece) (held : List Held) (entries : List PieceEntry) → IsPermutation (filter (λ part. overlap range (hull part.0)) parts) (held_parts held entries)
    → All (λ part. overlap range (hull part.0) ≡ true) (held_parts held entries)
meet_entries range parts held entries perm =
    let test : HeldPiece → Bool = λ part. overlap range (hull part.0) in
    All-permutation (λ part. test part ≡ true) (filter test parts) (held_parts held entries) perm (filter_passes test parts)

pub aggregate_of_all : (range : Range) (parts : List HeldPiece) (held : List Held) (entries : List PieceEntry) (tally : Tally) (name : Aggregate) (answer : Option Figure)
    → IsPermutation (filter (λ part. overlap range (hull part.0)) parts) (held_parts held entries) → ArePiecesSound name range parts → HasTally held range name entries tally → answer ≡ answer_of name tally → IsAggregate parts range name answer
aggregate_of_all range parts held entries tally name answer perm sound found is =
    let test : HeldPiece → Bool = λ part. overlap range (hull part.0) in
    let kept = winners_of_same range (held_parts held entries) (filter test parts) found.points
    (same_permuted range (held_parts held entries) (filter test parts) (IsPermutation-sym (filter test parts) (held_parts held entries) perm)) found.winners in
    record {
      points = found.points;
      winners = winners_of_same range (filter test parts) parts found.points (same_filtered range parts sound.order) kept;
      is = is ∙ tally_answers name found.points tally.count (kept_value tally.kept) tally.sum found.tally_is;
    }
