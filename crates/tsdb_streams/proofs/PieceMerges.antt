-- Sources in pieces, and their pieces one by one.
use Rattle.std.proofs.Common.{◌≡◌, List, [], ◌∷◌, ◌++◌, inl, inr, ⊎_elim, sym, subst, map}
use Rattle.std.specs.Prelude.{◌↔◌, ◌≢◌, All, flat_map}
use Rattle.std.proofs.lemmas.List.{append_assoc}
use Rattle.std.proofs.lemmas.List.Elements.{All-append, All-cons, All-contains, All-head, All-nil, All-tail, All-weaker}
use Rattle.tsdb_base.specs.declared.point.Point.{Point}
use Rattle.tsdb_merge.specs.Winners.{HasNoneAt, IsMergeOf, IsWinner}
use Rattle.tsdb_merge.proofs.Joined.{joined_merge}
use Rattle.tsdb_merge.proofs.MergeLemmas.{AllPairs-head, AllPairs-tail, All-from_contains, Contains-nil, winner_cases, winner_high, winner_low}
use Rattle.tsdb_streams.specs.Pieces.{HaveNoCommonTime, joined}

-- ---- a list without points

with_empty : (before rest : List (List Point)) (p : Point) → IsWinner (before ++ rest) p → IsWinner (before ++ [] ∷ rest) p
with_empty before rest p w = ⊎_elim
    (λ a. winner_high p before ([] ∷ rest) (inl a))
    (λ b. winner_low p before ([] ∷ rest) b.0 (All-cons (HasNoneAt p.time) [] rest (All-nil (λ q. q.time ≢ p.time)) b.1))
    (winner_cases p before rest w)

without_empty : (before rest : List (List Point)) (p : Point) → IsWinner (before ++ [] ∷ rest) p → IsWinner (before ++ rest) p
without_empty before rest p w = ⊎_elim
    (λ a. winner_high p before rest (own a))
    (λ b. winner_low p before rest b.0 (All-tail (HasNoneAt p.time) [] rest b.1))
    (winner_cases p before ([] ∷ rest) w)
  where
    own : IsWinner ([] ∷ rest) p → IsWinner rest p
    own (inl v) = v
    own (inr v) = absurd (Contains-nil p v.0)

same_merge : (these those : List (List Point)) → ((p : Point) → IsWinner these p → IsWinner those p) → ((p : Point) → IsWinner those p → IsWinner these p) → (points : List Point) → IsMergeOf these points → IsMergeOf those points
same_merge these those into back points m = record {
  rising = m.rising;
  winners = All-weaker (IsWinner these) (IsWinner those) into points m.winners;
  complete = λ p w. m.complete p (back p w);
}

empty_merge : (before rest : List (List Point)) (points : List Point) → IsMergeOf (before ++ [] ∷ rest) points ↔ IsMergeOf (before ++ rest) points
empty_merge before rest points = (
  same_merge (before ++ [] ∷ rest) (before ++ rest) (without_empty before rest) (with_empty before rest) points,
  same_merge (before ++ rest) (before ++ [] ∷ rest) (with_empty before rest) (without_empty before rest) points,
)

-- ---- the pieces of one source

none_in_joined : (p : Point) (pieces : List (List Point)) → All (HasNoneAt p.time) pieces → HasNoneAt p.time (joined pieces)
none_in_joined p [] none = All-nil (λ q. q.time ≢ p.time)
none_in_joined p (piece ∷ pieces) none = All-append (λ q. q.time ≢ p.time) piece (joined pieces) (All-head (HasNoneAt p.time) piece pieces none) (none_in_joined p pieces (All-tail (HasNoneAt p.time) piece pieces none))

abbrev apart_from : List Point → List Point → Type 0
apart_from piece other = All (λ point. HasNoneAt point.time other) piece

first_apart : (piece : List Point) (pieces : List (List Point)) → HaveNoCommonTime (piece ∷ pieces) → apart_from piece (joined pieces)
first_apart piece pieces apart = All-from_contains (λ p. HasNoneAt p.time (joined pieces)) piece (λ p h. none_in_joined p pieces
    (All-from_contains (HasNoneAt p.time) pieces (λ other k. All-contains (λ q. HasNoneAt q.time other) piece p (All-contains (apart_from piece) pieces other (AllPairs-head apart_from piece pieces apart) k) h)))

moved : (before : List (List Point)) (piece : List Point) (rest : List (List Point)) (points : List Point) → IsMergeOf ((before ++ piece ∷ []) ++ rest) points ↔ IsMergeOf (before ++ piece ∷ rest) points
moved before piece rest points =
    let same : (before ++ piece ∷ []) ++ rest ≡ before ++ piece ∷ rest = append_assoc before (piece ∷ []) rest in
    (subst (λ ls. IsMergeOf ls points) same, subst (λ ls. IsMergeOf ls points) (sym same))

merge_source : (before rest pieces : List (List Point)) (points : List Point) → HaveNoCommonTime pieces → IsMergeOf (before ++ joined pieces ∷ rest) points ↔ IsMergeOf (before ++ (pieces ++ rest)) points
merge_source before rest [] points apart = empty_merge before rest points
merge_source before rest (piece ∷ pieces) points apart =
    let parted = joined_merge piece (joined pieces) rest (first_apart piece pieces apart) before points in
    let later = merge_source (before ++ piece ∷ []) rest pieces points (AllPairs-tail apart_from piece pieces apart) in
    let inner = moved before piece (joined pieces ∷ rest) points in
    let out = moved before piece (pieces ++ rest) points in
    (λ m. out.0 (later.0 (inner.1 (parted.1 m))), λ m. parted.0 (inner.0 (later.1 (out.1 m))))

-- ---- all sources

pub merge_sources : (before : List (List Point)) (sources : List (List (List Point))) (points : List Point) → All HaveNoCommonTime sources
    → IsMergeOf (before ++ map joined sources) points ↔ IsMergeOf (before ++ flat_map (λ pieces. pieces) sources) points
merge_sources before [] points apart = (λ m. m, λ m. m)
merge_sources before (pieces ∷ sources) points apart =
    let rest = map joined sources in
    let all = flat_map (λ pieces. pieces) sources in
    let first = merge_source before rest pieces points (All-head HaveNoCommonTime pieces sources apart) in
    let later = merge_sources (before ++ pieces) sources points (All-tail HaveNoCommonTime pieces sources apart) in
    let one : (before ++ pieces) ++ rest ≡ before ++ (pieces ++ rest) = append_assoc before pieces rest in
    let two : (before ++ pieces) ++ all ≡ before ++ (pieces ++ all) = append_assoc before pieces all in
    let merge : List (List Point) → Type 0 = λ ls. IsMergeOf ls points in (
      λ m. subst merge two (later.0 (subst merge (sym one) (first.0 m))),
      λ m. first.1 (subst merge one (later.1 (subst merge (sym two) m))),
    )
