-- Two pieces of one source, which have no time in common, win what their joined list wins.
use Rattle.std.proofs.Common.{List, ◌∷◌, ◌++◌, inl, inr, ⊎_elim}
use Rattle.std.specs.Prelude.{◌≢◌, ◌↔◌, All}
use Rattle.std.proofs.lemmas.List.Elements.{All-append, All-cons, All-contains, All-head, All-tail, All-weaker, Contains-append_cases, Contains-append_left, Contains-append_right}
use Rattle.tsdb_base.specs.declared.point.Point.{Point}
use Rattle.tsdb_merge.specs.Winners.{HasNoneAt, IsMergeOf, IsWinner}
use Rattle.tsdb_merge.proofs.MergeLemmas.{All-left, All-right, winner_cases, winner_high, winner_low}

module _ (xs ys : List Point) (later : List (List Point)) (apart : All (λ point. HasNoneAt point.time ys) xs) where
  none_joined : (p : Point) → All (HasNoneAt p.time) (xs ∷ ys ∷ later) → All (HasNoneAt p.time) ((xs ++ ys) ∷ later)
  none_joined p none =
      let rest = All-tail (HasNoneAt p.time) xs (ys ∷ later) none in
      All-cons (HasNoneAt p.time) (xs ++ ys) later
      (All-append (λ q. q.time ≢ p.time) xs ys (All-head (HasNoneAt p.time) xs (ys ∷ later) none) (All-head (HasNoneAt p.time) ys later rest))
      (All-tail (HasNoneAt p.time) ys later rest)

  none_parted : (p : Point) → All (HasNoneAt p.time) ((xs ++ ys) ∷ later) → All (HasNoneAt p.time) (xs ∷ ys ∷ later)
  none_parted p none =
      let both = All-head (HasNoneAt p.time) (xs ++ ys) later none in
      All-cons (HasNoneAt p.time) xs (ys ∷ later) (All-left (λ q. q.time ≢ p.time) xs ys both)
      (All-cons (HasNoneAt p.time) ys later (All-right (λ q. q.time ≢ p.time) xs ys both) (All-tail (HasNoneAt p.time) (xs ++ ys) later none))

  first_joined : (p : Point) → IsWinner (xs ∷ ys ∷ later) p → IsWinner ((xs ++ ys) ∷ later) p
  first_joined p (inl (inl w)) = inl w
  first_joined p (inl (inr w)) = inr (Contains-append_right xs ys p w.0, w.1)
  first_joined p (inr w) = inr (Contains-append_left xs ys p w.0, All-tail (HasNoneAt p.time) ys later w.1)

  first_parted : (p : Point) → IsWinner ((xs ++ ys) ∷ later) p → IsWinner (xs ∷ ys ∷ later) p
  first_parted p (inl w) = inl (inl w)
  first_parted p (inr w) = ⊎_elim
      (λ a. inr (a, All-cons (HasNoneAt p.time) ys later (All-contains (λ q. HasNoneAt q.time ys) xs p apart a) w.1))
      (λ b. inl (inr (b, w.1)))
      (Contains-append_cases xs ys p w.0)

  joined : (before : List (List Point)) (p : Point) → IsWinner (before ++ xs ∷ ys ∷ later) p → IsWinner (before ++ (xs ++ ys) ∷ later) p
  joined before p w = ⊎_elim
      (λ a. winner_high p before ((xs ++ ys) ∷ later) (first_joined p a))
      (λ b. winner_low p before ((xs ++ ys) ∷ later) b.0 (none_joined p b.1))
      (winner_cases p before (xs ∷ ys ∷ later) w)

  parted : (before : List (List Point)) (p : Point) → IsWinner (before ++ (xs ++ ys) ∷ later) p → IsWinner (before ++ xs ∷ ys ∷ later) p
  parted before p w = ⊎_elim
      (λ a. winner_high p before (xs ∷ ys ∷ later) (first_parted p a))
      (λ b. winner_low p before (xs ∷ ys ∷ later) b.0 (none_parted p b.1))
      (winner_cases p before ((xs ++ ys) ∷ later) w)

  pub joined_merge : (before : List (List Point)) (points : List Point) → IsMergeOf (before ++ xs ∷ ys ∷ later) points ↔ IsMergeOf (before ++ (xs ++ ys) ∷ later) points
  joined_merge before points = (
    λ m. record {
      rising = m.rising;
      winners = All-weaker (IsWinner (before ++ xs ∷ ys ∷ later)) (IsWinner (before ++ (xs ++ ys) ∷ later)) (joined before) points m.winners;
      complete = λ p w. m.complete p (parted before p w);
    },
    λ m. record {
      rising = m.rising;
      winners = All-weaker (IsWinner (before ++ (xs ++ ys) ∷ later)) (IsWinner (before ++ xs ∷ ys ∷ later)) (parted before) points m.winners;
      complete = λ p w. m.complete p (joined before p w);
    },
  )
