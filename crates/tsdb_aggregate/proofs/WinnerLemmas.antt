-- The winners of several pieces: of two lists of which one is before the other, of a clean piece, and of a merge.
use Rattle.std.proofs.Common.{◌≡◌, ℕ, ◌≤◌, Bool, true, List, [], ◌∷◌, ◌++◌, ◌⊎◌, inl, inr, ⊎_elim, refl, sym, ap, ◌∙◌, subst, map, filter, arith}
use Rattle.std.specs.Prelude.{ℤ, ◌≢◌, ◌<ℤ◌, ◌&&◌, int_le, All, AllPairs, Contains, IsTrue}
use Rattle.std.specs.List.Sorted.{IsPermutation}
use Rattle.std.proofs.lemmas.Int.{ints}
use Rattle.std.proofs.lemmas.List.Kept.{AllPairs-filter}
use Rattle.std.proofs.lemmas.List.Elements.{All-head, All-tail, All-contains, filter_passes, Contains-append_left, Contains-append_right, Contains-append_cases}
use Rattle.std.proofs.lemmas.List.Sorted.{Contains-permutation, IsPermutation-sym}
use Rattle.tsdb_base.specs.declared.answers.Aggregate.{Aggregate}
use Rattle.tsdb_base.specs.declared.point.Point.{Point}
use Rattle.tsdb_base.specs.declared.point.Range.{Range}
use Rattle.tsdb_model.specs.World.{is_in}
use Rattle.tsdb_merge.specs.Winners.{HasNoneAt, IsWinner as IsWinnerOfLists, IsMergeOf}
use Rattle.tsdb_merge.proofs.MergeLemmas.{AllPairs-head, AllPairs-tail, All-from_contains, Contains-head, Contains-tail, Contains-nil, Contains-cases, winner_at, same_points}
use Rattle.tsdb_aggregate.specs.Pieces.{HeldPiece, hull, overlap, piece_points, HasOrder, IsCleanIn}
use Rattle.tsdb_aggregate.specs.Winners.{Has, IsWinnerOfPieces, AreWinners}
use Rattle.tsdb_aggregate.proofs.ListFacts.{AllPairs-append, Contains-filter, Contains-from_filter}

-- ---- the points of two lists of pieces

pub has_left : (xs ys : List HeldPiece) (s : ℕ) (p : Point) → Has xs s p → Has (xs ++ ys) s p
has_left xs ys s p h = record { part = h.part; among = Contains-append_left xs ys h.part h.among; of = h.of; has = h.has }

pub has_right : (xs ys : List HeldPiece) (s : ℕ) (p : Point) → Has ys s p → Has (xs ++ ys) s p
has_right xs ys s p h = record { part = h.part; among = Contains-append_right xs ys h.part h.among; of = h.of; has = h.has }

pub has_cases : (xs ys : List HeldPiece) (s : ℕ) (p : Point) → Has (xs ++ ys) s p → Has xs s p ⊎ Has ys s p
has_cases xs ys s p h = ⊎_elim
    (λ a. inl (record { part = h.part; among = a; of = h.of; has = h.has }))
    (λ b. inr (record { part = h.part; among = b; of = h.of; has = h.has }))
    (Contains-append_cases xs ys h.part h.among)

-- each point of one list of pieces is before each of another
abbrev pub Before : List HeldPiece → List HeldPiece → Type 0
Before xs ys = (s t : ℕ) (p q : Point) → Has xs s p → Has ys t q → p.time <ℤ q.time

winner_left : (xs ys : List HeldPiece) → Before xs ys → (p : Point) → IsWinnerOfPieces xs p → IsWinnerOfPieces (xs ++ ys) p
winner_left xs ys before p w = record {
  source = w.source;
  has = has_left xs ys w.source p w.has;
  last = λ t q h e. ⊎_elim
      (λ a. w.last t q a e)
      (λ b. let l : p.time <ℤ q.time = before w.source t p q w.has b in absurd (omega (arith, ints)))
      (has_cases xs ys t q h);
}

winner_right : (xs ys : List HeldPiece) → Before xs ys → (p : Point) → IsWinnerOfPieces ys p → IsWinnerOfPieces (xs ++ ys) p
winner_right xs ys before p w = record {
  source = w.source;
  has = has_right xs ys w.source p w.has;
  last = λ t q h e. ⊎_elim
      (λ a. let l : q.time <ℤ p.time = before t w.source q p a w.has in absurd (omega (arith, ints)))
      (λ b. w.last t q b e)
      (has_cases xs ys t q h);
}

winner_cases : (xs ys : List HeldPiece) (p : Point) → IsWinnerOfPieces (xs ++ ys) p → IsWinnerOfPieces xs p ⊎ IsWinnerOfPieces ys p
winner_cases xs ys p w = ⊎_elim
    (λ a. inl (record { source = w.source; has = a; last = λ t q h e. w.last t q (has_left xs ys t q h) e }))
    (λ b. inr (record { source = w.source; has = b; last = λ t q h e. w.last t q (has_right xs ys t q h) e }))
    (has_cases xs ys w.source p w.has)

pub winners_append : (xs ys : List HeldPiece) (range : Range) (ps qs : List Point) → Before xs ys → AreWinners xs range ps → AreWinners ys range qs → AreWinners (xs ++ ys) range (ps ++ qs)
winners_append xs ys range ps qs before wp wq =
    let first : (p : Point) → Contains ps p → IsWinnerOfPieces xs p × IsTrue (is_in range p.time) = λ p h. All-contains (λ p. IsWinnerOfPieces xs p × IsTrue (is_in range p.time)) ps p wp.only h in
    let second : (p : Point) → Contains qs p → IsWinnerOfPieces ys p × IsTrue (is_in range p.time) = λ p h. All-contains (λ p. IsWinnerOfPieces ys p × IsTrue (is_in range p.time)) qs p wq.only h in
    record {
      rising = AllPairs-append (λ a b. a.time <ℤ b.time) ps qs wp.rising wq.rising (λ p q h k. before (first p h).0.source (second q k).0.source p q (first p h).0.has (second q k).0.has);
      only = All-from_contains (λ p. IsWinnerOfPieces (xs ++ ys) p × IsTrue (is_in range p.time)) (ps ++ qs) (λ p h. ⊎_elim
          (λ a. (winner_left xs ys before p (first p a).0, (first p a).1))
          (λ b. (winner_right xs ys before p (second p b).0, (second p b).1))
          (Contains-append_cases ps qs p h));
      complete = λ p w r. ⊎_elim
          (λ a. Contains-append_left ps qs p (wp.complete p a r))
          (λ b. Contains-append_right ps qs p (wq.complete p b r))
          (winner_cases xs ys p w);
    }

-- ---- the same points in the range

-- two lists of pieces have the same points in the range
pub record HaveSameIn (range : Range) (xs ys : List HeldPiece) : Type 0 where
  pub into : (s : ℕ) (p : Point) → IsTrue (is_in range p.time) → Has xs s p → Has ys s p
  pub back : (s : ℕ) (p : Point) → IsTrue (is_in range p.time) → Has ys s p → Has xs s p

in_at : (range : Range) (t u : ℤ) → t ≡ u → IsTrue (is_in range u) → IsTrue (is_in range t)
in_at range t u e h = subst (λ v. IsTrue (is_in range v)) (sym e) h

winner_of_same : (range : Range) (xs ys : List HeldPiece) → HaveSameIn range xs ys → (p : Point) → IsTrue (is_in range p.time) → IsWinnerOfPieces xs p → IsWinnerOfPieces ys p
winner_of_same range xs ys same p r w = record {
  source = w.source;
  has = same.into w.source p r w.has;
  last = λ t q h e. w.last t q (same.back t q (in_at range q.time p.time e r) h) e;
}

pub winners_of_same : (range : Range) (xs ys : List HeldPiece) (ps : List Point) → HaveSameIn range xs ys → AreWinners xs range ps → AreWinners ys range ps
winners_of_same range xs ys ps same w =
    let other : HaveSameIn range ys xs = record { into = same.back; back = same.into } in
    record {
      rising = w.rising;
      only = All-from_contains (λ p. IsWinnerOfPieces ys p × IsTrue (is_in range p.time)) ps (λ p h.
          let own : IsWinnerOfPieces xs p × IsTrue (is_in range p.time) = All-contains (λ p. IsWinnerOfPieces xs p × IsTrue (is_in range p.time)) ps p w.only h in
          (winner_of_same range xs ys same p own.1 own.0, own.1));
      complete = λ p v r. w.complete p (winner_of_same range ys xs other p r v) r;
    }

has_permuted : (xs ys : List HeldPiece) → IsPermutation xs ys → (s : ℕ) (p : Point) → Has xs s p → Has ys s p
has_permuted xs ys perm s p h = record { part = h.part; among = Contains-permutation xs ys h.part perm h.among; of = h.of; has = h.has }

pub same_permuted : (range : Range) (xs ys : List HeldPiece) → IsPermutation xs ys → HaveSameIn range xs ys
same_permuted range xs ys perm = record {
  into = λ s p r h. has_permuted xs ys perm s p h;
  back = λ s p r h. has_permuted ys xs (IsPermutation-sym xs ys perm) s p h;
}

-- two ranges that have a time in common
pub common_time : (a b : Range) (t : ℤ) → IsTrue (is_in a t) → IsTrue (is_in b t) → overlap a b ≡ true
common_time a b t x y = grind (arith, ints)

-- the pieces that meet the range have all of the points in it
pub same_filtered : (range : Range) (xs : List HeldPiece) → All HasOrder xs → HaveSameIn range (filter (λ part. overlap range (hull part.0)) xs) xs
same_filtered range xs order = record {
  into = λ s p r h. record { part = h.part; among = Contains-from_filter (λ part. overlap range (hull part.0)) xs h.part h.among; of = h.of; has = h.has };
  back = λ s p r h.
      let own : HasOrder h.part = All-contains HasOrder xs h.part order h.among in
      let inside : IsTrue (is_in (hull h.part.0) p.time) = All-contains (λ q. IsTrue (is_in (hull h.part.0) q.time)) (piece_points h.part) p own.within h.has in
      record { part = h.part; among = Contains-filter (λ part. overlap range (hull part.0)) xs h.part h.among (common_time range (hull h.part.0) p.time r inside); of = h.of; has = h.has };
}

-- ---- one clean piece

in_between : (range : Range) (a b t : ℤ) → IsTrue (is_in range a) → IsTrue (is_in range b) → IsTrue (int_le a t && int_le t b) → IsTrue (is_in range t)
in_between range a b t x y z = grind (arith, ints)

pub winners_clean : (name : Aggregate) (range : Range) (part : HeldPiece) → HasOrder part → IsCleanIn name range part → AreWinners (part ∷ []) range (piece_points part)
winners_clean name range part order clean = record {
  rising = order.rising;
  only = All-from_contains (λ p. IsWinnerOfPieces (part ∷ []) p × IsTrue (is_in range p.time)) (piece_points part) (λ p h. (
    record {
      source = part.0.source;
      has = record { part = part; among = Contains-head part []; of = refl; has = h };
      last = λ t q k e. let at : part.0.source ≡ t = ap (λ (x : HeldPiece). x.0.source) (alone k.part k.among) ∙ k.of in omega (arith, at);
    },
    in_between range part.0.stats.start part.0.stats.end p.time clean.from clean.to (All-contains (λ q. IsTrue (is_in (hull part.0) q.time)) (piece_points part) p order.within h),
  ));
  complete = λ p w r. subst (λ (x : HeldPiece). Contains (piece_points x) p) (sym (alone w.has.part w.has.among)) w.has.has;
}
  where
    alone : (x : HeldPiece) → Contains (part ∷ []) x → part ≡ x
    alone x h = ⊎_elim (λ e. e) (λ never. absurd (Contains-nil x never)) (Contains-cases part x [] h)

-- ---- a merge of pieces in the order of their sources

-- no source comes before an earlier one, and two pieces of one source have no time in common
pub record IsBelow (a b : HeldPiece) : Type 0 where
  pub source : a.0.source ≤ b.0.source
  pub times : a.0.source ≡ b.0.source → All (λ point. HasNoneAt point.time (piece_points b)) (piece_points a)

abbrev lists_of : List HeldPiece → List (List Point)
lists_of parts = map (λ part. (piece_points part)) parts

has_head : (part : HeldPiece) (parts : List HeldPiece) (p : Point) → Contains (piece_points part) p → Has (part ∷ parts) part.0.source p
has_head part parts p h = record { part = part; among = Contains-head part parts; of = refl; has = h }

has_tail : (part : HeldPiece) (parts : List HeldPiece) (s : ℕ) (p : Point) → Has parts s p → Has (part ∷ parts) s p
has_tail part parts s p h = record { part = h.part; among = Contains-tail part h.part parts h.among; of = h.of; has = h.has }

has_split : (part : HeldPiece) (parts : List HeldPiece) (s : ℕ) (p : Point) → Has (part ∷ parts) s p → ((part.0.source ≡ s) × Contains (piece_points part) p) ⊎ Has parts s p
has_split part parts s p h = ⊎_elim
    (λ (e : part ≡ h.part). inl (ap (λ (x : HeldPiece). x.0.source) e ∙ h.of, subst (λ (x : HeldPiece). Contains (piece_points x) p) (sym e) h.has))
    (λ there. inr (record { part = h.part; among = there; of = h.of; has = h.has }))
    (Contains-cases part h.part parts h.among)

-- no point at the time, then none that a piece has
not_there : (parts : List HeldPiece) (t : ℤ) → All (HasNoneAt t) (lists_of parts) → (s : ℕ) (p : Point) → Has parts s p → p.time ≡ t → ⊥
not_there [] t none s p h e = Contains-nil h.part h.among
not_there (part ∷ parts) t none s p h e = ⊎_elim
    (λ here. All-contains (λ q. q.time ≢ t) (piece_points part) p (All-head (HasNoneAt t) (piece_points part) (lists_of parts) none) here.1 e)
    (λ there. not_there parts t (All-tail (HasNoneAt t) (piece_points part) (lists_of parts) none) s p there e)
    (has_split part parts s p h)

above : (part : HeldPiece) (parts : List HeldPiece) → All (IsBelow part) parts → (s : ℕ) (p : Point) → Has parts s p → part.0.source ≤ s
above part parts below s p h = let l : part.0.source ≤ h.part.0.source = (All-contains (IsBelow part) parts h.part below h.among).source in omega (arith, l, h.of)

pub winner_from_lists : (parts : List HeldPiece) → AllPairs IsBelow parts → (p : Point) → IsWinnerOfLists (lists_of parts) p → IsWinnerOfPieces parts p
winner_from_lists [] order p w = absurd w
winner_from_lists (part ∷ parts) order p (inl w) =
    let own = winner_from_lists parts (AllPairs-tail IsBelow part parts order) p w in
    let l : part.0.source ≤ own.source = above part parts (AllPairs-head IsBelow part parts order) own.source p own.has in
    record {
      source = own.source;
      has = has_tail part parts own.source p own.has;
      last = λ t q h e. ⊎_elim (λ here. omega (arith, l, here.0)) (λ there. own.last t q there e) (has_split part parts t q h);
    }
winner_from_lists (part ∷ parts) order p (inr w) = record {
  source = part.0.source;
  has = has_head part parts p w.0;
  last = λ t q h e. ⊎_elim (λ here. omega (arith, here.0)) (λ there. absurd (not_there parts p.time w.1 t q there e)) (has_split part parts t q h);
}

pub winner_into_lists : (parts : List HeldPiece) → AllPairs IsBelow parts → (p : Point) → IsWinnerOfPieces parts p → IsWinnerOfLists (lists_of parts) p
winner_into_lists [] order p w = absurd (Contains-nil w.has.part w.has.among)
winner_into_lists (part ∷ parts) order p w =
    let later = AllPairs-tail IsBelow part parts order in
    let below = AllPairs-head IsBelow part parts order in
    ⊎_elim
    (λ none. ⊎_elim
    (λ here. inr (here.1, none))
    (λ there. absurd (not_there parts p.time none w.source p there refl))
    (has_split part parts w.source p w.has))
    (λ found.
    let q : Point = found.0 in
    let own = winner_from_lists parts later q found.1 in
    let at_most : own.source ≤ w.source = w.last own.source q (has_tail part parts own.source q own.has) found.2 in
    let at_least : part.0.source ≤ own.source = above part parts below own.source q own.has in
    ⊎_elim
    (λ here.
    let same : part.0.source ≡ own.has.part.0.source = omega (arith, here.0, at_most, at_least, own.has.of) in
    let apart = (All-contains (IsBelow part) parts own.has.part below own.has.among).times same in
    absurd (All-contains (λ r. r.time ≢ p.time) (piece_points own.has.part) q (All-contains (λ r. HasNoneAt r.time (piece_points own.has.part)) (piece_points part) p apart here.1) own.has.has found.2))
    (λ there. inl (winner_into_lists parts later p (record {
      source = w.source;
      has = there;
      last = λ t r h e. w.last t r (has_tail part parts t r h) e;
    })))
    (has_split part parts w.source p w.has))
    (winner_at p.time (lists_of parts))

pub winners_of_merge : (range : Range) (parts : List HeldPiece) (all : List Point) → AllPairs IsBelow parts → IsMergeOf (lists_of parts) all → AreWinners parts range (filter (λ point. is_in range point.time) all)
winners_of_merge range parts all order merge =
    let test : Point → Bool = λ point. is_in range point.time in
    record {
      rising = AllPairs-filter (λ a b. a.time <ℤ b.time) test all merge.rising;
      only = All-from_contains (λ p. IsWinnerOfPieces parts p × IsTrue (is_in range p.time)) (filter test all) (λ p h. (
        winner_from_lists parts order p (All-contains (IsWinnerOfLists (lists_of parts)) all p merge.winners (Contains-from_filter test all p h)),
        All-contains (λ q. test q ≡ true) (filter test all) p (filter_passes test all) h,
      ));
      complete = λ p w r. Contains-filter test all p (merge.complete p (winner_into_lists parts order p w)) r;
    }

-- ---- one list of winners

pub winners_are_one : (parts : List HeldPiece) (range : Range) (xs ys : List Point) → AreWinners parts range xs → AreWinners parts range ys → xs ≡ ys
winners_are_one parts range xs ys wx wy = same_points xs ys wx.rising wy.rising
    (λ p h. let own = All-contains (λ p. IsWinnerOfPieces parts p × IsTrue (is_in range p.time)) xs p wx.only h in wy.complete p own.0 own.1)
    (λ p h. let own = All-contains (λ p. IsWinnerOfPieces parts p × IsTrue (is_in range p.time)) ys p wy.only h in wx.complete p own.0 own.1)
