-- Entries in order of their starts: where a group ends, and what a sort leaves.
use Rattle.std.proofs.Common.{◌≡◌, ℕ, suc, ◌+◌, ◌<◌, ◌≤◌, Bool, true, false, not, cond, List, [], ◌∷◌, ◌++◌, length, get_or, take, drop, ◌⊎◌, ⊎_elim, refl, sym, ap, ◌∙◌, subst, filter, None, arith}
use Rattle.std.specs.Prelude.{ℤ, ◌<ℤ◌, ◌≤ℤ◌, ◌||◌, int_le, All, AllPairs, IsTrue}
use Rattle.std.specs.Ordering.{int_cmp, is_lt}
use Rattle.std.specs.List.{zip}
use Rattle.std.specs.List.Sorted.{IsPermutation, IsSortedByKey}
use Rattle.std.proofs.lemmas.Cmp.{int_cmp_total}
use Rattle.std.proofs.lemmas.Int.{ints}
use Rattle.std.proofs.lemmas.List.{append-nil, length-take-le, map-append, take-append-drop, take_all}
use Rattle.std.proofs.lemmas.Slice.Zip.{get_or-zip, length-zip}
use Rattle.std.proofs.lemmas.List.Elements.{All-contains, All-more, All-push, All-weaker, filter_more}
use Rattle.std.proofs.lemmas.List.Sorted.{ranks_by, sorted_far, IsPermutation-map}
use Rattle.std.proofs.Math.Seq.{drop-cons}
use Rattle.tsdb_base.specs.declared.point.Range.{Range}
use Rattle.tsdb_model.proofs.TimeTests.{lt-cmp}
use Rattle.tsdb_merge.proofs.MergeLemmas.{AllPairs-head, Contains-cases}
use Rattle.tsdb_aggregate.specs.Loads.{Held, held_at}
use Rattle.tsdb_aggregate.specs.Pieces.{ArePiecesApart, HeldPiece, hull, overlap}
use Rattle.tsdb_aggregate.specs.Steps.{End, ComesBefore, IsCut, held_piece, held_parts}
use Rattle.tsdb_aggregate.specs.declared.piece.Piece.{Piece}
use Rattle.tsdb_aggregate.specs.declared.entry.PieceEntry.{PieceEntry}
use Rattle.tsdb_aggregate.proofs.ListFacts.{AllPairs-across, AllPairs-of_map, AllPairs-right, All-of_map}

-- where an entry begins behind all of the first ones, or is clean, the first ones end before it
ends_before : (front : List PieceEntry) (x : PieceEntry) (rest : List PieceEntry) (e : ℤ) → AllPairs ComesBefore (front ++ x ∷ rest) → All (λ a. a.piece.now.stats.end ≤ℤ e) front
    → IsTrue x.piece.now.clean ⊎ (e <ℤ x.piece.now.stats.start) → End front (x ∷ rest)
ends_before front x rest e order ends stop a b ha hb =
    let low : a.piece.now.stats.end ≤ℤ e = All-contains (λ a. a.piece.now.stats.end ≤ℤ e) front a ends ha in
    let own : ComesBefore a x = AllPairs-across ComesBefore front (x ∷ rest) order a x ha (0, omega arith, refl) in
    let first : a.piece.now.stats.end <ℤ x.piece.now.stats.start = ⊎_elim (λ clean. own.clean (either (a.piece.now.clean) (x.piece.now.clean) clean)) (λ l. omega (arith, ints)) stop in
    ⊎_elim
    (λ (here : x ≡ b). subst (λ (y : PieceEntry). a.piece.now.stats.end <ℤ y.piece.now.stats.start) here first)
    (λ there.
    let later : ComesBefore x b = All-contains (ComesBefore x) rest b (AllPairs-head ComesBefore x rest (AllPairs-right ComesBefore front (x ∷ rest) order)) there in
    let step : x.piece.now.stats.start ≤ℤ b.piece.now.stats.start = later.start in
    omega (arith, ints))
    (Contains-cases x b rest hb)
  where
    either : (p q : Bool) → q ≡ true → (p || q) ≡ true
    either true q e = refl
    either false q e = e

pub cut_at : (entries : List PieceEntry) (n : ℕ) (x : PieceEntry) (e : ℤ) → n < length entries → x ≡ get_or entries n x → AllPairs ComesBefore entries → All (λ a. a.piece.now.stats.end ≤ℤ e) (take n entries)
    → IsTrue (get_or entries n x).piece.now.clean ⊎ (e <ℤ (get_or entries n x).piece.now.stats.start) → IsCut n entries
cut_at entries n x e l is order ends known =
    let stop : IsTrue x.piece.now.clean ⊎ (e <ℤ x.piece.now.stats.start) = subst (λ (y : PieceEntry). IsTrue y.piece.now.clean ⊎ (e <ℤ y.piece.now.stats.start)) (sym is) known in
    let tail : drop n entries ≡ x ∷ drop (suc n) entries = drop-cons entries n x l ∙ ap (λ y. y ∷ drop (suc n) entries) (sym is) in
    let whole : take n entries ++ x ∷ drop (suc n) entries ≡ entries = ap (λ ys. take n entries ++ ys) (sym tail) ∙ take-append-drop n entries in
    rw tail (ends_before (take n entries) x (drop (suc n) entries) e (subst (λ ys. AllPairs ComesBefore ys) (sym whole) order) ends stop)

-- ---- after a sort by start

not_false : (b : Bool) → b ≡ false → not b ≡ true
not_false true e = sym e
not_false false e = refl

int_le_is : (a b : ℤ) → int_le a b ≡ true → a ≤ℤ b
int_le_is a b e = grind (arith, ints)

pub starts_rise : {X : Type 0} (key : X → ℤ) (xs : List X) → IsSortedByKey key int_cmp xs → AllPairs (λ a b. key a ≤ℤ key b) xs
starts_rise key xs sorted i j d l m =
    let far = sorted_far (λ a b. is_lt (int_cmp (key a) (key b))) (ranks_by int_cmp_total key) xs sorted i j d (omega arith) m in
    int_le_is (key (get_or xs i d)) (key (get_or xs j d)) (sym (lt-cmp (key (get_or xs j d)) (key (get_or xs i d))) ∙ not_false (is_lt (int_cmp (key (get_or xs j d)) (key (get_or xs i d)))) far)

-- ---- pieces that meet a range

pub not_empty : (range h : Range) → overlap range h ≡ true → h.from ≤ℤ h.to
not_empty range h e = grind (arith, ints)

ends_first : (a b : Range) → a.from ≤ℤ a.to → b.from ≤ℤ b.to → a.from ≤ℤ b.from → overlap a b ≡ false → a.to <ℤ b.from
ends_first a b na nb l e = grind (arith, ints)

pub in_order : (range : Range) (held : List Held) (entries : List PieceEntry) → AllPairs (λ a b. a.piece.now.stats.start ≤ℤ b.piece.now.stats.start) entries
    → AllPairs ArePiecesApart (held_parts held entries) → All (λ part. overlap range (hull part.0) ≡ true) (held_parts held entries) → AllPairs ComesBefore entries
in_order range held entries starts apart meet i j d l m =
    let a = get_or entries i d in
    let b = get_or entries j d in
    let pair : ArePiecesApart (held_piece held a) (held_piece held b) = AllPairs-of_map ArePiecesApart (held_piece held) entries apart i j d l m in
    let each = All-of_map (λ part. overlap range (hull part.0) ≡ true) (held_piece held) entries meet in
    record {
      start = starts i j d l m;
      clean = λ c. ends_first (hull a.piece.now) (hull b.piece.now) (not_empty range (hull a.piece.now) (each i d (omega arith))) (not_empty range (hull b.piece.now) (each j d m)) (starts i j d l m) (pair.hulls c);
    }

-- ---- a walk along the entries

pub one_more : (P : PieceEntry → Type 0) (entries : List PieceEntry) (n : ℕ) (x : PieceEntry) → n < length entries → x ≡ get_or entries n x → All P (take n entries) → P (get_or entries n x) → All P (take (n + 1) entries)
one_more P entries n x l is all p = All-more P entries n x l all p

pub all_later : (entries : List PieceEntry) (n : ℕ) (x : PieceEntry) (e low high out : ℤ) → n < length entries → x ≡ get_or entries n x → low ≡ e → out ≡ high → (low ≤ℤ high) × ((get_or entries n x).piece.now.stats.end ≤ℤ high)
    → All (λ a. a.piece.now.stats.end ≤ℤ e) (take n entries) → All (λ a. a.piece.now.stats.end ≤ℤ out) (take (n + 1) entries)
all_later entries n x e low high out l is el eo both all =
    let up : e ≤ℤ out = rw (eo, ← el) both.0 in
    one_more (λ a. a.piece.now.stats.end ≤ℤ out) entries n x l is (All-weaker (λ a. a.piece.now.stats.end ≤ℤ e) (λ a. a.piece.now.stats.end ≤ℤ out) (λ a h. omega (arith, ints)) (take n entries) all) (rw eo both.1)

pub first_one : (P : PieceEntry → Type 0) (entries : List PieceEntry) (x : PieceEntry) → 0 < length entries → x ≡ get_or entries 0 x → P x → All P (take 1 entries)
first_one P entries x l is p = one_more P entries 0 x l is (λ k d m. absurd (omega (arith, length-take-le 0 entries (omega arith)))) (subst P is p)

pub cut_first : (entries : List PieceEntry) (x : PieceEntry) → 0 < length entries → x ≡ get_or entries 0 x → AllPairs ComesBefore entries → IsTrue (get_or entries 0 x).piece.now.clean → IsCut 1 entries
cut_first entries x l is order known a b ha hb =
    let clean : IsTrue x.piece.now.clean = subst (λ (y : PieceEntry). IsTrue y.piece.now.clean) (sym is) known in
    let own : ComesBefore a b = AllPairs-across ComesBefore (take 1 entries) (drop 1 entries) (subst (λ ys. AllPairs ComesBefore ys) (sym (take-append-drop 1 entries)) order) a b ha hb in
    let one : IsTrue a.piece.now.clean = All-contains (λ e. IsTrue e.piece.now.clean) (take 1 entries) a (first_one (λ e. IsTrue e.piece.now.clean) entries x l is clean) ha in
    own.clean (ap (λ c. c || b.piece.now.clean) one)

-- ---- the pieces that meet a range

module _ (range : Range) (pieces : List Piece) (held : List Held) (place : ℕ) (entries : List PieceEntry) (piece : Piece) (below : place < length pieces) (same : length held ≡ length pieces) (is : piece ≡ get_or pieces place piece)
    (so_far : held_parts held entries ≡ filter (λ part. overlap range (hull part.0)) (take place (zip pieces held))) where
  abbrev none : Held
  none = record { points = None; cost = 0 }

  at : get_or (zip pieces held) place (piece, none) ≡ (piece, held_at held place)
  at = get_or-zip pieces held place (piece, none) below (omega (arith, below, same)) ∙ ap (λ p. (p, get_or held place none)) (sym is)

  within : place < length (zip pieces held)
  within = let long = length-zip pieces held in omega (arith, long, below, same)

  more : filter (λ part. overlap range (hull part.0)) (take (place + 1) (zip pieces held)) ≡ held_parts held entries ++ cond (overlap range (hull piece)) ((piece, held_at held place) ∷ []) []
  more = filter_more (λ part. overlap range (hull part.0)) (zip pieces held) place (piece, none) within
      ∙ ap (λ xs. xs ++ cond (overlap range (hull (get_or (zip pieces held) place (piece, none)).0)) (get_or (zip pieces held) place (piece, none) ∷ []) []) (sym so_far)
      ∙ ap (λ (x : HeldPiece). held_parts held entries ++ cond (overlap range (hull x.0)) (x ∷ []) []) at

  pub pushed : (entry : PieceEntry) → entry.place ≡ place → entry.piece.now ≡ piece → overlap range (hull piece) ≡ true
      → held_parts held (entries ++ entry ∷ []) ≡ filter (λ part. overlap range (hull part.0)) (take (place + 1) (zip pieces held))
  pushed entry ep en meet =
      let own : held_piece held entry ≡ (piece, held_at held place) = ap (λ k. (entry.piece.now, held_at held k)) ep ∙ ap (λ p. (p, held_at held place)) en in
      map-append (held_piece held) entries (entry ∷ []) ∙ ap (λ x. held_parts held entries ++ x ∷ []) own
      ∙ sym (more ∙ ap (λ b. held_parts held entries ++ cond b ((piece, held_at held place) ∷ []) []) meet)

  pub passed : overlap range (hull piece) ≡ false → held_parts held entries ≡ filter (λ part. overlap range (hull part.0)) (take (place + 1) (zip pieces held))
  passed miss = sym (more ∙ ap (λ b. held_parts held entries ++ cond b ((piece, held_at held place) ∷ []) []) miss ∙ append-nil (held_parts held entries))

pub all_sorted : (range : Range) (pieces : List Piece) (held : List Held) (n : ℕ) (before after : List PieceEntry) → length held ≡ length pieces → length pieces ≤ n → IsPermutation before after
    → held_parts held before ≡ filter (λ part. overlap range (hull part.0)) (take n (zip pieces held)) → IsPermutation (filter (λ part. overlap range (hull part.0)) (zip pieces held)) (held_parts held after)
all_sorted range pieces held n before after same done perm is =
    let long = length-zip pieces held in
    let whole : take n (zip pieces held) ≡ zip pieces held = take_all n (zip pieces held) (omega (arith, long, same, done)) in
    let test : List HeldPiece → List HeldPiece = filter (λ part. overlap range (hull part.0)) in
    subst (λ xs. IsPermutation xs (held_parts held after)) (is ∙ ap test whole) (IsPermutation-map (held_piece held) before after perm)

abbrev IsSoFar : Range → List Piece → ℕ → List PieceEntry → Type 0
IsSoFar range pieces place entries = All (λ entry. entry.place < length pieces) entries
    × ((held : List Held) → length held ≡ length pieces → held_parts held entries ≡ filter (λ part. overlap range (hull part.0)) (take place (zip pieces held)))

pub with_entry : (range : Range) (pieces : List Piece) (place : ℕ) (entries items : List PieceEntry) (entry : PieceEntry) (piece : Piece) → place < length pieces → piece ≡ get_or pieces place piece → items ≡ entries ++ entry ∷ []
    → entry.place ≡ place → entry.piece.now ≡ piece → overlap range (hull piece) ≡ true → IsSoFar range pieces place entries → IsSoFar range pieces (place + 1) items
with_entry range pieces place entries items entry piece below is more ep en meet so_far =
    rw more (
      All-push (λ entry. entry.place < length pieces) entries entry so_far.0 (omega (arith, ep, below)),
      λ held same. pushed range pieces held place entries piece below same is (so_far.1 held same) entry ep en meet,
    )

pub without_entry : (range : Range) (pieces : List Piece) (place : ℕ) (entries items : List PieceEntry) (piece : Piece) → place < length pieces → piece ≡ get_or pieces place piece → items ≡ entries
    → overlap range (hull piece) ≡ false → IsSoFar range pieces place entries → IsSoFar range pieces (place + 1) items
without_entry range pieces place entries items piece below is more miss so_far =
    rw more (so_far.0, λ held same. passed range pieces held place entries piece below same is (so_far.1 held same) miss)
