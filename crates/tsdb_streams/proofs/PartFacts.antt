-- Points that are taken of a part in memory.
use Rattle.std.proofs.Common.{◌≡◌, ℕ, ◌+◌, ◌≤◌, ◌<◌, Bool, true, false, Vec, Global, List, [], ◌++◌, length, get_or, Result, Ok, Err, sym, ap, ◌∙◌, arith}
use Rattle.std.proofs.lemmas.Bool.{eqb-false, eqb-true, false≢true}
use Rattle.std.proofs.lemmas.List.{nil_from_length}
use Rattle.std.proofs.lemmas.Option.{slice_get-get_or}
use Rattle.std.specs.Vec.{vec_len}
use Rattle.std.specs.Prelude.{◌==◌, ◌≢◌, IsTrue, OnOk, Some, filter, slice_get}
use Rattle.tsdb_base.specs.declared.point.Point.{Point}
use Rattle.tsdb_streams.proofs.KeptLemmas.{fewer_kept}

-- no more than were looked at
taken : (test : Point → Bool) (into new front : List Point) → new ≡ into ++ filter test front → into ≡ [] → length new ≤ length front
taken test into new front is none =
    let e : length new ≡ length (filter test front) = ap length is ∙ ap (λ (ps : List Point). length (ps ++ filter test front)) none in
    let fewer = fewer_kept test front in
    omega (arith, e, fewer)

pub taken_few : {T E : Type 0} (result : Result T E) (test : Point → Bool) (into new front : List Point) → OnOk result (new ≡ into ++ filter test front) → into ≡ [] → length front ≤ 1000
    → OnOk result (length new ≤ 1000)
taken_few (Ok x) test into new front is none few = let t = taken test into new front is none in omega (arith, t, few)
taken_few (Err e) test into new front is none few = tt

pub taken_most : {T E : Type 0} (result : Result T E) (test : Point → Bool) (into new front back whole : List Point) → OnOk result (new ≡ into ++ filter test front) → into ≡ []
    → length front + length back ≤ length whole → OnOk result (length new + length back ≤ length whole)
taken_most (Ok x) test into new front back whole is none parts = let t = taken test into new front is none in omega (arith, t, parts)
taken_most (Err e) test into new front back whole is none parts = tt

-- ---- what a test of a list says

pub empty_of : (points : Vec Point Global) (test : Bool) → test ≡ (vec_len points == 0) → test ≡ true → points.items ≡ []
empty_of points test is none =
    let zero_is : vec_len points ≡ 0 = eqb-true (vec_len points) 0 (sym is ∙ none) in
    let same : vec_len points ≡ length points.items = omega arith in
    nil_from_length points.items (omega (arith, zero_is, same))

pub got_item : {A : Type 0} (xs items : List A) (n : ℕ) (x : A) → items ≡ xs → n < length xs → x ≡ get_or items n x → slice_get xs n ≡ Some x
got_item xs items n x same low is = slice_get-get_or xs n x low ∙ ap Some (ap (λ l. get_or l n x) (sym same) ∙ sym is)

-- a test that is refuted
pub not_true : (b : Bool) → IsTrue b → b ≡ false → ⊥
not_true b yes_b e = false≢true (sym e ∙ yes_b)

pub full_of : (points : Vec Point Global) (test : Bool) → test ≡ (vec_len points == 0) → test ≡ false → 1 ≤ length points.items
full_of points test is some =
    let full : vec_len points ≢ 0 = eqb-false (vec_len points) 0 (sym is ∙ some) in
    let same : vec_len points ≡ length points.items = omega arith in
    omega (arith, full, same)
