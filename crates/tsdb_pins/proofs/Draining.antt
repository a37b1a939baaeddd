-- A loop that takes all points of a stream.
use Rattle.std.proofs.Common.{◌≡◌, ℕ, ◌<◌, ◌≤◌, Result, Ok, Err, length, get_or, List, [], ◌∷◌, ◌++◌, Option, None, Some, refl, sym, ap, subst, ◌∙◌, append_assoc, zero, suc, arith}
use Rattle.std.specs.Prelude.{IfOk, slice_get}
use Rattle.std.specs.List.{AllByRecursion as Each}
use Rattle.std.proofs.lemmas.List.{append-nil}
use Rattle.std.proofs.lemmas.Option.{slice_get_read}
use Rattle.std.proofs.lemmas.List.Elements.{All-from_recursion}
use Rattle.tsdb_base.specs.declared.point.Point.{Point}
use Rattle.tsdb_merge.specs.Winners.{IsMergeOf, IsToldMergeOf, TakesTold}

-- these points were taken, and what is left is told where all were
pub record Drains (first now : Option (List Point)) (points : List Point) : Type 0 where
  pub rest : (all : List Point) → first ≡ Some all → (left : List Point) × (now ≡ Some left) × (all ≡ points ++ left)

pub drains_none : (first : Option (List Point)) (points : List Point) → points ≡ [] → Drains first first points
drains_none first points none = record { rest = λ all is. (all, is, ap (λ l. l ++ all) (sym none)) }

pub takes_one : (now next : Option (List Point)) (left : List Point) (point : Point) → now ≡ Some left → TakesTold now (Some point) next → (rest : List Point) × (next ≡ Some rest) × (left ≡ point ∷ rest)
takes_one None next left point is takes = absurd cc
takes_one (Some before) None left point is takes = absurd takes
takes_one (Some before) (Some rest) left point is takes =
    let same : before ≡ left = cc in
    (rest, refl, sym same ∙ takes)

pub takes_none : (now next : Option (List Point)) (left : List Point) → now ≡ Some left → TakesTold now None next → left ≡ []
takes_none None next left is takes = absurd cc
takes_none (Some before) None left is takes = absurd takes
takes_none (Some before) (Some rest) left is takes =
    let same : before ≡ left = cc in
    sym same ∙ takes.0

pub drains_more : (first now next : Option (List Point)) (points more : List Point) (taken : Option Point) (point : Point) → Drains first now points → TakesTold now taken next → taken ≡ Some point → more ≡ points ++ point ∷ [] → Drains first next more
drains_more first now next points more taken point was takes some push = record {
  rest = λ all is.
      let old = was.rest all is in
      let new = takes_one now next old.0 point old.1 (subst (λ t. TakesTold now t next) some takes) in
      (new.0, new.1, old.2 ∙ ap (λ l. points ++ l) new.2 ∙ sym (append_assoc points (point ∷ []) new.0) ∙ ap (λ l. l ++ new.0) (sym push));
}

merge_all : (lists : List (List Point)) (first now next : Option (List Point)) (points : List Point) → Drains first now points → TakesTold now None next → IsToldMergeOf lists first → IsMergeOf lists points
merge_all lists None now next points was takes merge = absurd merge
merge_all lists (Some all) now next points was takes merge =
    let end = was.rest all refl in
    subst (IsMergeOf lists) (end.2 ∙ ap (λ l. points ++ l) (takes_none now next end.0 end.1 takes) ∙ append-nil points) merge

pub drains_all : (lists : List (List Point)) (first now next : Option (List Point)) (points : List Point) (taken : Option Point) → Drains first now points → TakesTold now taken next → taken ≡ None → IsToldMergeOf lists first → IsMergeOf lists points
drains_all lists first now next points taken was takes none merge = merge_all lists first now next points was (subst (λ t. TakesTold now t next) none takes) merge

-- counts of faults, one call behind the other
pub later_then : (a b c : ℕ) → a ≤ b → b ≤ c → a ≤ c
later_then a b c l m = omega (arith, l, m)

pub ok_then : {T E : Type 0} (Q W : T → Type 0) → ((x : T) → Q x → W x) → (result : Result T E) → IfOk result Q → IfOk result W
ok_then Q W f (Ok x) is = f x is
ok_then Q W f (Err e) is = tt

pub each_at : {X : Type 0} (Q : X → Type 0) (xs ys : List X) (i : ℕ) (x : X) → ys ≡ xs → Each Q xs → i < length ys → x ≡ get_or ys i x → Q x
each_at Q xs ys i x same each below at = subst Q (sym at) (All-from_recursion Q ys (subst (Each Q) (sym same) each) i x below)

-- ---- what is found at a place of a list

pub found_at : {X : Type 0} (xs ys : List X) (i : ℕ) (x : X) → ys ≡ xs → i < length xs → x ≡ get_or ys i x
    → slice_get xs i ≡ Some x
found_at xs ys i x same below at = slice_get_read xs (length xs) i x refl below (subst (λ l. x ≡ get_or l i x) same at)

pub each_found : {X : Type 0} (Q : X → Type 0) (xs : List X) (i : ℕ) (x : X) → Each Q xs → slice_get xs i ≡ Some x → Q x
each_found Q [] i x each at = absurd cc
each_found Q (y ∷ xs) zero x each at =
    let same : y ≡ x = cc in
    subst Q same each.0
each_found Q (y ∷ xs) (suc i) x each at = each_found Q xs i x each.1 at

pub one_found : {X : Type 0} (xs : List X) (i : ℕ) (x y : X) → slice_get xs i ≡ Some x → slice_get xs i ≡ Some y → x ≡ y
one_found xs i x y here there = cc
