-- Differences, offsets and their widths.
use Rattle.std.proofs.Common.{◌≡◌, ℕ, suc, ◌^◌, ◌<◌, ◌≤◌, max, List, [], ◌∷◌, length, get_or, fold, refl, sym, ap, subst, ◌∙◌, inl, inr, arith, All, ℤ, pos, negsuc, ◌+ℤ◌, ◌-ℤ◌, ◌≤ℤ◌, FitsSigned, cond, true, false, int_lt, ◌⊎◌}
use Rattle.std.proofs.Math.IntN.{neg_ℤ}
use Rattle.std.specs.Int.{w32, w64, int_wrap, int_min}
use Rattle.std.specs.Int.RustNames.{unsigned_abs}
use Rattle.std.proofs.Math.Nat.{le-max_left, le-max_right}
use Rattle.std.proofs.lemmas.Int.{ints, int_wrap_fits, int_wrap-add_right, SFits-int_wrap, fold-int_min_bounds}
use Rattle.std.proofs.lemmas.List.Elements.{All-head, All-tail, All-nil, All-cons, All-weaker}
use Rattle.tsdb_bits.specs.Zigzag.{zigzag}
use Rattle.tsdb_bits.proofs.PackingLaws.{digits_of_number, digits_least}
use Rattle.tsdb_bits.specs.Lists.{IsListOf}
use Rattle.enc_ts2diff.specs.Spelling.{differences, least, offsets, offset_width}
use Rattle.enc_ts2diff.specs.Steps.{Continues}

-- ---- the greatest of numbers

fold_max_from : (a : ℕ) (xs : List ℕ) → a ≤ fold max a xs
fold_max_from a [] = omega arith
fold_max_from a (x ∷ xs) = omega (arith, fold_max_from (max a x) xs, le-max_left a x)

fold_max_bounds : (a : ℕ) (xs : List ℕ) → All (λ x. x ≤ fold max a xs) xs
fold_max_bounds a [] = All-nil (λ (y : ℕ). y ≤ fold max a [])
fold_max_bounds a (x ∷ xs) =
    All-cons (λ (y : ℕ). y ≤ fold max a (x ∷ xs)) x xs (omega (arith, fold_max_from (max a x) xs, le-max_right a x)) (fold_max_bounds (max a x) xs)

fold_max_below : (a b : ℕ) (xs : List ℕ) → a < b → All (λ x. x < b) xs → fold max a xs < b
fold_max_below a b [] lt h = lt
fold_max_below a b (x ∷ xs) lt h =
    let first : x < b = All-head (λ (y : ℕ). y < b) x xs h in
    fold_max_below (max a x) b xs (omega arith) (All-tail (λ (y : ℕ). y < b) x xs h)

-- the width holds each of the numbers
pub fits_width : (xs : List ℕ) → All (λ x. x < 2 ^ offset_width xs) xs
fits_width xs =
    let d = (digits_of_number (fold max 0 xs)).below in
    All-weaker (λ (x : ℕ). x ≤ fold max 0 xs) (λ (x : ℕ). x < 2 ^ offset_width xs) (λ x le. omega (arith, d)) xs (fold_max_bounds 0 xs)

pub width_within : (xs : List ℕ) → All (λ x. x < 2 ^ 64) xs → offset_width xs ≤ 64
width_within xs h =
    digits_least (fold max 0 xs) (offset_width xs) 64 (digits_of_number (fold max 0 xs)) (fold_max_below 0 (2 ^ 64) xs (omega arith) h)

-- ---- signed numbers

pub zigzag-lt : (z : ℤ) → FitsSigned w64 z → zigzag z < 2 ^ 64
zigzag-lt (pos n) f = let h : n < 2 ^ 63 = f.sfits in omega arith
zigzag-lt (negsuc n) f = let h : n < 2 ^ 63 = f.sfits in omega arith

abs_is : (z : ℤ) → (pos (unsigned_abs z) ≡ z) ⊎ (pos (unsigned_abs z) ≡ neg_ℤ z)
abs_is (pos n) = inl refl
abs_is (negsuc n) = inr refl

distance-lt : (x y : ℤ) → FitsSigned w64 x → FitsSigned w64 y → unsigned_abs (x -ℤ y) < 2 ^ 64
distance-lt x y f g =
    elim (abs_is (x -ℤ y)) [
      | inl e ↦ omega (arith, ints)
      | inr e ↦ omega (arith, ints)
    ]

least_fits : (a : ℤ) (ds : List ℤ) → FitsSigned w64 a → All (FitsSigned w64) ds → FitsSigned w64 (least a ds)
least_fits a [] f h = f
least_fits a (d ∷ ds) f h =
    least_fits (int_min a d) ds (chosen a d f (All-head (FitsSigned w64) d ds h)) (All-tail (FitsSigned w64) d ds h)
  where
    chosen : (a d : ℤ) → FitsSigned w64 a → FitsSigned w64 d → FitsSigned w64 (int_min a d)
    chosen a d f g = elim (int_lt d a) as (λ b. FitsSigned w64 (cond b d a)) [ true ↦ g | false ↦ f ]

pub least_of_fits : (d : ℤ) (ds : List ℤ) → All (FitsSigned w64) (d ∷ ds) → FitsSigned w64 (least d ds)
least_of_fits d ds h = least_fits d ds (All-head (FitsSigned w64) d ds h) (All-tail (FitsSigned w64) d ds h)

pub least_bounds : (d : ℤ) (ds : List ℤ) → All (λ x. least d ds ≤ℤ x) (d ∷ ds)
least_bounds d ds =
    let b = fold-int_min_bounds d ds (least d ds) refl in
    All-cons (λ (x : ℤ). least d ds ≤ℤ x) d ds b.0 b.1

-- ---- differences and offsets

pub length-differences : (x : ℤ) (ys : List ℤ) → length (differences x ys) ≡ length ys
unfolding differences
length-differences x [] = refl
length-differences x (y ∷ ys) = ap suc (length-differences y ys)

pub differences_fit : (x : ℤ) (ys : List ℤ) → All (FitsSigned w64) (differences x ys)
unfolding differences
differences_fit x [] = All-nil (FitsSigned w64)
differences_fit x (y ∷ ys) = All-cons (FitsSigned w64) (int_wrap w64 (y -ℤ x)) (differences y ys) (SFits-int_wrap w64 (y -ℤ x)) (differences_fit y ys)

pub offsets-lt : (base : ℤ) (ds : List ℤ) → FitsSigned w64 base → All (FitsSigned w64) ds → All (λ o. o < 2 ^ 64) (offsets base ds)
offsets-lt base [] f h = All-nil (λ (o : ℕ). o < 2 ^ 64)
offsets-lt base (d ∷ ds) f h =
    All-cons (λ (o : ℕ). o < 2 ^ 64) (unsigned_abs (d -ℤ base)) (offsets base ds)
    (distance-lt d base (All-head (FitsSigned w64) d ds h) f) (offsets-lt base ds f (All-tail (FitsSigned w64) d ds h))

-- a difference from the least one and its offset
pub step_from_offset : (base d : ℤ) → base ≤ℤ d → base +ℤ pos (unsigned_abs (d -ℤ base)) ≡ d
step_from_offset base d le =
    elim (abs_is (d -ℤ base)) [
      | inl e ↦ omega (arith, ints)
      | inr e ↦ omega (arith, ints)
    ]

-- a value from the one before it and the difference
pub value_from_step : (x y : ℤ) → FitsSigned w64 y → int_wrap w64 (x +ℤ int_wrap w64 (y -ℤ x)) ≡ y
value_from_step x y f =
    let e : x +ℤ (y -ℤ x) ≡ y = omega (arith, ints) in
    int_wrap-add_right w64 x (y -ℤ x) ∙ ap (int_wrap w64) e ∙ int_wrap_fits w64 y f

pub record Next (base previous : ℤ) (offset : ℕ) (more : List ℕ) (values : List ℤ) : Type 0 where
  pub value : ℤ
  pub rest : List ℤ
  pub fits : FitsSigned w64 (base +ℤ pos offset)
  pub value_is : value ≡ int_wrap w64 (previous +ℤ (base +ℤ pos offset))
  pub values-are : values ≡ value ∷ rest
  pub goes_on : Continues base value more rest

-- the next value
pub next_value : (base previous : ℤ) (offset : ℕ) (more : List ℕ) (values : List ℤ) → Continues base previous (offset ∷ more) values → Next base previous offset more values
unfolding differences
next_value base previous offset more [] k = absurd (let e = k.differ in cc)
next_value base previous offset more (y ∷ ys) k =
    let d = int_wrap w64 (y -ℤ previous) in
    let o : offset ≡ unsigned_abs (d -ℤ base) = let e = k.differ in cc in
    let m : more ≡ offsets base (differences y ys) = let e = k.differ in cc in
    let le : base ≤ℤ d = All-head (λ (x : ℤ). base ≤ℤ x) d (differences y ys) k.lowest in
    let s : base +ℤ pos offset ≡ d = ap (λ (t : ℕ). base +ℤ pos t) o ∙ step_from_offset base d le in
    record {
      value = y;
      rest = ys;
      fits = rw s (SFits-int_wrap w64 (y -ℤ previous));
      value_is = sym (ap (λ (t : ℤ). int_wrap w64 (previous +ℤ t)) s ∙ value_from_step previous y (All-head (FitsSigned w64) y ys k.fits));
      values-are = refl;
      goes_on = record { fits = All-tail (FitsSigned w64) y ys k.fits; lowest = All-tail (λ (x : ℤ). base ≤ℤ x) d (differences y ys) k.lowest; differ = m };
    }

pub no_value : (base previous : ℤ) (values : List ℤ) → Continues base previous [] values → values ≡ []
unfolding differences
no_value base previous [] k = refl
no_value base previous (y ∷ ys) k = absurd (let e = k.differ in cc)

-- the values follow from the offsets
pub same_values : (base previous : ℤ) (above : List ℕ) (xs ys : List ℤ) → Continues base previous above xs → Continues base previous above ys → xs ≡ ys
same_values base previous [] xs ys j k = no_value base previous xs j ∙ sym (no_value base previous ys k)
same_values base previous (offset ∷ more) xs ys j k =
    let p = next_value base previous offset more xs j in
    let q = next_value base previous offset more ys k in
    let v : q.value ≡ p.value = q.value_is ∙ sym p.value_is in
    let r = same_values base p.value more p.rest q.rest p.goes_on (subst (λ (t : ℤ). Continues base t more q.rest) v q.goes_on) in
    p.values-are ∙ ap (λ (t : List ℤ). p.value ∷ t) r ∙ ap (λ (t : ℤ). t ∷ q.rest) (sym v) ∙ sym q.values-are

-- ---- numbers of 32 bits as numbers of 64 bits

wider : (z : ℤ) → FitsSigned w32 z → FitsSigned w64 z
wider (pos n) f = let h : n < 2 ^ 31 = f.sfits in record { sfits = omega arith }
wider (negsuc n) f = let h : n < 2 ^ 31 = f.sfits in record { sfits = omega arith }

pub wider_list : (values : List ℤ) → IsListOf (FitsSigned w32) values → IsListOf (FitsSigned w64) values
wider_list values is = record { few = is.few; typed = λ k d lt. wider (get_or values k d) (is.typed k d lt) }
