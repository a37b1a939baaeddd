-- From offsets back to differences and values, and the bytes of what was decoded.
use Rattle.std.proofs.Common.{◌≡◌, ℕ, ◌+◌, ◌^◌, ◌<◌, ◌≤◌, min, fold, List, [], ◌∷◌, ◌++◌, length, refl, sym, ap, ◌∙◌, arith, All, ℤ, pos, ◌+ℤ◌, ◌-ℤ◌, ◌≤ℤ◌, FitsSigned}
use Rattle.std.proofs.Math.IntN.{neg_ℤ}
use Rattle.std.specs.Int.{w64, int_wrap, int_min}
use Rattle.std.specs.Int.RustNames.{unsigned_abs}
use Rattle.std.proofs.lemmas.Nat.{mul-le}
use Rattle.std.proofs.lemmas.Int.{ints, int_min_is, int_wrap_fits, int_wrap-add_right}
use Rattle.std.proofs.lemmas.List.{length-map, length-append, map_push}
use Rattle.std.proofs.lemmas.List.Elements.{All-nil, All-cons, All-push, All-head, All-tail}
use Rattle.tsdb_bits.specs.Leb.{leb}
use Rattle.tsdb_bits.specs.Zigzag.{zigzag, unzigzag}
use Rattle.tsdb_bits.specs.Packing.{pack_bytes}
use Rattle.tsdb_bits.specs.Faults.{IsPacking}
use Rattle.tsdb_bits.proofs.LebLaws.{length-leb}
use Rattle.tsdb_bits.proofs.PackingLaws.{length-pack_bytes}
use Rattle.tsdb_bits.proofs.ZigzagLaws.{zigzag-unzigzag}
use Rattle.tsdb_bits.specs.Lists.{IsListOf}
use Rattle.enc_ts2diff.specs.Spelling.{differences, least, offsets, offset_width, at_width, block, values_content, spelling}
use Rattle.enc_ts2diff.specs.Steps.{offsets_above, AreOffsets, last_value_of, Restores}
use Rattle.enc_ts2diff.proofs.Numbers.{length-differences, differences_fit, offsets-lt, width_within, zigzag-lt, least_of_fits, least_bounds, step_from_offset}

-- ---- one value more

differences_push : (first : ℤ) (ys : List ℤ) (y : ℤ) → differences first (ys ++ y ∷ []) ≡ differences first ys ++ int_wrap w64 (y -ℤ last_value_of first ys) ∷ []
unfolding differences last_value_of
differences_push first [] y = refl
differences_push first (x ∷ xs) y = ap (λ (t : List ℤ). int_wrap w64 (x -ℤ first) ∷ t) (differences_push x xs y)

last_push : (first : ℤ) (ys : List ℤ) (y : ℤ) → last_value_of first (ys ++ y ∷ []) ≡ y
unfolding last_value_of
last_push first [] y = refl
last_push first (x ∷ xs) y = last_push x xs y

-- the difference of a value that was stepped to
step_back : (p step : ℤ) → FitsSigned w64 step → int_wrap w64 (int_wrap w64 (p +ℤ step) -ℤ p) ≡ step
step_back p step fits =
    let e : int_wrap w64 (p +ℤ step) -ℤ p ≡ neg_ℤ p +ℤ int_wrap w64 (p +ℤ step) = omega (arith, ints) in
    let f : neg_ℤ p +ℤ (p +ℤ step) ≡ step = omega (arith, ints) in
    ap (int_wrap w64) e ∙ int_wrap-add_right w64 (neg_ℤ p) (p +ℤ step) ∙ ap (int_wrap w64) f ∙ int_wrap_fits w64 step fits

pub restores_none : (base first : ℤ) (values : List ℤ) → FitsSigned w64 first → values ≡ first ∷ [] → Restores base first first [] values
unfolding differences last_value_of
restores_none base first values f e = record {
  rest = [];
  whole = e;
  steps = refl;
  last = refl;
  fits = rw e (All-cons (FitsSigned w64) first [] f (All-nil (FitsSigned w64)));
}

pub restores_push : (base first previous step value : ℤ) (above : List ℕ) (offset : ℕ) (more : List ℕ) (values now : List ℤ) → Restores base first previous above values → step ≡ base +ℤ pos offset → FitsSigned w64 step
    → value ≡ int_wrap w64 (previous +ℤ step) → FitsSigned w64 value → now ≡ values ++ value ∷ [] → more ≡ above ++ offset ∷ [] → Restores base first value more now
restores_push base first previous step value above offset more values now r s fits v vf n m =
    let one : int_wrap w64 (value -ℤ last_value_of first r.rest) ≡ base +ℤ pos offset =
    ap (λ (t : ℤ). int_wrap w64 (value -ℤ t)) r.last ∙ ap (λ (t : ℤ). int_wrap w64 (t -ℤ previous)) v ∙ step_back previous step fits ∙ s in
    record {
      rest = r.rest ++ value ∷ [];
      whole = n ∙ ap (λ (t : List ℤ). t ++ value ∷ []) r.whole;
      steps = differences_push first r.rest value ∙ ap (λ (t : List ℤ). t ++ int_wrap w64 (value -ℤ last_value_of first r.rest) ∷ []) r.steps
          ∙ ap (λ (t : ℤ). offsets_above base above ++ t ∷ []) one ∙ sym (map_push (λ o. base +ℤ pos o) above offset) ∙ ap (offsets_above base) (sym m);
      last = last_push first r.rest value;
      fits = rw n (All-push (FitsSigned w64) values value r.fits vf);
    }

-- ---- the least of differences and the least of offsets

min_shift : (m : ℤ) (o p : ℕ) → int_min (m +ℤ pos o) (m +ℤ pos p) ≡ m +ℤ pos (min o p)
min_shift m o p = omega (arith, ints, int_min_is (m +ℤ pos o) (m +ℤ pos p))

least_shift : (m : ℤ) (o : ℕ) (os : List ℕ) → least (m +ℤ pos o) (offsets_above m os) ≡ m +ℤ pos (fold min o os)
least_shift m o [] = refl
least_shift m o (p ∷ os) = ap (λ (t : ℤ). fold int_min t (offsets_above m os)) (min_shift m o p) ∙ least_shift m (min o p) os

offsets_back : (m : ℤ) (os : List ℕ) → offsets m (offsets_above m os) ≡ os
offsets_back m [] = refl
offsets_back m (o ∷ os) =
    let e : m +ℤ pos o -ℤ m ≡ pos o = omega (arith, ints) in
    ap (λ (t : ℤ). unsigned_abs t ∷ offsets m (offsets_above m os)) e ∙ ap (λ (t : List ℕ). o ∷ t) (offsets_back m os)

steps_back : (m : ℤ) (ds : List ℤ) → All (λ d. m ≤ℤ d) ds → offsets_above m (offsets m ds) ≡ ds
steps_back m [] h = refl
steps_back m (d ∷ ds) h =
    ap (λ (t : ℤ). t ∷ offsets_above m (offsets m ds)) (step_from_offset m d (All-head (λ (x : ℤ). m ≤ℤ x) d ds h))
    ∙ ap (λ (t : List ℤ). d ∷ t) (steps_back m ds (All-tail (λ (x : ℤ). m ≤ℤ x) d ds h))

-- the offsets of a block are offsets at its width
pub are_offsets : (d : ℤ) (ds : List ℤ) (digits : ℕ) → offset_width (offsets (least d ds) (d ∷ ds)) ≡ digits → AreOffsets (offsets (least d ds) (d ∷ ds)) digits
are_offsets d ds digits w =
    let m = least d ds in
    let low = least_bounds d ds in
    let o = unsigned_abs (d -ℤ m) in
    let first : m +ℤ pos o ≡ d = step_from_offset m d (All-head (λ (x : ℤ). m ≤ℤ x) d ds low) in
    let others : offsets_above m (offsets m ds) ≡ ds = steps_back m ds (All-tail (λ (x : ℤ). m ≤ℤ x) d ds low) in
    let whole : m ≡ m +ℤ pos (fold min o (offsets m ds)) = sym (ap (λ (t : ℤ). least t (offsets_above m (offsets m ds))) first ∙ ap (least d) others) ∙ least_shift m o (offsets m ds) in
    (omega (arith, ints, whole), w)

-- and such offsets make that block
pub block_back : (n : ℕ) (above : List ℕ) (digits count : ℕ) (rest : List ℕ) → AreOffsets above digits → IsPacking digits count rest above → leb n ++ digits ∷ rest ≡ block (offsets_above (unzigzag n) above)
unfolding block
block_back n [] digits count rest are packing = absurd are
block_back n (o ∷ os) digits count rest are packing =
    let m = unzigzag n in
    let zero : m +ℤ pos (fold min o os) ≡ m = ap (λ (t : ℕ). m +ℤ pos t) are.0 ∙ plus_zero m in
    let low : least (m +ℤ pos o) (offsets_above m os) ≡ m = least_shift m o os ∙ zero in
    let numbers : offsets m (offsets_above m (o ∷ os)) ≡ o ∷ os = offsets_back m (o ∷ os) in
    let tail : at_width (o ∷ os) ≡ digits ∷ rest = ap (λ (t : ℕ). t ∷ pack_bytes t (o ∷ os)) are.1 ∙ ap (λ (t : List ℕ). digits ∷ t) (sym packing.bytes_are) in
    sym (ap (λ (t : ℤ). leb (zigzag t) ++ at_width (offsets t (offsets_above m (o ∷ os)))) low
    ∙ ap (λ (t : List ℕ). leb (zigzag m) ++ at_width t) numbers
    ∙ ap (λ (t : ℕ). leb t ++ at_width (o ∷ os)) (zigzag-unzigzag n)
    ∙ ap (λ (t : List ℕ). leb n ++ t) tail)
  where
    plus_zero : (m : ℤ) → m +ℤ pos 0 ≡ m
    plus_zero m = omega (arith, ints)

-- ---- the whole

pub length-restored : (base first last : ℤ) (above : List ℕ) (values : List ℤ) → Restores base first last above values → length values ≡ length above + 1
length-restored base first last above values r =
    omega (arith, ap length r.whole, length-differences first r.rest, ap length r.steps, length-map above (λ o. base +ℤ pos o))

-- the list that was restored has the bytes
pub spells : (bytes middle behind : List ℕ) (count n : ℕ) (base first last : ℤ) (above : List ℕ) (values : List ℤ) → bytes ≡ leb count ++ middle → middle ≡ leb n ++ behind → first ≡ unzigzag n
    → behind ≡ block (offsets_above base above) → Restores base first last above values → length values ≡ count → bytes ≡ spelling values
unfolding spelling values_content
spells bytes middle behind count n base first last above values e f g b r size =
    let z : zigzag first ≡ n = ap zigzag g ∙ zigzag-unzigzag n in
    let tail : leb n ++ behind ≡ leb (zigzag first) ++ block (differences first r.rest) = ap (λ (t : ℕ). leb t ++ behind) (sym z) ∙ ap (λ (t : List ℕ). leb (zigzag first) ++ t) (b ∙ ap block (sym r.steps)) in
    e ∙ ap (λ (t : ℕ). leb t ++ middle) (sym size) ∙ ap (λ (t : List ℕ). leb (length values) ++ t) (f ∙ tail) ∙ ap (λ (t : List ℤ). leb (length values) ++ values_content t) (sym r.whole)

pub spells_none : (bytes rest : List ℕ) (values : List ℤ) → bytes ≡ leb 0 ++ rest → rest ≡ [] → values ≡ [] → bytes ≡ spelling values
unfolding spelling values_content
spells_none bytes rest values e z v = e ∙ rw (z, v) refl

-- ---- the number of bytes

length-block : (ds : List ℤ) → All (FitsSigned w64) ds → length ds < 1000 → length (block ds) < 2 ^ 29
unfolding block
length-block [] h few = omega arith
length-block (d ∷ ds) h few =
    let m = least d ds in
    let os = offsets m (d ∷ ds) in
    let within : offset_width os ≤ 64 = width_within os (offsets-lt m (d ∷ ds) (least_of_fits d ds h) h) in
    let number : length os ≡ length (d ∷ ds) = length-map (d ∷ ds) (λ t. unsigned_abs (t -ℤ m)) in
    let bits = mul-le (length os) (offset_width os) 1000 64 (omega arith) within in
    let head : length (leb (zigzag m)) ≤ 10 = length-leb 9 (zigzag m) (omega (arith, zigzag-lt m (least_of_fits d ds h))) in
    omega (arith, length-append (leb (zigzag m)) (at_width os), length-pack_bytes (offset_width os) os, bits, head)

pub length-spelling : (values : List ℤ) → IsListOf (FitsSigned w64) values → length (spelling values) < 2 ^ 30
unfolding spelling values_content
length-spelling [] is = omega (arith, length-append (leb 0) [], length-leb 9 0 (omega arith))
length-spelling (x ∷ xs) is =
    let n = length (x ∷ xs) in
    let count : length (leb n) ≤ 10 = length-leb 9 n (omega (arith, is.few)) in
    let first : length (leb (zigzag x)) ≤ 10 = length-leb 9 (zigzag x) (omega (arith, zigzag-lt x (All-head (FitsSigned w64) x xs is.typed))) in
    let others = length-block (differences x xs) (differences_fit x xs) (omega (arith, length-differences x xs, is.few)) in
    omega (arith, length-append (leb n) (leb (zigzag x) ++ block (differences x xs)), length-append (leb (zigzag x)) (block (differences x xs)), count, first, others)
