-- The parts of a spelling, one after the other.
use Rattle.std.proofs.Common.{◌≡◌, ℕ, ◌^◌, ◌<◌, ◌≤◌, List, [], ◌∷◌, ◌++◌, length, refl, sym, ap, subst, ◌∙◌, arith, All, ℤ, pos, ◌-ℤ◌, FitsSigned}
use Rattle.std.specs.Int.RustNames.{unsigned_abs}
use Rattle.std.specs.Int.{w64, int_wrap}
use Rattle.std.proofs.lemmas.List.Elements.{All-tail}
use Rattle.std.proofs.lemmas.List.{length-map}
use Rattle.tsdb_bits.specs.Leb.{leb}
use Rattle.tsdb_bits.specs.Zigzag.{zigzag}
use Rattle.tsdb_bits.specs.Packing.{pack_bytes}
use Rattle.tsdb_bits.specs.Faults.{IsPacking}
use Rattle.tsdb_bits.proofs.LebLaws.{leb_prefix_free}
use Rattle.tsdb_bits.proofs.ZigzagLaws.{same_from_zigzag}
use Rattle.tsdb_bits.proofs.PackingLaws.{same_from_packed}
use Rattle.tsdb_bits.specs.Lists.{IsListOf}
use Rattle.enc_ts2diff.specs.Spelling.{differences, least, offsets, offset_width, at_width, block, values_content, spelling}
use Rattle.enc_ts2diff.specs.Steps.{IsBlockOf, Continues}
use Rattle.enc_ts2diff.proofs.Numbers.{fits_width, width_within, least_of_fits, least_bounds, length-differences, offsets-lt, same_values}

-- ---- the whole

-- the number of values, and what stands behind it
pub spelling_parts : (xs : List ℤ) (bytes rest : List ℕ) (n : ℕ) → spelling xs ≡ bytes → bytes ≡ leb n ++ rest → (length xs ≡ n) × (values_content xs ≡ rest)
unfolding spelling
spelling_parts xs bytes rest n e f = leb_prefix_free (length xs) n (values_content xs) rest (e ∙ f)

pub content_parts : (x : ℤ) (xs : List ℤ) (bytes rest : List ℕ) (n : ℕ) → values_content (x ∷ xs) ≡ bytes → bytes ≡ leb n ++ rest → (zigzag x ≡ n) × (block (differences x xs) ≡ rest)
unfolding values_content
content_parts x xs bytes rest n e f = leb_prefix_free (zigzag x) n (block (differences x xs)) rest (e ∙ f)

pub block_parts : (d : ℤ) (ds : List ℤ) (bytes rest : List ℕ) (n : ℕ) → block (d ∷ ds) ≡ bytes → bytes ≡ leb n ++ rest → (zigzag (least d ds) ≡ n) × (at_width (offsets (least d ds) (d ∷ ds)) ≡ rest)
unfolding block
block_parts d ds bytes rest n e f = leb_prefix_free (zigzag (least d ds)) n (at_width (offsets (least d ds) (d ∷ ds))) rest (e ∙ f)

-- the numbers behind a width are a packing at it
pub numbers_packed : (above : List ℕ) (digits : ℕ) (rest : List ℕ) → at_width above ≡ digits ∷ rest → IsPacking digits (length above) rest above
numbers_packed above digits rest e =
    let w : offset_width above ≡ digits = cc in
    let r : pack_bytes (offset_width above) above ≡ rest = cc in
    record {
      size = refl;
      below = subst (λ (t : ℕ). All (λ x. x < 2 ^ t) above) w (fits_width above);
      bytes_are = sym (ap (λ (t : ℕ). pack_bytes t above) (sym w) ∙ r);
    }

pub digits_within_64 : (d : ℤ) (ds : List ℤ) (digits : ℕ) (rest : List ℕ) → All (FitsSigned w64) (d ∷ ds) → at_width (offsets (least d ds) (d ∷ ds)) ≡ digits ∷ rest → digits ≤ 64
digits_within_64 d ds digits rest h e =
    let w : offset_width (offsets (least d ds) (d ∷ ds)) ≡ digits = cc in
    subst (λ (t : ℕ). t ≤ 64) w (width_within (offsets (least d ds) (d ∷ ds)) (offsets-lt (least d ds) (d ∷ ds) (least_of_fits d ds h) h))

-- one packing, one list
pub same_packing : (width count : ℕ) (bytes xs ys : List ℕ) → IsPacking width count bytes xs → IsPacking width count bytes ys → xs ≡ ys
same_packing width count bytes xs ys p q = same_from_packed width xs ys (p.size ∙ sym q.size) p.below q.below (sym p.bytes_are ∙ q.bytes_are)

-- ---- the list behind its first value and its block

pub list_continues : (x : ℤ) (xs : List ℤ) (base : ℤ) (above : List ℕ) → All (FitsSigned w64) xs → IsBlockOf base above (differences x xs) → Continues base x above xs
unfolding differences
list_continues x [] base above h b = record { fits = h; lowest = λ k d lt. absurd (omega arith); differ = b }
list_continues x (y ∷ ys) base above h b = record {
  fits = h;
  lowest = rw b.0 (least_bounds (int_wrap w64 (y -ℤ x)) (differences y ys));
  differ = b.1;
}

-- ---- one spelling, one list

same_block : (ds es : List ℤ) → length ds ≡ length es → block ds ≡ block es → (base : ℤ) × (above : List ℕ) × IsBlockOf base above ds × IsBlockOf base above es
unfolding block
same_block [] [] l e = (pos 0, [], refl, refl)
same_block [] (f ∷ fs) l e = absurd (omega arith)
same_block (d ∷ ds) [] l e = absurd (omega arith)
same_block (d ∷ ds) (f ∷ fs) l e =
    let p = leb_prefix_free (zigzag (least d ds)) (zigzag (least f fs)) (at_width (offsets (least d ds) (d ∷ ds))) (at_width (offsets (least f fs) (f ∷ fs))) e in
    let b : least d ds ≡ least f fs = same_from_zigzag (least d ds) (least f fs) p.0 in
    let os = offsets (least d ds) (d ∷ ds) in
    let ps = offsets (least f fs) (f ∷ fs) in
    let j = numbers_packed os (offset_width ps) (pack_bytes (offset_width ps) ps) p.1 in
    let k = numbers_packed ps (offset_width ps) (pack_bytes (offset_width ps) ps) refl in
    let n : length ps ≡ length os = omega (arith, length-map (f ∷ fs) (λ t. unsigned_abs (t -ℤ least f fs)), length-map (d ∷ ds) (λ t. unsigned_abs (t -ℤ least d ds))) in
    let s : os ≡ ps = same_packing (offset_width ps) (length os) (pack_bytes (offset_width ps) ps) os ps j (subst (λ (t : ℕ). IsPacking (offset_width ps) t (pack_bytes (offset_width ps) ps) ps) n k) in
    (least d ds, os, (refl, refl), (b, s ∙ ap (λ (t : ℤ). offsets t (f ∷ fs)) (sym b)))

pub same_from_spelling : (xs ys : List ℤ) → IsListOf (FitsSigned w64) xs → IsListOf (FitsSigned w64) ys → spelling xs ≡ spelling ys → xs ≡ ys
unfolding spelling values_content
same_from_spelling [] [] p q e = refl
same_from_spelling [] (y ∷ ys) p q e = let k = leb_prefix_free 0 (length (y ∷ ys)) [] (values_content (y ∷ ys)) e in absurd (omega (arith, k.0))
same_from_spelling (x ∷ xs) [] p q e = let k = leb_prefix_free (length (x ∷ xs)) 0 (values_content (x ∷ xs)) [] e in absurd (omega (arith, k.0))
same_from_spelling (x ∷ xs) (y ∷ ys) p q e =
    let k = leb_prefix_free (length (x ∷ xs)) (length (y ∷ ys)) (values_content (x ∷ xs)) (values_content (y ∷ ys)) e in
    let t = leb_prefix_free (zigzag x) (zigzag y) (block (differences x xs)) (block (differences y ys)) k.1 in
    let first : x ≡ y = same_from_zigzag x y t.0 in
    let len : length (differences x xs) ≡ length (differences y ys) = omega (arith, k.0, length-differences x xs, length-differences y ys) in
    let b = same_block (differences x xs) (differences y ys) len t.1 in
    let j : Continues b.0 x b.1 xs = list_continues x xs b.0 b.1 (All-tail (FitsSigned w64) x xs p.typed) b.2 in
    let m : Continues b.0 y b.1 ys = list_continues y ys b.0 b.1 (All-tail (FitsSigned w64) y ys q.typed) b.3 in
    let r : xs ≡ ys = same_values b.0 x b.1 xs ys j (subst (λ (z : ℤ). Continues b.0 z b.1 ys) (sym first) m) in
    ap (λ (z : ℤ). z ∷ xs) first ∙ ap (λ (zs : List ℤ). y ∷ zs) r
