-- The body of a page, taken apart.
use Rattle.std.proofs.Common.{◌≡◌, ℕ, ◌+◌, ◌-◌, ◌<◌, ◌^◌, true, List, [], ◌∷◌, ◌++◌, length, map, refl, sym, ap, ◌∙◌, subst, append_assoc, arith}
use Rattle.std.specs.Prelude.{◌≤◌, ℤ, All, FitsSigned}
use Rattle.std.specs.Int.{w64}
use Rattle.std.proofs.lemmas.List.{length-append, length-map}
use Rattle.std.proofs.lemmas.List.Elements.{All-cons, All-head, All-map, All-nil, All-tail}
use Rattle.tsdb_base.specs.declared.fault.DecodeFault.{DecodeFault}
use Rattle.tsdb_base.specs.declared.fault.DecodeFault.TheVariants as decode
use Rattle.tsdb_base.specs.declared.point.Point.{Point}
use Rattle.tsdb_base.specs.declared.value.DataType.{DataType}
use Rattle.tsdb_base.specs.declared.value.Encoding.{Encoding}
use Rattle.tsdb_base.specs.declared.value.Value.{Value}
use Rattle.tsdb_base.specs.Fields.{number32}
use Rattle.tsdb_base.specs.FieldLaws.{number32-prefix_free}
use Rattle.tsdb_base.specs.PlainLaws.{same_front}
use Rattle.tsdb_base.specs.Limits.{max_values}
use Rattle.tsdb_base.specs.Values.{is_suitable, IsValueOf}
use Rattle.tsdb_bits.specs.Lists.{IsListOf, IsSpelling, SpellNone}
use Rattle.enc_ts2diff.specs.Spelling as ts2diff
use Rattle.enc_ts2diff.proofs.Canonical as sizes
use Rattle.enc_ts2diff.proofs.Parts as times_laws
use Rattle.tsdb_pages.specs.ListSpelling.{spelling}
use Rattle.tsdb_pages.proofs.SuitablePairs.{laws_of}
use Rattle.tsdb_pages.specs.declared.fault.PageFault.{PageFault}
use Rattle.tsdb_pages.specs.declared.fault.PageFault.TheVariants as page
use Rattle.tsdb_base.specs.Points.{IsRising}
use Rattle.tsdb_pages.specs.Pages.{ArePoints, IsInRange, body, times_field, times_of, values_of}
use Rattle.tsdb_pages.specs.Reading.{IsBody, IsNoBody, as_page_fault}

All-of_map : {X Y : Type 0} (P : Y → Type 0) (f : X → Y) (xs : List X) → All P (map f xs) → All (λ x. P (f x)) xs
All-of_map P f [] h = All-nil (λ x. P (f x))
All-of_map P f (x ∷ xs) h = All-cons (λ x. P (f x)) x xs (All-head P (f x) (map f xs) h) (All-of_map P f xs (All-tail P (f x) (map f xs) h))

-- ---- times and values of a page

pub are_times : (data_type : DataType) (points : List Point) → ArePoints data_type points → All IsInRange points → IsListOf (FitsSigned w64) (times_of points)
are_times data_type points are ranges = record {
  few = subst (λ n. n ≤ max_values) (sym (length-map points (λ (p : Point). p.time))) are.few;
  typed = All-map (FitsSigned w64) (λ (p : Point). p.time) points (λ k d lt. (ranges k d lt).0);
}

pub are_values : (data_type : DataType) (points : List Point) → ArePoints data_type points → All IsInRange points → IsListOf (IsValueOf data_type) (values_of points)
are_values data_type points are ranges = record {
  few = subst (λ n. n ≤ max_values) (sym (length-map points (λ (p : Point). p.value))) are.few;
  typed = All-map (IsValueOf data_type) (λ (p : Point). p.value) points (λ k d lt. record { typed = are.typed k d lt; fits = (ranges k d lt).1 });
}

few_times : (data_type : DataType) (points : List Point) → ArePoints data_type points → All IsInRange points → length (times_field points) < 2 ^ 30
few_times data_type points are ranges = sizes.length-spelling (times_of points) (are_times data_type points are ranges)

pub short_times : (data_type : DataType) (points : List Point) → ArePoints data_type points → All IsInRange points → length (times_field points) < 2 ^ 32
short_times data_type points are ranges = let few = few_times data_type points are ranges in omega (arith, few)

few_values : (data_type : DataType) (encoding : Encoding) → is_suitable data_type encoding ≡ true → (points : List Point) → ArePoints data_type points → All IsInRange points → length (spelling encoding (values_of points)) < 2 ^ 30
few_values data_type encoding suits points are ranges = (laws_of data_type encoding suits).short (values_of points) (are_values data_type points are ranges)

pub short_values : (data_type : DataType) (encoding : Encoding) → is_suitable data_type encoding ≡ true → (points : List Point) → ArePoints data_type points → All IsInRange points → length (spelling encoding (values_of points)) < 2 ^ 32
short_values data_type encoding suits points are ranges = let few = few_values data_type encoding suits points are ranges in omega (arith, few)

pub length_body : (encoding : Encoding) (points : List Point) → length (body encoding points) ≡ 4 + length (times_field points) + length (spelling encoding (values_of points))
length_body encoding points =
    length-append (number32 (length (times_field points)) ++ times_field points) (spelling encoding (values_of points))
    ∙ ap (λ (n : ℕ). n + length (spelling encoding (values_of points))) (length-append (number32 (length (times_field points))) (times_field points))

pub body_is_short : (data_type : DataType) (encoding : Encoding) → is_suitable data_type encoding ≡ true → (points : List Point) → ArePoints data_type points → All IsInRange points → length (body encoding points) < 2 ^ 32
body_is_short data_type encoding suits points are ranges =
    let whole = length_body encoding points in
    let times = few_times data_type points are ranges in
    let values = few_values data_type encoding suits points are ranges in
    omega (arith, whole, times, values)

-- bytes that begin with the length of their first part have only one such part
pub parts_same : (a b x y : List ℕ) → length a < 2 ^ 32 → length b < 2 ^ 32 → number32 (length a) ++ a ++ x ≡ number32 (length b) ++ b ++ y → (a ≡ b) × (x ≡ y)
parts_same a b x y short_a short_b e =
    let parted : number32 (length a) ++ (a ++ x) ≡ number32 (length b) ++ (b ++ y) = sym (append_assoc (number32 (length a)) a x) ∙ e ∙ append_assoc (number32 (length b)) b y in
    let lengths = number32-prefix_free (length a) (length b) (a ++ x) (b ++ y) short_a short_b parted in
    same_front a b x y lengths.0 lengths.1

-- the parts of bytes that are the body of some points
pub parts_of : (data_type : DataType) (encoding : Encoding) (bytes times values : List ℕ) (points : List Point) → length times < 2 ^ 32 → bytes ≡ number32 (length times) ++ times ++ values → IsBody data_type encoding bytes points
    → (times ≡ times_field points) × (values ≡ spelling encoding (values_of points))
parts_of data_type encoding bytes times values points short found is =
    parts_same times (times_field points) values (spelling encoding (values_of points)) short (short_times data_type points is.points_are is.ranges) (sym found ∙ is.bytes_are)

pub no_times : (data_type : DataType) (encoding : Encoding) (bytes times values : List ℕ) → length times < 2 ^ 32 → bytes ≡ number32 (length times) ++ times ++ values → SpellNone ts2diff.spelling (FitsSigned w64) times → IsNoBody data_type encoding bytes
no_times data_type encoding bytes times values short found none = λ points is.
    none (times_of points) (record { list = are_times data_type points is.points_are is.ranges; bytes_are = (parts_of data_type encoding bytes times values points short found is).0 })

pub no_values : (data_type : DataType) (encoding : Encoding) (bytes times values : List ℕ) → length times < 2 ^ 32 → bytes ≡ number32 (length times) ++ times ++ values → SpellNone (spelling encoding) (IsValueOf data_type) values → IsNoBody data_type encoding bytes
no_values data_type encoding bytes times values short found none = λ points is.
    none (values_of points) (record { list = are_values data_type points is.points_are is.ranges; bytes_are = (parts_of data_type encoding bytes times values points short found is).1 })

-- the times and values that were found in bytes are those of each page with this body
pub found_same : (data_type : DataType) (encoding : Encoding) (suits : is_suitable data_type encoding ≡ true) (bytes times values : List ℕ) (ts : List ℤ) (vs : List Value) → length times < 2 ^ 32 → bytes ≡ number32 (length times) ++ times ++ values
    → IsSpelling ts2diff.spelling (FitsSigned w64) times ts → IsSpelling (spelling encoding) (IsValueOf data_type) values vs
    → (points : List Point) → IsBody data_type encoding bytes points → (times_of points ≡ ts) × (values_of points ≡ vs)
found_same data_type encoding suits bytes times values ts vs short found in_times in_values points is =
    let parts = parts_of data_type encoding bytes times values points short found is in (
      times_laws.same_from_spelling (times_of points) ts (are_times data_type points is.points_are is.ranges) in_times.list (sym parts.0 ∙ in_times.bytes_are),
      (laws_of data_type encoding suits).one (values_of points) vs (are_values data_type points is.points_are is.ranges) in_values.list (sym parts.1 ∙ in_values.bytes_are),
    )

-- points with the same times and values are the same
pub points_same : (xs ys : List Point) → times_of xs ≡ times_of ys → values_of xs ≡ values_of ys → xs ≡ ys
points_same [] [] times values = refl
points_same [] (y ∷ ys) times values = absurd cc
points_same (x ∷ xs) [] times values = absurd cc
points_same (x ∷ xs) (y ∷ ys) times values =
    let made : ℤ → Value → Point = λ t v. record { time = t; value = v } in
    let t : x.time ≡ y.time = cc in
    let v : x.value ≡ y.value = cc in
    let first : made x.time x.value ≡ made y.time y.value = cc in
    let here : x ≡ y = first in
    let ts : times_of xs ≡ times_of ys = cc in
    let vs : values_of xs ≡ values_of ys = cc in
    let rest : xs ≡ ys = points_same xs ys ts vs in
    cc

-- ---- the exits of reading

pub bad_there : (fault : DecodeFault) (answer : PageFault) → answer ≡ as_page_fault fault → answer ≡ page.Bad → fault ≡ decode.Bad
bad_there decode.Bad answer gives bad = refl
bad_there decode.Memory answer gives bad = let no : page.Memory ≡ page.Bad = sym gives ∙ bad in absurd cc

-- no page, or pages of other lengths
pub no_pairing : (data_type : DataType) (encoding : Encoding) (suits : is_suitable data_type encoding ≡ true) (bytes times values : List ℕ) (ts : List ℤ) (vs : List Value) → length times < 2 ^ 32 → bytes ≡ number32 (length times) ++ times ++ values
    → IsSpelling ts2diff.spelling (FitsSigned w64) times ts → IsSpelling (spelling encoding) (IsValueOf data_type) values vs → (0 < length ts → length ts ≡ length vs → ⊥) → IsNoBody data_type encoding bytes
no_pairing data_type encoding suits bytes times values ts vs short found in_times in_values other = λ points is.
    let same = found_same data_type encoding suits bytes times values ts vs short found in_times in_values points is in
    let n : length points ≡ length ts = sym (length-map points (λ (p : Point). p.time)) ∙ ap length same.0 in
    let m : length points ≡ length vs = sym (length-map points (λ (p : Point). p.value)) ∙ ap length same.1 in
    other (subst (λ k. 0 < k) n is.points_are.some) (sym n ∙ m)

-- times that do not rise
pub no_rise : (data_type : DataType) (encoding : Encoding) (suits : is_suitable data_type encoding ≡ true) (bytes times values : List ℕ) (ts : List ℤ) (vs : List Value) → length times < 2 ^ 32 → bytes ≡ number32 (length times) ++ times ++ values
    → IsSpelling ts2diff.spelling (FitsSigned w64) times ts → IsSpelling (spelling encoding) (IsValueOf data_type) values vs
    → (pairs : List Point) → times_of pairs ≡ ts → values_of pairs ≡ vs → (IsRising pairs → ⊥) → IsNoBody data_type encoding bytes
no_rise data_type encoding suits bytes times values ts vs short found in_times in_values pairs of_times of_values none = λ points is.
    let same = found_same data_type encoding suits bytes times values ts vs short found in_times in_values points is in
    none (subst IsRising (points_same points pairs (same.0 ∙ sym of_times) (same.1 ∙ sym of_values)) is.points_are.rising)

-- the points of the times and values that were found are a page with this body
pub is_body : (data_type : DataType) (encoding : Encoding) → is_suitable data_type encoding ≡ true → (bytes times values : List ℕ) (ts : List ℤ) (vs : List Value) → bytes ≡ number32 (length times) ++ times ++ values
    → IsSpelling ts2diff.spelling (FitsSigned w64) times ts → IsSpelling (spelling encoding) (IsValueOf data_type) values vs
    → (pairs : List Point) → times_of pairs ≡ ts → values_of pairs ≡ vs → 0 < length ts → IsRising pairs → IsBody data_type encoding bytes pairs
is_body data_type encoding suits bytes times values ts vs found in_times in_values pairs of_times of_values some rising =
    let n : length pairs ≡ length ts = sym (length-map pairs (λ (p : Point). p.time)) ∙ ap length of_times in
    let fit : All (FitsSigned w64) (times_of pairs) = subst (λ l. All (FitsSigned w64) l) (sym of_times) in_times.list.typed in
    let typed : All (IsValueOf data_type) (values_of pairs) = subst (λ l. All (IsValueOf data_type) l) (sym of_values) in_values.list.typed in
    record {
      suits = suits;
      points_are = record {
        some = subst (λ k. 0 < k) (sym n) some;
        few = subst (λ k. k ≤ max_values) (sym n) in_times.list.few;
        typed = λ k d lt. (All-of_map (IsValueOf data_type) (λ (p : Point). p.value) pairs typed k d lt).typed;
        rising = rising;
      };
      ranges = λ k d lt. (All-of_map (FitsSigned w64) (λ (p : Point). p.time) pairs fit k d lt, (All-of_map (IsValueOf data_type) (λ (p : Point). p.value) pairs typed k d lt).fits);
      bytes_are =
          let times_is : times ≡ times_field pairs = in_times.bytes_are ∙ ap ts2diff.spelling (sym of_times) in
          let values_is : values ≡ spelling encoding (values_of pairs) = in_values.bytes_are ∙ ap (spelling encoding) (sym of_values) in
          found ∙ ap (λ (l : List ℕ). number32 (length l) ++ l ++ values) times_is ∙ ap (λ (l : List ℕ). number32 (length (times_field pairs)) ++ times_field pairs ++ l) values_is;
    }

pub one_body : (data_type : DataType) (encoding : Encoding) (suits : is_suitable data_type encoding ≡ true) (bytes : List ℕ) (xs ys : List Point) → IsBody data_type encoding bytes xs → IsBody data_type encoding bytes ys → xs ≡ ys
one_body data_type encoding suits bytes xs ys in_xs in_ys =
    let same = found_same data_type encoding suits bytes (times_field ys) (spelling encoding (values_of ys)) (times_of ys) (values_of ys) (short_times data_type ys in_ys.points_are in_ys.ranges) in_ys.bytes_are
    (record { list = are_times data_type ys in_ys.points_are in_ys.ranges; bytes_are = refl }) (record { list = are_values data_type ys in_ys.points_are in_ys.ranges; bytes_are = refl }) xs in_xs in
    points_same xs ys same.0 same.1

-- ---- writing

-- the length of the times has four bytes
pub length_fits : (n : ℕ) (times : List ℤ) (points : List Point) (front all : List ℕ) → length points ≤ max_values → times ≡ times_of points → All (FitsSigned w64) times → all ≡ front ++ ts2diff.spelling times
    → length front ≡ 4 → n ≡ length all → n - 4 < 2 ^ 32
length_fits n times points front all few same fit is four len =
    let short : length (ts2diff.spelling times) < 2 ^ 30 = sizes.length-spelling times (record { few = subst (λ k. k ≤ max_values) (sym (ap length same ∙ length-map points (λ (p : Point). p.time))) few; typed = fit }) in
    let whole : length all ≡ length front + length (ts2diff.spelling times) = ap length is ∙ length-append front (ts2diff.spelling times) in
    omega (arith, short, whole, four, len)
