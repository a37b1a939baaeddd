-- No field's bytes begin those of another field of its kind.
use Rattle.std.proofs.Common.{◌≡◌, ℕ, ◌<◌, ◌^◌, List, ◌++◌, refl, sym, ap, ◌∙◌, append_assoc, arith}
use Rattle.std.specs.Prelude.{ℤ, ◌/◌, ◌%◌, FitsSigned}
use Rattle.std.specs.Int.{w16, w32, w64, w128, from_be_bytes, cast_signed, cast_unsigned}
use Rattle.std.proofs.lemmas.Int.{to_z-of_z, ints}
use Rattle.std.proofs.lemmas.Nat.{from_be_bytes-to_be_bytes_2, from_be_bytes-to_be_bytes_4, from_be_bytes-to_be_bytes_8}
use Rattle.tsdb_base.specs.declared.value.DataType.{DataType}
use Rattle.tsdb_base.specs.declared.value.DataType.TheVariants.{Boolean, Int32, Int64, Text}
use Rattle.tsdb_base.specs.declared.value.Encoding.{Encoding}
use Rattle.tsdb_base.specs.declared.value.Encoding.TheVariants.{Plain, Dictionary, Rle, Ts2diff}
use Rattle.tsdb_base.specs.Fields.{number16, number32, number64, type_field, encoding_field, pair_field, IsPair}
use Rattle.tsdb_base.specs.Plain.{plain_i128}
use Rattle.tsdb_base.specs.PlainLaws.{same_front}

pub number16-prefix_free : (a b : ℕ) (x y : List ℕ) → a < 2 ^ 16 → b < 2 ^ 16 → number16 a ++ x ≡ number16 b ++ y
    → (a ≡ b) × (x ≡ y)
number16-prefix_free a b x y below_a below_b e =
    let same = same_front (number16 a) (number16 b) x y refl e in (
      sym (from_be_bytes-to_be_bytes_2 a below_a) ∙ ap (from_be_bytes w16) same.0
          ∙ from_be_bytes-to_be_bytes_2 b below_b,
      same.1,
    )

pub number32-prefix_free : (a b : ℕ) (x y : List ℕ) → a < 2 ^ 32 → b < 2 ^ 32 → number32 a ++ x ≡ number32 b ++ y
    → (a ≡ b) × (x ≡ y)
number32-prefix_free a b x y below_a below_b e =
    let same = same_front (number32 a) (number32 b) x y refl e in (
      sym (from_be_bytes-to_be_bytes_4 a below_a) ∙ ap (from_be_bytes w32) same.0
          ∙ from_be_bytes-to_be_bytes_4 b below_b,
      same.1,
    )

pub number64-prefix_free : (a b : ℕ) (x y : List ℕ) → a < 2 ^ 64 → b < 2 ^ 64 → number64 a ++ x ≡ number64 b ++ y
    → (a ≡ b) × (x ≡ y)
number64-prefix_free a b x y below_a below_b e =
    let same = same_front (number64 a) (number64 b) x y refl e in (
      sym (from_be_bytes-to_be_bytes_8 a below_a) ∙ ap (from_be_bytes w64) same.0
          ∙ from_be_bytes-to_be_bytes_8 b below_b,
      same.1,
    )

pub type_field-prefix_free : (a b : DataType) (x y : List ℕ) → Unit {0} → Unit {0}
    → type_field a ++ x ≡ type_field b ++ y → (a ≡ b) × (x ≡ y)
type_field-prefix_free Boolean Boolean x y va vb e = (refl, cc)
type_field-prefix_free Boolean Int32 x y va vb e = absurd cc
type_field-prefix_free Boolean Int64 x y va vb e = absurd cc
type_field-prefix_free Boolean Text x y va vb e = absurd cc
type_field-prefix_free Int32 Boolean x y va vb e = absurd cc
type_field-prefix_free Int32 Int32 x y va vb e = (refl, cc)
type_field-prefix_free Int32 Int64 x y va vb e = absurd cc
type_field-prefix_free Int32 Text x y va vb e = absurd cc
type_field-prefix_free Int64 Boolean x y va vb e = absurd cc
type_field-prefix_free Int64 Int32 x y va vb e = absurd cc
type_field-prefix_free Int64 Int64 x y va vb e = (refl, cc)
type_field-prefix_free Int64 Text x y va vb e = absurd cc
type_field-prefix_free Text Boolean x y va vb e = absurd cc
type_field-prefix_free Text Int32 x y va vb e = absurd cc
type_field-prefix_free Text Int64 x y va vb e = absurd cc
type_field-prefix_free Text Text x y va vb e = (refl, cc)

pub encoding_field-prefix_free : (a b : Encoding) (x y : List ℕ) → Unit {0} → Unit {0}
    → encoding_field a ++ x ≡ encoding_field b ++ y → (a ≡ b) × (x ≡ y)
encoding_field-prefix_free Plain Plain x y va vb e = (refl, cc)
encoding_field-prefix_free Plain Dictionary x y va vb e = absurd cc
encoding_field-prefix_free Plain Rle x y va vb e = absurd cc
encoding_field-prefix_free Plain Ts2diff x y va vb e = absurd cc
encoding_field-prefix_free Dictionary Plain x y va vb e = absurd cc
encoding_field-prefix_free Dictionary Dictionary x y va vb e = (refl, cc)
encoding_field-prefix_free Dictionary Rle x y va vb e = absurd cc
encoding_field-prefix_free Dictionary Ts2diff x y va vb e = absurd cc
encoding_field-prefix_free Rle Plain x y va vb e = absurd cc
encoding_field-prefix_free Rle Dictionary x y va vb e = absurd cc
encoding_field-prefix_free Rle Rle x y va vb e = (refl, cc)
encoding_field-prefix_free Rle Ts2diff x y va vb e = absurd cc
encoding_field-prefix_free Ts2diff Plain x y va vb e = absurd cc
encoding_field-prefix_free Ts2diff Dictionary x y va vb e = absurd cc
encoding_field-prefix_free Ts2diff Rle x y va vb e = absurd cc
encoding_field-prefix_free Ts2diff Ts2diff x y va vb e = (refl, cc)

pub pair_field-prefix_free : {A B : Type 0} (first : A → List ℕ) (second : B → List ℕ) (IsFirst : A → Type 0)
    (IsSecond : B → Type 0)
    → ((a b : A) (x y : List ℕ) → IsFirst a → IsFirst b → first a ++ x ≡ first b ++ y → (a ≡ b) × (x ≡ y))
    → ((a b : B) (x y : List ℕ) → IsSecond a → IsSecond b → second a ++ x ≡ second b ++ y → (a ≡ b) × (x ≡ y))
    → (a b : A × B) (x y : List ℕ) → IsPair IsFirst IsSecond a → IsPair IsFirst IsSecond b
    → pair_field first second a ++ x ≡ pair_field first second b ++ y → (a ≡ b) × (x ≡ y)
pair_field-prefix_free first second IsFirst IsSecond free_first free_second (a, c) (b, d) x y is_a is_b e =
    let parted : first a ++ (second c ++ x) ≡ first b ++ (second d ++ y) =
    sym (append_assoc (first a) (second c) x) ∙ e ∙ append_assoc (first b) (second d) y in
    let heads = free_first a b (second c ++ x) (second d ++ y) is_a.0 is_b.0 parted in
    let tails = free_second c d x y is_a.1 is_b.1 heads.1 in
    let same_first : a ≡ b = heads.0 in
    let same_second : c ≡ d = tails.0 in
    (cc, tails.1)

pub plain_i128-prefix_free : (a b : ℤ) (x y : List ℕ) → FitsSigned w128 a → FitsSigned w128 b
    → plain_i128 a ++ x ≡ plain_i128 b ++ y → (a ≡ b) × (x ≡ y)
plain_i128-prefix_free a b x y va vb e =
    let below_a : cast_unsigned w128 a < 2 ^ 128 = omega (arith, ints) in
    let below_b : cast_unsigned w128 b < 2 ^ 128 = omega (arith, ints) in
    let small : ℕ → Type 0 = λ n. n < 2 ^ 64 in
    let same = pair_field-prefix_free number64 number64 small small number64-prefix_free number64-prefix_free
    (cast_unsigned w128 a / 2 ^ 64, cast_unsigned w128 a % 2 ^ 64)
    (cast_unsigned w128 b / 2 ^ 64, cast_unsigned w128 b % 2 ^ 64) x y
    (omega (arith, below_a), omega arith) (omega (arith, below_b), omega arith) e in
    let high : cast_unsigned w128 a / 2 ^ 64 ≡ cast_unsigned w128 b / 2 ^ 64 = ap (λ (p : ℕ × ℕ). p.0) same.0 in
    let low : cast_unsigned w128 a % 2 ^ 64 ≡ cast_unsigned w128 b % 2 ^ 64 = ap (λ (p : ℕ × ℕ). p.1) same.0 in
    let number : cast_unsigned w128 a ≡ cast_unsigned w128 b = omega (arith, high, low) in
    (sym (to_z-of_z w128 a va) ∙ ap (cast_signed w128) number ∙ to_z-of_z w128 b vb, same.1)
