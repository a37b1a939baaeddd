-- No value's bytes begin those of another value of its type.
use Rattle.std.proofs.Common.{◌≡◌, ℕ, ◌<◌, ◌^◌, Bool, true, false, List, [], ◌∷◌, ◌++◌, length, refl, sym, ap, ◌∙◌}
use Rattle.std.proofs.Common.{append_assoc, arith}
use Rattle.std.specs.Prelude.{ℤ, FitsSigned}
use Rattle.std.specs.Int.{w16, w32, w64, to_be_bytes, from_be_bytes, cast_unsigned, cast_signed}
use Rattle.std.proofs.lemmas.Nat.{from_be_bytes-to_be_bytes_2, from_be_bytes-to_be_bytes_4, from_be_bytes-to_be_bytes_8}
use Rattle.std.proofs.lemmas.Int.{to_z-of_z, ints}
use Rattle.tsdb_base.specs.Plain.{plain_bool, plain_i32, plain_i64, plain_text, IsText}

-- two lists that go on from fronts of one length have the same front and go on alike
pub same_front : (a b x y : List ℕ) → length a ≡ length b → a ++ x ≡ b ++ y → (a ≡ b) × (x ≡ y)
same_front [] [] x y len e = (refl, e)
same_front [] (v ∷ vs) x y len e = absurd (omega arith)
same_front (u ∷ us) [] x y len e = absurd (omega arith)
same_front (u ∷ us) (v ∷ vs) x y len e =
    let others : us ++ x ≡ vs ++ y = cc in
    let shorter : length us ≡ length vs = omega arith in
    let same = same_front us vs x y shorter others in
    let first : u ≡ v = cc in
    let rest : us ≡ vs = same.0 in
    (cc, same.1)

pub plain_bool-prefix_free : (a b : Bool) (x y : List ℕ) → Unit {0} → Unit {0} → plain_bool a ++ x ≡ plain_bool b ++ y
    → (a ≡ b) × (x ≡ y)
plain_bool-prefix_free false false x y va vb e = (refl, cc)
plain_bool-prefix_free false true x y va vb e = absurd cc
plain_bool-prefix_free true false x y va vb e = absurd cc
plain_bool-prefix_free true true x y va vb e = (refl, cc)

pub plain_i32-prefix_free : (a b : ℤ) (x y : List ℕ) → FitsSigned w32 a → FitsSigned w32 b
    → plain_i32 a ++ x ≡ plain_i32 b ++ y → (a ≡ b) × (x ≡ y)
plain_i32-prefix_free a b x y va vb e =
    let same = same_front (plain_i32 a) (plain_i32 b) x y refl e in
    let below_a : cast_unsigned w32 a < 2 ^ 32 = omega (arith, ints) in
    let below_b : cast_unsigned w32 b < 2 ^ 32 = omega (arith, ints) in
    let number : cast_unsigned w32 a ≡ cast_unsigned w32 b =
    sym (from_be_bytes-to_be_bytes_4 (cast_unsigned w32 a) below_a) ∙ ap (from_be_bytes w32) same.0
    ∙ from_be_bytes-to_be_bytes_4 (cast_unsigned w32 b) below_b in
    (sym (to_z-of_z w32 a va) ∙ ap (cast_signed w32) number ∙ to_z-of_z w32 b vb, same.1)

pub plain_i64-prefix_free : (a b : ℤ) (x y : List ℕ) → FitsSigned w64 a → FitsSigned w64 b
    → plain_i64 a ++ x ≡ plain_i64 b ++ y → (a ≡ b) × (x ≡ y)
plain_i64-prefix_free a b x y va vb e =
    let same = same_front (plain_i64 a) (plain_i64 b) x y refl e in
    let below_a : cast_unsigned w64 a < 2 ^ 64 = omega (arith, ints) in
    let below_b : cast_unsigned w64 b < 2 ^ 64 = omega (arith, ints) in
    let number : cast_unsigned w64 a ≡ cast_unsigned w64 b =
    sym (from_be_bytes-to_be_bytes_8 (cast_unsigned w64 a) below_a) ∙ ap (from_be_bytes w64) same.0
    ∙ from_be_bytes-to_be_bytes_8 (cast_unsigned w64 b) below_b in
    (sym (to_z-of_z w64 a va) ∙ ap (cast_signed w64) number ∙ to_z-of_z w64 b vb, same.1)

pub plain_text-prefix_free : (a b x y : List ℕ) → IsText a → IsText b → plain_text a ++ x ≡ plain_text b ++ y
    → (a ≡ b) × (x ≡ y)
plain_text-prefix_free a b x y va vb e =
    let parted : to_be_bytes w16 (length a) ++ (a ++ x) ≡ to_be_bytes w16 (length b) ++ (b ++ y) =
    sym (append_assoc (to_be_bytes w16 (length a)) a x) ∙ e ∙ append_assoc (to_be_bytes w16 (length b)) b y in
    let lengths = same_front (to_be_bytes w16 (length a)) (to_be_bytes w16 (length b)) (a ++ x) (b ++ y) refl parted in
    let below_a : length a < 2 ^ 16 = omega arith in
    let below_b : length b < 2 ^ 16 = omega arith in
    let len : length a ≡ length b = sym (from_be_bytes-to_be_bytes_2 (length a) below_a)
    ∙ ap (from_be_bytes w16) lengths.0 ∙ from_be_bytes-to_be_bytes_2 (length b) below_b in
    same_front a b x y len lengths.1
