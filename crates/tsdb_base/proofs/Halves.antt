-- A number of sixteen bytes and its halves.
use Rattle.std.proofs.Common.{◌≡◌, ℕ, ◌+◌, ◌*◌, ◌<◌, ◌^◌, List, ◌++◌, sym, ap, ◌∙◌, arith}
use Rattle.std.specs.Prelude.{ℤ, ◌/◌, ◌%◌, FitsSigned}
use Rattle.std.specs.Int.{w128, cast_signed, cast_unsigned}
use Rattle.std.proofs.lemmas.Int.{of_z-to_z, ints}
use Rattle.tsdb_base.specs.Fields.{number64, pair_field, IsPair}
use Rattle.tsdb_base.specs.Plain.{plain_i128, BeginsWithNone}

abbrev IsHalf : ℕ → Type 0
IsHalf n = n < 2 ^ 64

written : (u high low : ℕ) → u ≡ high * 2 ^ 64 + low → low < 2 ^ 64 → number64 (u / 2 ^ 64) ++ number64 (u % 2 ^ 64) ≡ number64 high ++ number64 low
written u high low is small =
    let first : u / 2 ^ 64 ≡ high = omega (arith, is, small) in
    let second : u % 2 ^ 64 ≡ low = omega (arith, is, small) in
    ap (λ n. number64 n ++ number64 (u % 2 ^ 64)) first ∙ ap (λ n. number64 high ++ number64 n) second

-- the bytes begin with the number of both halves
pub taken : (number : ℤ) (high low : ℕ) (bytes rest : List ℕ) → number ≡ cast_signed w128 (high * 2 ^ 64 + low) → IsHalf high → IsHalf low
    → bytes ≡ (number64 high ++ number64 low) ++ rest → bytes ≡ plain_i128 (cast_signed w128 (cast_unsigned w128 number)) ++ rest
taken number high low bytes rest is below small found =
    let fits : high * 2 ^ 64 + low < 2 ^ 128 = omega (arith, below, small) in
    let back : cast_unsigned w128 number ≡ high * 2 ^ 64 + low = ap (cast_unsigned w128) is ∙ of_z-to_z w128 (high * 2 ^ 64 + low) fits in
    let again : cast_unsigned w128 (cast_signed w128 (cast_unsigned w128 number)) ≡ high * 2 ^ 64 + low =
    ap (λ u. cast_unsigned w128 (cast_signed w128 u)) back ∙ of_z-to_z w128 (high * 2 ^ 64 + low) fits in
    found ∙ ap (λ (l : List ℕ). l ++ rest) (sym (written (cast_unsigned w128 (cast_signed w128 (cast_unsigned w128 number))) high low again small))

-- where they begin with no halves, they begin with no number
pub none_taken : (bytes : List ℕ) → BeginsWithNone (pair_field number64 number64) (IsPair IsHalf IsHalf) bytes → BeginsWithNone plain_i128 (FitsSigned w128) bytes
none_taken bytes none = λ number rest fits e.
    let below : cast_unsigned w128 number < 2 ^ 128 = omega (arith, ints) in
    none (cast_unsigned w128 number / 2 ^ 64, cast_unsigned w128 number % 2 ^ 64) rest (omega (arith, below), omega arith) e
