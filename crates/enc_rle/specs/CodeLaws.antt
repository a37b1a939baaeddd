-- The laws of the codes.
use Rattle.std.proofs.Common.{◌≡◌, ℕ, ◌^◌, ◌<◌, Bool, true, false, ℤ, pos, negsuc, refl, sym, ap, ◌∙◌, arith}
use Rattle.std.proofs.Common.{FitsSigned}
use Rattle.std.specs.Int.{w32, w64}
use Rattle.tsdb_bits.specs.Zigzag.{zigzag, unzigzag}
use Rattle.tsdb_bits.proofs.ZigzagLaws.{unzigzag-zigzag}
use Rattle.enc_rle.specs.Spelling.{bool_code}

pub bool_code-one_to_one : (a b : Bool) → bool_code a ≡ bool_code b → a ≡ b
bool_code-one_to_one true true e = refl
bool_code-one_to_one true false e = absurd (omega arith)
bool_code-one_to_one false true e = absurd (omega arith)
bool_code-one_to_one false false e = refl

pub bool_code-lt : (value : Bool) → Unit {0} → bool_code value < 2 ^ 64
bool_code-lt true any = omega arith
bool_code-lt false any = omega arith

pub same_from_zigzag : (a b : ℤ) → zigzag a ≡ zigzag b → a ≡ b
same_from_zigzag a b e = sym (unzigzag-zigzag a) ∙ ap unzigzag e ∙ unzigzag-zigzag b

pub zigzag_i32-lt : (z : ℤ) → FitsSigned w32 z → zigzag z < 2 ^ 64
zigzag_i32-lt (pos n) f = let h : n < 2 ^ 31 = f.sfits in omega arith
zigzag_i32-lt (negsuc n) f = let h : n < 2 ^ 31 = f.sfits in omega arith

pub zigzag_i64-lt : (z : ℤ) → FitsSigned w64 z → zigzag z < 2 ^ 64
zigzag_i64-lt (pos n) f = let h : n < 2 ^ 63 = f.sfits in omega arith
zigzag_i64-lt (negsuc n) f = let h : n < 2 ^ 63 = f.sfits in omega arith
