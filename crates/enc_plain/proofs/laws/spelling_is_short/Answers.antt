use Rattle.std.proofs.Common.{arith, FitsSigned, true, false, Bool, ◌≤◌, length}
use Rattle.std.specs.Int.{w32, w64}
use Rattle.tsdb_base.specs.Plain.{plain_bool, plain_i32, plain_i64, plain_text, IsText}
use Rattle.enc_plain.proofs.PlainLaws.{length-spelling}
use Rattle.enc_plain.proofs.laws.spelling_is_short.Goals as goal

one_byte : (b : Bool) → length (plain_bool b) ≤ 1
one_byte true = omega arith
one_byte false = omega arith

pub returns-clause-booleans : goal.returns-clause-booleans
returns-clause-booleans c = λ values is. length-spelling plain_bool (λ _. Unit {0}) 1 (λ b any. one_byte b) values (omega arith) is

pub returns-clause-int32 : goal.returns-clause-int32
returns-clause-int32 c = λ values is. length-spelling plain_i32 (FitsSigned w32) 4 (λ z any. omega arith) values (omega arith) is

pub returns-clause-int64 : goal.returns-clause-int64
returns-clause-int64 c = λ values is. length-spelling plain_i64 (FitsSigned w64) 8 (λ z any. omega arith) values (omega arith) is

pub returns-clause-texts : goal.returns-clause-texts
returns-clause-texts c = λ values is. length-spelling plain_text IsText 65537 (λ t short. omega (arith, short)) values (omega arith) is
