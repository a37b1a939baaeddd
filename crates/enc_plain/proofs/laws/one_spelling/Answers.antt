use Rattle.std.specs.Prelude.{FitsSigned}
use Rattle.std.specs.Int.{w32, w64}
use Rattle.tsdb_base.specs.Plain.{plain_bool, plain_i32, plain_i64, plain_text, IsText}
use Rattle.tsdb_base.specs.PlainLaws.{plain_bool-prefix_free, plain_i32-prefix_free, plain_i64-prefix_free, plain_text-prefix_free}
use Rattle.enc_plain.proofs.PlainLaws.{same_from_spelling}
use Rattle.enc_plain.proofs.laws.one_spelling.Goals as goal

pub returns-clause-booleans : goal.returns-clause-booleans
returns-clause-booleans c = same_from_spelling plain_bool (λ _. Unit {0}) plain_bool-prefix_free

pub returns-clause-int32 : goal.returns-clause-int32
returns-clause-int32 c = same_from_spelling plain_i32 (FitsSigned w32) plain_i32-prefix_free

pub returns-clause-int64 : goal.returns-clause-int64
returns-clause-int64 c = same_from_spelling plain_i64 (FitsSigned w64) plain_i64-prefix_free

pub returns-clause-texts : goal.returns-clause-texts
returns-clause-texts c = same_from_spelling plain_text IsText plain_text-prefix_free
