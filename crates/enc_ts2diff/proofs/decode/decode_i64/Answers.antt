use Rattle.std.proofs.Common.{sym, subst, FitsSigned}
use Rattle.std.specs.Int.{w64}
use Rattle.std.proofs.lemmas.Result.{IfOk-weaker}
use Rattle.tsdb_bits.specs.Lists.{IsSpelling, IsOnly}
use Rattle.tsdb_bits.proofs.ListLaws.{only_found}
use Rattle.enc_ts2diff.specs.Spelling.{spelling}
use Rattle.enc_ts2diff.specs.Steps.{Finds}
use Rattle.enc_ts2diff.proofs.Parts.{same_from_spelling}
use Rattle.enc_ts2diff.proofs.decode.decode_i64.Goals as goal

pub returns-clause-only : goal.returns-clause-only
returns-clause-only c =
    IfOk-weaker c.list_in.result (λ values. IsSpelling spelling (FitsSigned w64) c.args.bytes.now values.items) (λ values. IsOnly spelling (FitsSigned w64) c.args.bytes.now values.items)
    (λ values is. only_found spelling (FitsSigned w64) same_from_spelling c.args.bytes.now values.items is) c.list_in.ensures.found

pub returns-clause-bad : goal.returns-clause-bad
returns-clause-bad c = λ is_bad values is.
    subst (λ r. Finds (λ found. found.items) r values) is_bad (c.list_in.ensures.finds values is.list (sym is.bytes_are))
