use Rattle.std.proofs.Common.{rules}
use Rattle.std.proofs.lemmas.Result.{err_from_is_err_and}
use Rattle.tsdb_fields.proofs.Parts.{no_sum}
use Rattle.tsdb_fields.proofs.statistics.read_sum.Goals as goal

pub returns-in_err-sum : goal.returns-in_err-sum
returns-in_err-sum c = record {
  exact =
      let p = err_from_is_err_and c.from_residual.result c.from_residual.ensures.1 in
      let lacks = no_sum c.args.there c.args.rest c.in_err-sum.field-0.0 (search rules) c.in_err-sum.ensures.exact in
      rw (p.1, p.2) lacks;
}
