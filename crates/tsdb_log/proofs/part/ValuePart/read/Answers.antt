use Rattle.std.proofs.lemmas.Result.{err_from_is_err_and}
use Rattle.tsdb_log.proofs.Exits.{typed_type, typed_value, takes_typed}
use Rattle.tsdb_log.proofs.part.ValuePart.read.Goals as goal

pub returns-in_err-data_type : goal.returns-in_err-data_type
returns-in_err-data_type c = record {
  exact =
      let p = err_from_is_err_and c.from_residual.result c.from_residual.ensures.1 in
      rw (p.1, p.2) (typed_type c.args.rest c.in_err-data_type.field-0.0 c.in_err-data_type.ensures.exact);
}

pub returns-in_err-value : goal.returns-in_err-value
returns-in_err-value c = record {
  exact =
      let p = err_from_is_err_and c.from_residual-in_err-value.result c.from_residual-in_err-value.ensures.1 in
      rw (p.1, p.2) (typed_value c.in_ok-data_type.data_type c.args.rest c.in_ok-data_type.behind c.in_err-value.field-0.0
      c.in_ok-data_type.ensures.exact.0 c.in_err-value.ensures.exact);
}

pub returns : goal.returns
returns c = record {
  exact = takes_typed c.in_ok-data_type.data_type c.in_ok-value.value c.args.rest c.in_ok-data_type.behind c.in_ok-value.behind
      c.in_ok-data_type.ensures.exact.0 c.in_ok-value.ensures.exact.0 c.in_ok-value.ensures.exact.1;
}
