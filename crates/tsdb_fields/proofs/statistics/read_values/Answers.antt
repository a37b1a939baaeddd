use Rattle.std.proofs.lemmas.Result.{err_from_is_err_and}
use Rattle.tsdb_base.specs.Fields.{value_field}
use Rattle.tsdb_base.specs.Values.{IsValueOf}
use Rattle.tsdb_fields.proofs.Laws.{value_field-prefix_free}
use Rattle.tsdb_fields.proofs.Parts.{no_second, part_fault, parts_of, ends, AreEnds}
use Rattle.tsdb_fields.proofs.statistics.read_values.Goals as goal

pub returns-in_err-last : goal.returns-in_err-last
returns-in_err-last c = record {
  parts =
      let p = err_from_is_err_and c.from_residual-in_err-last.result c.from_residual-in_err-last.ensures.1 in
      let t = c.args.data_type in
      let lacks = part_fault value_field (IsValueOf t) ends (AreEnds t) c.args.rest c.in_ok-first.behind (λ v. v) (λ v. v) c.in_err-last.field-0.0
      (no_second value_field value_field (IsValueOf t) (IsValueOf t) (value_field-prefix_free t) c.in_ok-first.first c.args.rest.bytes.now c.in_ok-first.behind.bytes.now c.in_ok-first.ensures.exact.1 c.in_ok-first.ensures.exact.0.bytes)
      (parts_of value_field (IsValueOf t) c.in_ok-first.behind (λ v. v) c.in_err-last.field-0.0 c.in_err-last.ensures.exact) in
      rw (p.1, p.2) lacks;
}
