use Rattle.std.proofs.Common.{Vec, Global}
use Rattle.std.proofs.lemmas.Result.{err_from_is_err_and}
use Rattle.tsdb_fields.proofs.Taken.{none_taken, one_bad, one_taken}
use Rattle.tsdb_fields.proofs.many.read_fields.Goals as goal

pub loop-init : goal.loop-init
loop-init g c = none_taken g.R.FieldReader.spelling (g.R.FieldReader.is_field c.args.reader.now) c.args.rest c.new-fields.result.items c.new-fields.ensures.items

pub loop-preserved : goal.loop-preserved
loop-preserved g c =
    one_taken g.R.FieldReader.spelling (g.R.FieldReader.is_field c.args.reader.now) c.loop.counter c.args.rest c.loop.left c.in_ok-field.behind c.loop.fields.items c.push.new.self.items c.in_ok-field.field
    c.in_ok-push.ensures.items c.loop.invariant c.in_ok-field.ensures.exact.0 c.in_ok-field.ensures.exact.1

pub returns-in_err-field : goal.returns-in_err-field
returns-in_err-field g c = record {
  exact =
      let p = err_from_is_err_and c.from_residual.result c.from_residual.ensures.1 in
      rw (p.1, p.2) (one_bad g.R.FieldReader.spelling (g.R.FieldReader.is_field c.args.reader.now) (g.R.FieldReader.is_bad c.args.reader.now) c.loop.counter c.args.count c.args.rest c.loop.left c.loop.fields.items
      (λ v. v) (λ (vs : Vec _ Global). vs.items) c.in_err-field.field-0.0 c.loop-test.true c.loop.invariant c.in_err-field.ensures.exact);
}
