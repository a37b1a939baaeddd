use Rattle.std.proofs.lemmas.Result.{err_from_is_err_and}
use Rattle.tsdb_base.specs.Fields.{number64}
use Rattle.tsdb_log.specs.PartLaws.{file_as}
use Rattle.tsdb_log.specs.Rows.{field, IsNumber64}
use Rattle.tsdb_log.specs.Spelling.{file_fields, IsFileField}
use Rattle.tsdb_log.proofs.Faults.{fails_as}
use Rattle.tsdb_log.proofs.part.FileNumberPart.read.Goals as goal

pub returns-in_err-number : goal.returns-in_err-number
returns-in_err-number c = record {
  exact =
      let p = err_from_is_err_and c.from_residual.result c.from_residual.ensures.1 in
      rw (p.1, p.2) (fails_as (field number64) IsNumber64 file_fields IsFileField c.args.rest.at c.args.rest.bytes.now c.in_err-number.field-0.0 file_as
      c.in_err-number.ensures.exact);
}
