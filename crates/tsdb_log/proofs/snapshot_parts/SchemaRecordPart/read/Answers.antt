use Rattle.std.proofs.lemmas.Result.{err_from_is_err_and}
use Rattle.tsdb_log.specs.SnapshotLaws.{schema_row, IsSchemaRow, schema_as}
use Rattle.tsdb_log.specs.Snapshots.{schema_fields, IsSchemaRecord}
use Rattle.tsdb_log.proofs.Faults.{fails_as}
use Rattle.tsdb_log.proofs.snapshot_parts.SchemaRecordPart.read.Goals as goal

pub returns-in_err-path : goal.returns-in_err-path
returns-in_err-path c = record {
  exact =
      let p = err_from_is_err_and c.from_residual.result c.from_residual.ensures.1 in
      rw (p.1, p.2) (fails_as schema_row IsSchemaRow schema_fields IsSchemaRecord c.args.rest.at c.args.rest.bytes.now c.in_err-path.field-0.0 schema_as
      c.in_err-path.ensures.exact);
}

pub returns : goal.returns
returns c = record {
  exact = (c.in_ok-path.ensures.exact.0, c.in_ok-path.ensures.exact.1.0);
}
