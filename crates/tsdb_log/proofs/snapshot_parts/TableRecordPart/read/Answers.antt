use Rattle.std.proofs.lemmas.Result.{err_from_is_err_and}
use Rattle.tsdb_log.specs.SnapshotLaws.{table_row, IsTableRow, table_as}
use Rattle.tsdb_log.specs.Snapshots.{table_fields, IsTable}
use Rattle.tsdb_log.proofs.Faults.{fails_as}
use Rattle.tsdb_log.proofs.snapshot_parts.TableRecordPart.read.Goals as goal

pub returns-in_err-series : goal.returns-in_err-series
returns-in_err-series c = record {
  exact =
      let p = err_from_is_err_and c.from_residual.result c.from_residual.ensures.1 in
      rw (p.1, p.2) (fails_as table_row IsTableRow table_fields IsTable c.args.rest.at c.args.rest.bytes.now c.in_err-series.field-0.0 table_as
      c.in_err-series.ensures.exact);
}

pub returns : goal.returns
returns c = record {
  exact = (c.in_ok-series.ensures.exact.0, record { series = c.in_ok-series.ensures.exact.1.0; points = c.in_ok-series.ensures.exact.1.1 });
}
