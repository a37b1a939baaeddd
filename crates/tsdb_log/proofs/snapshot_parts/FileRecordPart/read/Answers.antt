use Rattle.std.proofs.lemmas.Result.{err_from_is_err_and}
use Rattle.tsdb_log.specs.SnapshotLaws.{listed_row, IsListedRow, listed_as}
use Rattle.tsdb_log.specs.Snapshots.{listed_fields, IsFileRecord}
use Rattle.tsdb_log.proofs.Faults.{fails_as}
use Rattle.tsdb_log.proofs.snapshot_parts.FileRecordPart.read.Goals as goal

pub returns-in_err-number : goal.returns-in_err-number
returns-in_err-number c = record {
  exact =
      let p = err_from_is_err_and c.from_residual.result c.from_residual.ensures.1 in
      rw (p.1, p.2) (fails_as listed_row IsListedRow listed_fields IsFileRecord c.args.rest.at c.args.rest.bytes.now c.in_err-number.field-0.0 listed_as
      c.in_err-number.ensures.exact);
}

pub returns : goal.returns
returns c = record {
  exact = (c.in_ok-number.ensures.exact.0, record { number = c.in_ok-number.ensures.exact.1.0; born = c.in_ok-number.ensures.exact.1.1 });
}
