use Rattle.std.proofs.Common.{FitsSigned}
use Rattle.std.specs.Int.{w64}
use Rattle.std.proofs.lemmas.Int.{to_z-of_z}
use Rattle.std.proofs.lemmas.Result.{err_from_is_err_and}
use Rattle.tsdb_log.specs.SnapshotLaws.{point_row, IsPointRow, point_as}
use Rattle.tsdb_log.specs.Snapshots.{point_fields, IsPoint}
use Rattle.tsdb_log.proofs.Faults.{fails_as}
use Rattle.tsdb_log.proofs.snapshot_parts.PointPart.read.Goals as goal

pub returns-in_err-time : goal.returns-in_err-time
returns-in_err-time c = record {
  exact =
      let p = err_from_is_err_and c.from_residual.result c.from_residual.ensures.1 in
      rw (p.1, p.2) (fails_as point_row IsPointRow point_fields IsPoint c.args.rest.at c.args.rest.bytes.now c.in_err-time.field-0.0 point_as
      c.in_err-time.ensures.exact);
}

pub returns : goal.returns
returns c = record {
  exact =
      let fits : FitsSigned w64 c.in_ok-time.time = c.in_ok-time.ensures.exact.1.0 in
      rw (to_z-of_z w64 c.in_ok-time.time fits)
      (c.in_ok-time.ensures.exact.0, record { time = fits; value = c.in_ok-time.ensures.exact.1.1 });
}
