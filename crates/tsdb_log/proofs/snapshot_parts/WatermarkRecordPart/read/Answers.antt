use Rattle.std.proofs.Common.{FitsSigned}
use Rattle.std.specs.Int.{w64}
use Rattle.std.proofs.lemmas.Int.{to_z-of_z}
use Rattle.std.proofs.lemmas.Result.{err_from_is_err_and}
use Rattle.tsdb_log.specs.SnapshotLaws.{watermark_row, IsWatermarkRow, watermark_as}
use Rattle.tsdb_log.specs.Snapshots.{watermark_fields, IsWatermark}
use Rattle.tsdb_log.proofs.Faults.{fails_as}
use Rattle.tsdb_log.proofs.snapshot_parts.WatermarkRecordPart.read.Goals as goal

pub returns-in_err-device : goal.returns-in_err-device
returns-in_err-device c = record {
  exact =
      let p = err_from_is_err_and c.from_residual.result c.from_residual.ensures.1 in
      rw (p.1, p.2) (fails_as watermark_row IsWatermarkRow watermark_fields IsWatermark c.args.rest.at c.args.rest.bytes.now c.in_err-device.field-0.0 watermark_as
      c.in_err-device.ensures.exact);
}

pub returns : goal.returns
returns c = record {
  exact =
      let fits : FitsSigned w64 c.in_ok-device.time = c.in_ok-device.ensures.exact.1.1 in
      rw (to_z-of_z w64 c.in_ok-device.time fits)
      (c.in_ok-device.ensures.exact.0, record { device = c.in_ok-device.ensures.exact.1.0; time = fits });
}
