use Rattle.std.proofs.Common.{FitsSigned}
use Rattle.std.specs.Int.{w64}
use Rattle.std.proofs.lemmas.Int.{to_z-of_z}
use Rattle.std.proofs.lemmas.Result.{err_from_is_err_and}
use Rattle.tsdb_log.specs.SnapshotLaws.{mark_row, IsMarkRow, mark_as}
use Rattle.tsdb_log.specs.Snapshots.{mark_fields, IsMark}
use Rattle.tsdb_log.proofs.Faults.{fails_as}
use Rattle.tsdb_log.proofs.snapshot_parts.MarkRecordPart.read.Goals as goal

pub returns-in_err-path : goal.returns-in_err-path
returns-in_err-path c = record {
  exact =
      let p = err_from_is_err_and c.from_residual.result c.from_residual.ensures.1 in
      rw (p.1, p.2) (fails_as mark_row IsMarkRow mark_fields IsMark c.args.rest.at c.args.rest.bytes.now c.in_err-path.field-0.0 mark_as
      c.in_err-path.ensures.exact);
}

pub returns : goal.returns
returns c = record {
  exact =
      let is = c.in_ok-path.ensures.exact.1 in
      let from_fits : FitsSigned w64 c.in_ok-path.from = is.1.0 in
      let to_fits : FitsSigned w64 c.in_ok-path.to = is.1.1.0 in
      rw (to_z-of_z w64 c.in_ok-path.from from_fits, to_z-of_z w64 c.in_ok-path.to to_fits)
      (c.in_ok-path.ensures.exact.0, record { path = is.0; from = from_fits; to = to_fits; version = is.1.1.1 });
}
