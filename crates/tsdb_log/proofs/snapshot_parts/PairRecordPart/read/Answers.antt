use Rattle.std.proofs.lemmas.Result.{err_from_is_err_and}
use Rattle.tsdb_log.specs.SnapshotLaws.{pair_row, IsPairRow, pair_as}
use Rattle.tsdb_log.specs.Snapshots.{pair_fields, IsPairRecord}
use Rattle.tsdb_log.proofs.Faults.{fails_as}
use Rattle.tsdb_log.proofs.snapshot_parts.PairRecordPart.read.Goals as goal

pub returns-in_err-born : goal.returns-in_err-born
returns-in_err-born c = record {
  exact =
      let p = err_from_is_err_and c.from_residual.result c.from_residual.ensures.1 in
      rw (p.1, p.2) (fails_as pair_row IsPairRow pair_fields IsPairRecord c.args.rest.at c.args.rest.bytes.now c.in_err-born.field-0.0 pair_as
      c.in_err-born.ensures.exact);
}

pub returns : goal.returns
returns c = record {
  exact = (c.in_ok-born.ensures.exact.0, record { born = c.in_ok-born.ensures.exact.1.0; sequence = c.in_ok-born.ensures.exact.1.1.0; unsequence = c.in_ok-born.ensures.exact.1.1.1 });
}
