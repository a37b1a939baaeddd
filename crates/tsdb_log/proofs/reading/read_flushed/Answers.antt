use Rattle.std.proofs.Common.{refl}
use Rattle.std.proofs.lemmas.Result.{err_from_is_err_and}
use Rattle.tsdb_log.proofs.Exits.{flushed_sequence, flushed_unsequence}
use Rattle.tsdb_log.proofs.reading.read_flushed.Goals as goal

pub returns-in_err-sequence : goal.returns-in_err-sequence
returns-in_err-sequence c = record {
  exact =
      let p = err_from_is_err_and c.from_residual.result c.from_residual.ensures.1 in
      rw (p.1, p.2) (flushed_sequence _ c.in_err-sequence.field-0.0 refl c.in_err-sequence.ensures.exact);
}

pub returns-in_err-unsequence : goal.returns-in_err-unsequence
returns-in_err-unsequence c = record {
  exact =
      let p = err_from_is_err_and c.from_residual-in_err-unsequence.result c.from_residual-in_err-unsequence.ensures.1 in
      rw (p.1, p.2) (flushed_unsequence c.in_ok-sequence.sequence _ c.in_ok-sequence.behind c.in_err-unsequence.field-0.0 refl c.in_ok-sequence.ensures.exact.1 c.in_ok-sequence.ensures.exact.0 c.in_err-unsequence.ensures.exact);
}
