use Rattle.std.proofs.Common.{refl}
use Rattle.std.proofs.lemmas.Result.{err_from_is_err_and}
use Rattle.tsdb_log.proofs.Exits.{reads_replaced, replaced_output, replaced_sequence, replaced_unsequence}
use Rattle.tsdb_log.proofs.reading.read_replaced.Goals as goal

pub returns-in_err-born : goal.returns-in_err-born
returns-in_err-born c = record {
  exact =
      let p = err_from_is_err_and c.from_residual.result c.from_residual.ensures.1 in
      rw (p.1, p.2) (replaced_output c.args.bytes.now c.in_err-born.field-0.0 c.in_err-born.ensures.exact);
}

pub returns-in_err-sequence : goal.returns-in_err-sequence
returns-in_err-sequence c = record {
  exact =
      let p = err_from_is_err_and c.from_residual-in_err-sequence.result c.from_residual-in_err-sequence.ensures.1 in
      rw (p.1, p.2) (replaced_sequence _ _ c.in_ok-born.behind c.in_err-sequence.field-0.0 refl c.in_ok-born.ensures.exact.1 c.in_ok-born.ensures.exact.0 c.in_err-sequence.ensures.exact);
}

pub returns-in_err-unsequence : goal.returns-in_err-unsequence
returns-in_err-unsequence c = record {
  exact =
      let p = err_from_is_err_and c.from_residual-in_err-unsequence.result c.from_residual-in_err-unsequence.ensures.1 in
      rw (p.1, p.2) (replaced_unsequence _ c.in_ok-sequence.sequence _ c.in_ok-born.behind c.in_ok-sequence.behind c.in_err-unsequence.field-0.0 refl
      c.in_ok-born.ensures.exact.1 c.in_ok-born.ensures.exact.0 c.in_ok-sequence.ensures.exact.1 c.in_ok-sequence.ensures.exact.0 c.in_err-unsequence.ensures.exact);
}

pub returns : goal.returns
returns c = record {
  exact = reads_replaced (record { 0 = c.in_ok-born.born }) c.in_ok-born.space c.in_ok-born.place (record { 0 = c.in_ok-born.output }) c.in_ok-sequence.sequence c.in_ok-unsequence.unsequence
      _ c.in_ok-born.behind c.in_ok-sequence.behind c.in_ok-unsequence.behind refl
      c.in_ok-born.ensures.exact.1 c.in_ok-born.ensures.exact.0 c.in_ok-sequence.ensures.exact.1 c.in_ok-sequence.ensures.exact.0 c.in_ok-unsequence.ensures.exact.1 c.in_ok-unsequence.ensures.exact.0;
}
