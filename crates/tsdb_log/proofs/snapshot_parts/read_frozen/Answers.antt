use Rattle.std.proofs.Common.{subst, sym}
use Rattle.std.proofs.lemmas.Result.{err_from_is_err_and}
use Rattle.tsdb_fields.specs.Reading.{TakesBytes}
use Rattle.tsdb_log.specs.Snapshots.{frozen_fields, AreFrozen}
use Rattle.tsdb_log.specs.Spelling.{joined_fields}
use Rattle.tsdb_log.proofs.SnapshotExits.{frozen_count, frozen_pairs, takes_frozen}
use Rattle.tsdb_log.proofs.snapshot_parts.read_frozen.Goals as goal

pub returns-in_err-count : goal.returns-in_err-count
returns-in_err-count c = record {
  exact =
      let p = err_from_is_err_and c.from_residual.result c.from_residual.ensures.1 in
      rw (p.1, p.2) (frozen_count c.args.rest c.in_err-count.field-0.0 c.in_err-count.ensures.exact);
}

pub returns-in_err-pairs : goal.returns-in_err-pairs
returns-in_err-pairs c = record {
  exact =
      let p = err_from_is_err_and c.from_residual-in_err-pairs.result c.from_residual-in_err-pairs.ensures.1 in
      rw (p.1, p.2) (frozen_pairs c.in_ok-count.count c.args.rest c.in_ok-count.behind c.in_err-pairs.field-0.0
      c.in_ok-count.ensures.exact.1 c.in_ok-count.ensures.exact.0 c.in_err-pairs.ensures.exact);
}

pub returns : goal.returns
returns c = record {
  exact = subst (λ l. TakesBytes c.args.rest (joined_fields (frozen_fields l)) c.in_ok-pairs.behind × AreFrozen l) (sym c.of.ensures)
      (takes_frozen c.in_ok-count.count c.in_ok-pairs.pairs.items c.args.rest c.in_ok-count.behind c.in_ok-pairs.behind
      c.in_ok-count.ensures.exact.1 c.in_ok-count.ensures.exact.0 c.in_ok-pairs.ensures.exact.1 c.in_ok-pairs.ensures.exact.0);
}
