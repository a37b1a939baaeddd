use Rattle.std.proofs.Common.{refl}
use Rattle.std.proofs.lemmas.Result.{err_from_is_err_and}
use Rattle.tsdb_log.proofs.SnapshotExits.{snapshot_front, snapshot_frozen, snapshot_tables, reads_snapshot}
use Rattle.tsdb_log.proofs.snapshot_parts.read_snapshot.Goals as goal

pub returns-in_err-numbers : goal.returns-in_err-numbers
returns-in_err-numbers c = record {
  exact =
      let p = err_from_is_err_and c.from_residual.result c.from_residual.ensures.1 in
      rw (p.1, p.2) (snapshot_front c.args.bytes.now c.in_err-numbers.field-0.0 c.in_err-numbers.ensures.exact);
}

pub returns-in_err-frozen : goal.returns-in_err-frozen
returns-in_err-frozen c = record {
  exact =
      let p = err_from_is_err_and c.from_residual-in_err-frozen.result c.from_residual-in_err-frozen.ensures.1 in
      rw (p.1, p.2) (snapshot_frozen (c.in_ok-numbers.numbers, c.in_ok-numbers.lists) _ c.in_ok-numbers.behind c.in_err-frozen.field-0.0 refl c.in_ok-numbers.ensures.exact.1
      c.in_ok-numbers.ensures.exact.0 c.in_err-frozen.ensures.exact);
}

pub returns-in_err-tables : goal.returns-in_err-tables
returns-in_err-tables c = record {
  exact =
      let p = err_from_is_err_and c.from_residual-in_err-tables.result c.from_residual-in_err-tables.ensures.1 in
      rw (p.1, p.2) (snapshot_tables (c.in_ok-numbers.numbers, c.in_ok-numbers.lists) c.in_ok-frozen.frozen _ c.in_ok-numbers.behind c.in_ok-frozen.behind c.in_err-tables.field-0.0 refl
      c.in_ok-numbers.ensures.exact.1 c.in_ok-numbers.ensures.exact.0 c.in_ok-frozen.ensures.exact.1 c.in_ok-frozen.ensures.exact.0
      c.in_err-tables.ensures.exact);
}

pub returns : goal.returns
returns c = record {
  exact = reads_snapshot (c.in_ok-numbers.numbers, c.in_ok-numbers.lists) c.in_ok-frozen.frozen c.in_ok-tables.tables _ c.in_ok-numbers.behind c.in_ok-frozen.behind c.in_ok-tables.behind refl
      c.in_ok-numbers.ensures.exact.1 c.in_ok-numbers.ensures.exact.0 c.in_ok-frozen.ensures.exact.1 c.in_ok-frozen.ensures.exact.0
      c.in_ok-tables.ensures.exact.1 c.in_ok-tables.ensures.exact.0;
}
