use Rattle.std.proofs.Common.{refl, FitsSigned}
use Rattle.std.specs.Int.{w64}
use Rattle.std.proofs.lemmas.Int.{to_z-of_z}
use Rattle.std.proofs.lemmas.Result.{err_from_is_err_and}
use Rattle.tsdb_log.proofs.Exits.{insert_time, insert_count, insert_cells, reads_insert}
use Rattle.tsdb_log.proofs.reading.read_insert.Goals as goal

pub returns-in_err-time : goal.returns-in_err-time
returns-in_err-time c = record {
  exact =
      let p = err_from_is_err_and c.from_residual.result c.from_residual.ensures.1 in
      rw (p.1, p.2) (insert_time _ c.in_err-time.field-0.0 refl c.in_err-time.ensures.exact);
}

pub returns-in_err-count : goal.returns-in_err-count
returns-in_err-count c = record {
  exact =
      let p = err_from_is_err_and c.from_residual-in_err-count.result c.from_residual-in_err-count.ensures.1 in
      rw (p.1, p.2) (insert_count c.in_ok-time.time _ c.in_ok-time.behind c.in_err-count.field-0.0 refl c.in_ok-time.ensures.exact.1 c.in_ok-time.ensures.exact.0 c.in_err-count.ensures.exact);
}

pub returns-in_err-cells : goal.returns-in_err-cells
returns-in_err-cells c = record {
  exact =
      let p = err_from_is_err_and c.from_residual-in_err-cells.result c.from_residual-in_err-cells.ensures.1 in
      rw (p.1, p.2) (insert_cells c.in_ok-time.time c.in_ok-count.count _ c.in_ok-time.behind c.in_ok-count.behind c.in_err-cells.field-0.0 refl
      c.in_ok-time.ensures.exact.1 c.in_ok-time.ensures.exact.0 c.in_ok-count.ensures.exact.1 c.in_ok-count.ensures.exact.0 c.in_err-cells.ensures.exact);
}

pub returns : goal.returns
returns c = record {
  exact =
      let fits : FitsSigned w64 c.in_ok-time.time = c.in_ok-time.ensures.exact.1 in
      rw (to_z-of_z w64 c.in_ok-time.time fits, c.of.ensures)
      (reads_insert c.in_ok-time.time c.in_ok-count.count c.in_ok-cells.cells.items _ c.in_ok-time.behind c.in_ok-count.behind c.in_ok-cells.behind refl
      fits c.in_ok-time.ensures.exact.0 c.in_ok-count.ensures.exact.1 c.in_ok-count.ensures.exact.0 c.in_ok-cells.ensures.exact.1 c.in_ok-cells.ensures.exact.0);
}
