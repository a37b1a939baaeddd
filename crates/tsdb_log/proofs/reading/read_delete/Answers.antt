use Rattle.std.proofs.Common.{refl, FitsSigned}
use Rattle.std.specs.Int.{w64}
use Rattle.std.proofs.lemmas.Int.{to_z-of_z}
use Rattle.std.proofs.lemmas.Result.{err_from_is_err_and}
use Rattle.tsdb_log.proofs.Exits.{reads_delete, delete_path, delete_from, delete_to}
use Rattle.tsdb_log.proofs.reading.read_delete.Goals as goal

pub returns-in_err-path : goal.returns-in_err-path
returns-in_err-path c = record {
  exact =
      let p = err_from_is_err_and c.from_residual.result c.from_residual.ensures.1 in
      rw (p.1, p.2) (delete_path _ c.in_err-path.field-0.0 refl c.in_err-path.ensures.exact);
}

pub returns-in_err-from : goal.returns-in_err-from
returns-in_err-from c = record {
  exact =
      let p = err_from_is_err_and c.from_residual-in_err-from.result c.from_residual-in_err-from.ensures.1 in
      rw (p.1, p.2) (delete_from c.in_ok-path.path _ c.in_ok-path.behind c.in_err-from.field-0.0 refl c.in_ok-path.ensures.exact.1 c.in_ok-path.ensures.exact.0 c.in_err-from.ensures.exact);
}

pub returns-in_err-to : goal.returns-in_err-to
returns-in_err-to c = record {
  exact =
      let p = err_from_is_err_and c.from_residual-in_err-to.result c.from_residual-in_err-to.ensures.1 in
      rw (p.1, p.2) (delete_to c.in_ok-path.path c.in_ok-from.from _ c.in_ok-path.behind c.in_ok-from.behind c.in_err-to.field-0.0 refl
      c.in_ok-path.ensures.exact.1 c.in_ok-path.ensures.exact.0 c.in_ok-from.ensures.exact.1 c.in_ok-from.ensures.exact.0 c.in_err-to.ensures.exact);
}

pub returns : goal.returns
returns c = record {
  exact =
      let from_fits : FitsSigned w64 c.in_ok-from.from = c.in_ok-from.ensures.exact.1 in
      let to_fits : FitsSigned w64 c.in_ok-to.to = c.in_ok-to.ensures.exact.1 in
      rw (to_z-of_z w64 c.in_ok-from.from from_fits, to_z-of_z w64 c.in_ok-to.to to_fits)
      (reads_delete c.in_ok-path.path c.in_ok-from.from c.in_ok-to.to _ c.in_ok-path.behind c.in_ok-from.behind c.in_ok-to.behind refl
      c.in_ok-path.ensures.exact.1 c.in_ok-path.ensures.exact.0 from_fits c.in_ok-from.ensures.exact.0 to_fits c.in_ok-to.ensures.exact.0);
}
