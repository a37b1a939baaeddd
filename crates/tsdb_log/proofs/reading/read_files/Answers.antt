use Rattle.std.proofs.lemmas.Result.{err_from_is_err_and}
use Rattle.tsdb_log.proofs.Exits.{files_count, files_numbers}
use Rattle.tsdb_log.proofs.reading.read_files.Goals as goal

pub returns-in_err-count : goal.returns-in_err-count
returns-in_err-count c = record {
  exact =
      let p = err_from_is_err_and c.from_residual.result c.from_residual.ensures.1 in
      rw (p.1, p.2) (files_count c.args.rest c.in_err-count.field-0.0 c.in_err-count.ensures.exact);
}

pub returns-in_err-files : goal.returns-in_err-files
returns-in_err-files c = record {
  exact =
      let p = err_from_is_err_and c.from_residual-in_err-files.result c.from_residual-in_err-files.ensures.1 in
      rw (p.1, p.2) (files_numbers c.in_ok-count.count c.args.rest c.in_ok-count.behind c.in_err-files.field-0.0 c.in_ok-count.ensures.exact.1 c.in_ok-count.ensures.exact.0 c.in_err-files.ensures.exact);
}
