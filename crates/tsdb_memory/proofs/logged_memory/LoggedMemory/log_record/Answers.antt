use Rattle.std.proofs.lemmas.Result.{err_from_is_err_and}
use Rattle.tsdb_memory.proofs.logged_memory.LoggedMemory.log_record.Goals as goal

pub returns-in_err-append-clause-end : goal.returns-in_err-append-clause-end
returns-in_err-append-clause-end g c =
    let p = err_from_is_err_and c.from_residual.result c.from_residual.ensures.1 in
    rw (p.1, p.2) c.in_err-append.ensures.end

pub returns-clause-end : goal.returns-clause-end
returns-clause-end g c = c.in_ok-append.ensures.end
