use Rattle.std.proofs.Common.{ap, sym, ◌∙◌, Err}
use Rattle.std.proofs.lemmas.Result.{err_from_is_err_and}
use Rattle.tsdb_run.proofs.PutLemmas.{HasPut-more, Puts-failed, AppendsPrefix-more, same_error}
use Rattle.tsdb_run.proofs.put.put_lines.Goals as goal

pub returns-in_err-put_all : goal.returns-in_err-put_all
returns-in_err-put_all g c =
    let p = err_from_is_err_and c.from_residual.result c.from_residual.ensures.1 in
    let was = c.in_err-put_all.was in
    rw p.1 (Puts-failed _ c.args.text.now _ _ _ c.loop-rest.rest.now _ _ p.0 c.loop-rest.invariant
    (AppendsPrefix-more _ _ c.loop-rest.rest.now _ _ c.first_line.ensures.whole c.put_all.ensures.prefix)
    c.put_all.ensures.cause.later (λ failed. c.put_all.ensures.cause.failed (was ∙ ap Err (sym p.2 ∙ failed)))
    (λ none. c.put_all.ensures.no_fault (λ failed. none (p.2 ∙ same_error _ (sym was ∙ failed)))))

pub loop-rest-preserved : goal.loop-rest-preserved
loop-rest-preserved g c =
    HasPut-more _ c.args.text.now _ _ _ _ c.loop-rest.rest.now c.first_line.result.1.now _ _ c.loop-rest.invariant c.first_line.ensures.whole c.in_ok-put_all.ensures.whole
    (c.in_ok-put_all.ensures.no_fault (λ failed. cc))
