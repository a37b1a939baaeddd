use Rattle.std.proofs.Common.{◌∙◌, refl, sym, arith}
use Rattle.std.proofs.lemmas.Bool.{false≢true}
use Rattle.std.proofs.lemmas.Result.{err_from_is_err_and}
use Rattle.tsdb_inner.proofs.All.{no_winner, none_filled}
use Rattle.tsdb_inner.proofs.Series.{cause_ok, cause_then, same_cause}
use Rattle.tsdb_inner.proofs.running.run.Goals as goal

pub returns-in_err-part-clause-cause : goal.returns-in_err-part-clause-cause
returns-in_err-part-clause-cause g c = λ told truth.
    let p = err_from_is_err_and c.from_residual.result c.from_residual.ensures.1 in
    rw (p.1, p.2) (same_cause _ _ c.in_err-part.field-0.0 (c.in_err-part.ensures.cause told truth))

pub returns-then-not-has_series-clause-output : goal.returns-then-not-has_series-clause-output
returns-then-not-has_series-clause-output g c =
    let copied = c.in_ok-part.ensures.copied in
    no_winner g.F.Right.ReadRight.file c.args.job.now copied.0
    (none_filled copied.0 (λ some. false≢true (sym c.if-not-has_series.true ∙ (c.has_series.ensures copied.0 copied.1).1 some))) copied.3

pub put_part-requires-clause-copied : goal.put_part-requires-clause-copied
put_part-requires-clause-copied g c = λ lifetimes lives.
    let copied = c.in_ok-part.ensures.copied in
    (copied.0, copied.1, (c.if-not-has_series.ensures copied.0 copied.1).0 refl, copied.2, copied.3)

pub returns-then-not-has_series-clause-cause : goal.returns-then-not-has_series-clause-cause
returns-then-not-has_series-clause-cause g c = λ told truth. cause_ok _ _ _ c.in_ok-part.ensures.later

pub returns-in_err-put_part-clause-cause : goal.returns-in_err-put_part-clause-cause
returns-in_err-put_part-clause-cause g c = λ told truth.
    let p = err_from_is_err_and c.from_residual-in_err-put_part.result c.from_residual-in_err-put_part.ensures.1 in
    rw (p.1, p.2) (same_cause _ _ c.in_err-put_part.field-0.0
    (cause_then _ _ _ _ c.in_ok-part.ensures.later c.in_err-put_part.ensures.cause))

pub returns-clause-cause : goal.returns-clause-cause
returns-clause-cause g c = λ told truth.
    cause_ok _ _ _ (omega (arith, c.in_ok-part.ensures.later, c.in_ok-put_part.ensures.cause.later))

pub returns-clause-later : goal.returns-clause-later
returns-clause-later g c = omega (arith, c.in_ok-part.ensures.later, c.in_ok-put_part.ensures.cause.later)
