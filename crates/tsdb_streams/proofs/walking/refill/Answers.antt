use Rattle.std.proofs.lemmas.List.{reverse-reverse}
use Rattle.std.proofs.lemmas.Result.{err_from_is_err_and}
use Rattle.tsdb_streams.proofs.Leaving.{leaves_fault}
use Rattle.tsdb_streams.proofs.walking.refill.Goals as goal

pub returns-clause-moved : goal.returns-clause-moved
returns-clause-moved g c = λ pages truth. rw (c.reverse.ensures.items, reverse-reverse) (c.in_ok-more.ensures.moved pages truth)

pub returns-clause-filled : goal.returns-clause-filled
returns-clause-filled g c = rw (c.reverse.ensures.items, reverse-reverse) c.in_ok-more.ensures.filled

pub returns-in_err-more-clause-leaves : goal.returns-in_err-more-clause-leaves
returns-in_err-more-clause-leaves g c =
    let p = err_from_is_err_and c.from_residual.result c.from_residual.ensures.1 in
    rw (p.1, p.2) (leaves_fault g.P.Right.ReadRight.file _ _ _ _ _ _ c.in_err-more.field-0.0 c.in_err-more.ensures.leaves)
