use Rattle.std.proofs.Common.{take}
use Rattle.tsdb_run.proofs.PutLemmas.{HasPut-more, begins}
use Rattle.tsdb_run.proofs.put.put_all.Goals as goal

pub loop-rest-preserved : goal.loop-rest-preserved
loop-rest-preserved g c =
    let count = c.in_ok-count.count in
    let rest = c.loop-rest.rest.now in
    HasPut-more _ c.args.bytes.now _ _ _ (take count rest) rest _ _ _ c.loop-rest.invariant
    (begins count rest _ c.split_at.ensures.back)
    c.in_ok-count.ensures.bytes (c.in_ok-count.ensures.no_fault (λ failed. cc))
