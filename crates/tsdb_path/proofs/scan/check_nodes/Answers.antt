use Rattle.std.proofs.Common.{Some, None, arith, rules}
use Rattle.tsdb_path.specs.Steps.{TakesNode}
use Rattle.tsdb_path.proofs.Walk.{path_at_end, further}
use Rattle.tsdb_path.proofs.scan.check_nodes.Goals as goal

pub returns-in-None-clause-ok : goal.returns-in-None-clause-ok
returns-in-None-clause-ok c =
    let takes : TakesNode c.loop-count.rest.now None = search rules in
    path_at_end c.args.bytes.now c.loop-count.rest.now c.loop-count._count c.requires.fits c.requires.rooted c.loop-count.invariant (omega arith) takes

pub loop-count-preserved : goal.loop-count-preserved
loop-count-preserved c =
    let takes : TakesNode c.loop-count.rest.now (Some c.in-Some.more.now) = search rules in
    further c.args.bytes.now c.loop-count.rest.now c.in-Some.more.now c.loop-count._count c.loop-count.invariant takes
