use Rattle.std.proofs.Common.{◌≡◌, ◌<◌, length, arith, rules}
use Rattle.tsdb_script.proofs.Cells.{named_next}
use Rattle.tsdb_script.proofs.before.are_named.Goals as goal

pub loop-at-preserved : goal.loop-at-preserved
loop-at-preserved c =
    let within : c.loop-at.at < length c.args.cells.now = omega (arith, c.if-names-cells.false) in
    let same : c.index-names-at.result ≡ c.index-cells-at.result.measurement = search rules in
    named_next c.args.names.now c.args.cells.now c.loop-at.at c.index-names-at.result c.index-cells-at.result c.loop-at-test.true within
    c.index-names-at.is c.index-cells-at.is same c.loop-at.invariant
