use Rattle.std.proofs.Common.{arith}
use Rattle.tsdb_index.proofs.Found.{leaf_at}
use Rattle.tsdb_index.proofs.Left.{rest_is}
use Rattle.tsdb_index.proofs.finding.leaf_for.Goals as goal

pub returns-in-len1-up : goal.returns-in-len1-up
returns-in-len1-up c =
    let is = rest_is c.split_at.result.1.now c.pointer-item.result (omega arith) c.pointer-item.is in
    leaf_at (c.args.device.now, c.args.measurement.now) c.args.pointers.now c.split_at.result.1.now _ c.pointer-item.result c.in_ok-at.at c.in_ok-at.ensures c.split_at.ensures.back is
