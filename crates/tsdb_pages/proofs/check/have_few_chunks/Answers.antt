use Rattle.std.proofs.Common.{length, ap, arith}
use Rattle.std.proofs.lemmas.Bool.{false≢true}
use Rattle.tsdb_pages.proofs.Order.{chunks_through}
use Rattle.tsdb_pages.proofs.check.have_few_chunks.Goals as goal

pub returns-then-items-room : goal.returns-then-items-room
returns-then-items-room c =
    let more = chunks_through c.args.groups.now c.loop-group.group-index c.group-item.result c.loop-group-test.true c.group-item.is in
    let len = ap length c.items.ensures in
    (λ e. absurd (false≢true e), λ few. absurd (omega (arith, c.loop-group.invariant, more, len, few, c.if-items-room.true)))
