use Rattle.std.proofs.lemmas.Bool.{false≢true}
use Rattle.tsdb_index.proofs.Orders.{by_measurement, not_before}
use Rattle.tsdb_index.proofs.order.is_before.Goals as goal

pub returns-in-Equal : goal.returns-in-Equal
returns-in-Equal c = by_measurement c.args.device.now c.args.next_device.now c.args.measurement.now c.args.next.now c.cmp-in-Equal.result c.is_lt.result c.in-Equal.ensures c.cmp-in-Equal.ensures c.is_lt.ensures

pub returns-in-Greater : goal.returns-in-Greater
returns-in-Greater c = (λ e. absurd (false≢true e), λ before. absurd (not_before c.args.device.now c.args.next_device.now c.args.measurement.now c.args.next.now c.in-Greater.ensures before))
