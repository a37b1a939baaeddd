use Rattle.jobs_tests.proofs.Out.{columns_in_store, no_pin, pinned_has, pins_and_unpins, some_pin}
use Rattle.jobs_tests.proofs.course.look.Goals as goal

pub read-rows-requires-clause-nodes : goal.read-rows-requires-clause-nodes
read-rows-requires-clause-nodes g c = λ lifetimes lives. (some_pin g.F.Right.ReadRight.file c.args.core.now c.pin.new.core c.pin.result
    c.in-Some.pin
    c.in-Some.is c.pin.ensures).0

pub read-rows-requires-clause-of_store : goal.read-rows-requires-clause-of_store
read-rows-requires-clause-of_store g c = λ lifetimes lives. columns_in_store g.F.Right.ReadRight.file (g.F.Port.Port.store c.args.port.now)
    c.pin.new.core c.in-Some.pin
    (pinned_has g.F.Right.ReadRight.file (g.F.Port.Port.store c.args.port.now) c.args.core.now c.pin.new.core c.in-Some.pin
    (some_pin g.F.Right.ReadRight.file c.args.core.now c.pin.new.core c.pin.result c.in-Some.pin c.in-Some.is c.pin.ensures) c.requires)
    c.sound.ensures.of_store

pub unpin-requires-after_bounds : goal.unpin-requires-after_bounds
unpin-requires-after_bounds g c κs within = (
  (g.F.Port.Port.store c.args.port.now),
  pinned_has g.F.Right.ReadRight.file (g.F.Port.Port.store c.args.port.now) c.args.core.now c.pin.new.core c.in-Some.pin
      (some_pin g.F.Right.ReadRight.file c.args.core.now c.pin.new.core c.pin.result c.in-Some.pin c.in-Some.is c.pin.ensures) c.requires,
)

pub returns-in-Some-clause-hands : goal.returns-in-Some-clause-hands
returns-in-Some-clause-hands g c = pins_and_unpins g.F.Right.ReadRight.file (g.F.Port.Port.store c.args.port.now) c.args.core.now c.pin.new.core
    c.unpin.new.core
    c.in-Some.pin (some_pin g.F.Right.ReadRight.file c.args.core.now c.pin.new.core c.pin.result c.in-Some.pin c.in-Some.is c.pin.ensures)
    (c.unpin.ensures (g.F.Port.Port.store c.args.port.now))

pub returns-in-None-clause-hands : goal.returns-in-None-clause-hands
returns-in-None-clause-hands g c = no_pin g.F.Right.ReadRight.file c.args.core.now c.pin.new.core c.pin.result c.in-None.is c.pin.ensures
    (g.F.Port.Port.store c.args.port.now)
