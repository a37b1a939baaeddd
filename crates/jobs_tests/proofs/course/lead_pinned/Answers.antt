use Rattle.jobs_tests.proofs.Out.{no_pin, pinned_has, pins_and_unpins, some_pin}
use Rattle.jobs_tests.proofs.course.lead_pinned.Goals as goal

pub under_pin-requires-after_bounds : goal.under_pin-requires-after_bounds
under_pin-requires-after_bounds g c κs within = pinned_has g.F.Right.ReadRight.file (g.F.Port.Port.store c.args.port.now) c.args.core.now
    c.pin.new.core c.in-Some.pin
    (some_pin g.F.Right.ReadRight.file c.args.core.now c.pin.new.core c.pin.result c.in-Some.pin c.in-Some.is c.pin.ensures) c.requires

pub returns-in-Some-clause-hands : goal.returns-in-Some-clause-hands
returns-in-Some-clause-hands g c = pins_and_unpins g.F.Right.ReadRight.file (g.F.Port.Port.store c.args.port.now) c.args.core.now c.pin.new.core
    c.under_pin.new.core
    c.in-Some.pin (some_pin g.F.Right.ReadRight.file c.args.core.now c.pin.new.core c.pin.result c.in-Some.pin c.in-Some.is c.pin.ensures)
    c.under_pin.ensures.gives

pub returns-in-None-clause-hands : goal.returns-in-None-clause-hands
returns-in-None-clause-hands g c = no_pin g.F.Right.ReadRight.file c.args.core.now c.pin.new.core c.pin.result c.in-None.is c.pin.ensures
    (g.F.Port.Port.store c.args.port.now)
