use Rattle.std.proofs.Common.{◌∙◌}
use Rattle.jobs_tests.proofs.Out.{columns_in_store, kept_under, pin_still, then_gives}
use Rattle.jobs_tests.proofs.course.under_pin.Goals as goal

pub take_course-taken-requires-after_bounds : goal.take_course-taken-requires-after_bounds
take_course-taken-requires-after_bounds g c κs within = kept_under g.F.Right.ReadRight.file (g.F.Port.Port.store c.args.port.now) c.args.core.now
    c.args.pin c.requires

pub read-rows-requires-clause-nodes : goal.read-rows-requires-clause-nodes
read-rows-requires-clause-nodes g c = λ lifetimes lives. c.requires.0

pub read-rows-requires-clause-of_store : goal.read-rows-requires-clause-of_store
read-rows-requires-clause-of_store g c = λ lifetimes lives. columns_in_store g.F.Right.ReadRight.file
    (g.F.Port.Port.store c.take_course-taken.new.port)
    c.take_course-taken.new.core c.args.pin
    (pin_still g.F.Right.ReadRight.file (g.F.Port.Port.store c.args.port.now) (g.F.Port.Port.store c.take_course-taken.new.port) c.args.core.now
    c.take_course-taken.new.core c.args.pin
    c.take_course-taken.ensures.same_store c.requires c.take_course-taken.ensures.hands) c.sound.ensures.of_store

pub unpin-requires-after_bounds : goal.unpin-requires-after_bounds
unpin-requires-after_bounds g c κs within = (
  (g.F.Port.Port.store c.take_course-taken.new.port),
  (pin_still g.F.Right.ReadRight.file (g.F.Port.Port.store c.args.port.now) (g.F.Port.Port.store c.take_course-taken.new.port) c.args.core.now
      c.take_course-taken.new.core c.args.pin
      c.take_course-taken.ensures.same_store c.requires c.take_course-taken.ensures.hands),
)

pub returns-clause-gives : goal.returns-clause-gives
returns-clause-gives g c = then_gives g.F.Right.ReadRight.file (g.F.Port.Port.store c.args.port.now) c.args.core.now c.take_course-taken.new.core
    c.unpin.new.core c.args.pin
    c.take_course-taken.ensures.hands (c.unpin.ensures (g.F.Port.Port.store c.args.port.now))

pub returns-clause-same_store : goal.returns-clause-same_store
returns-clause-same_store g c = c.read-rows.ensures ∙ c.take_course-taken.ensures.same_store
