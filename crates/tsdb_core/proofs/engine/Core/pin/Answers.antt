use Rattle.tsdb_core.proofs.PinSteps.{either_world, not_if, pinned_if}
use Rattle.tsdb_core.proofs.engine.Core.pin.Goals as goal

pub returns-clause-taken : goal.returns-clause-taken
returns-clause-taken g c = pinned_if g.F.Right.ReadRight.file c.args.self.now c.take_pin.new.files c.memory.result.now
    c.memory.ensures c.take_pin.result c.take_pin.ensures.rights c.take_pin.ensures.state

pub returns-clause-not : goal.returns-clause-not
returns-clause-not g c = not_if g.F.Right.ReadRight.file c.args.self.now c.take_pin.new.files c.memory.result.now
    c.memory.ensures c.take_pin.result c.take_pin.ensures.rights

pub returns-clause-world : goal.returns-clause-world
returns-clause-world g c = either_world g.F.Right.ReadRight.file c.args.self.now c.take_pin.new.files
    c.memory.result.now c.memory.ensures c.take_pin.result c.take_pin.ensures.rights c.take_pin.ensures.state
