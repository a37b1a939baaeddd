use Rattle.core_tests.proofs.Ready.{kept_ready}
use Rattle.core_tests.proofs.asking.ask.Goals as goal

pub returns-in-Create : goal.returns-in-Create
returns-in-Create g c = kept_ready c.args.core.now c.create.new.self c.create.ensures.command.kept

pub returns-in-Delete : goal.returns-in-Delete
returns-in-Delete g c = kept_ready c.args.core.now c.delete.new.self c.delete.ensures.command.kept

pub returns-in-Insert : goal.returns-in-Insert
returns-in-Insert g c = kept_ready c.args.core.now c.insert.new.self c.insert.ensures.kept
