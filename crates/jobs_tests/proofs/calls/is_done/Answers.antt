use Rattle.jobs_tests.proofs.Out.{same_core}
use Rattle.tsdb_core.proofs.Out.{files_handed}
use Rattle.jobs_tests.proofs.calls.is_done.Goals as goal

pub returns-in-Create : goal.returns-in-Create
returns-in-Create g c = files_handed c.args.core.now c.create.new.self c.create.ensures.command.kept

pub returns-in-Delete : goal.returns-in-Delete
returns-in-Delete g c = files_handed c.args.core.now c.delete.new.self c.delete.ensures.command.kept

pub returns-in-Insert : goal.returns-in-Insert
returns-in-Insert g c = files_handed c.args.core.now c.insert.new.self c.insert.ensures.kept

pub returns-in_default : goal.returns-in_default
returns-in_default g c store = same_core store c.args.core.now
