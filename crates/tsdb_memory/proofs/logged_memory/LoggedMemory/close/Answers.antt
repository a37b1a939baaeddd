use Rattle.tsdb_memory.proofs.LogLemmas.Closing.{closed}
use Rattle.tsdb_memory.proofs.logged_memory.LoggedMemory.close.Goals as goal

pub returns : goal.returns
returns g c = closed c.args.self c.settle.new.self c.end.result c.settle.result c.settle.ensures.settled
    c.settle.ensures.failed c.settle.ensures.moments c.settle.ensures.slot c.settle.ensures.cause c.end.ensures.journal c.end.ensures.settled
