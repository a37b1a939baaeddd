use Rattle.core_tests.proofs.Ready.{take_out, take_ready}
use Rattle.core_tests.proofs.asking.take.Goals as goal

pub returns-clause-out : goal.returns-clause-out
returns-clause-out g c = take_out c.args.core.now c.take_flush.new.self c.take_flush.result c.take_flush.ensures.memory
    c.take_flush.ensures.taken

pub returns-clause-ready : goal.returns-clause-ready
returns-clause-ready g c = take_ready c.args.core.now c.take_flush.new.self c.take_flush.result
    c.take_flush.ensures.memory c.take_flush.ensures.taken
