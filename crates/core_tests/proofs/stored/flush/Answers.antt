use Rattle.std.proofs.Common.{[], ◌∷◌, Ok, ap, ◌∙◌}
use Rattle.core_tests.proofs.Ready.{first_of, is_out, of_new_port, with_job, without_at_fault, without_job}
use Rattle.core_tests.proofs.stored.flush.Goals as goal

pub run-requires-clause-is_job : goal.run-requires-clause-is_job
run-requires-clause-is_job g c = λ lifetimes lives. (is_out c.take.new.core c.take.result c.in-Ok-Some.job
    (c.in-Ok-Some.is ∙ ap Ok c.in-Ok-Some.field-0-is)
    (c.take.ensures.out (g.F.Port.Port.store c.args.port.now) [] c.requires.ready)).0

pub run-requires-clause-out : goal.run-requires-clause-out
run-requires-clause-out g c = λ lifetimes lives. (is_out c.take.new.core c.take.result c.in-Ok-Some.job
    (c.in-Ok-Some.is ∙ ap Ok c.in-Ok-Some.field-0-is)
    (c.take.ensures.out (g.F.Port.Port.store c.args.port.now) [] c.requires.ready)).1

pub run-requires-clause-port : goal.run-requires-clause-port
run-requires-clause-port g c = λ lifetimes lives. (with_job c.take.new.core c.take.result c.in-Ok-Some.job
    (c.in-Ok-Some.is ∙ ap Ok c.in-Ok-Some.field-0-is) (g.F.Port.Port.store c.args.port.now) []
    (c.take.ensures.ready (g.F.Port.Port.store c.args.port.now) [] c.requires.ready)).of_store

pub returns-in-Ok-Some-clause-ready : goal.returns-in-Ok-Some-clause-ready
returns-in-Ok-Some-clause-ready g c = of_new_port c.run.new.core (g.F.Port.Port.store c.args.port.now)
    (g.F.Port.Port.store c.run.new.port) [] c.run.ensures.same_store
    (c.run.ensures.ready [] (c.in-Ok-Some.job ∷ []) (first_of c.in-Ok-Some.job [])
    (with_job c.take.new.core c.take.result c.in-Ok-Some.job (c.in-Ok-Some.is ∙ ap Ok c.in-Ok-Some.field-0-is)
    (g.F.Port.Port.store c.args.port.now) []
    (c.take.ensures.ready (g.F.Port.Port.store c.args.port.now) [] c.requires.ready)))

pub returns-in-Ok-None-clause-ready : goal.returns-in-Ok-None-clause-ready
returns-in-Ok-None-clause-ready g c = without_job c.take.new.core (g.F.Port.Port.store c.args.port.now) [] c.take.result
    (c.in-Ok-None.is ∙ ap Ok c.in-Ok-None.field-0-is)
    (c.take.ensures.ready (g.F.Port.Port.store c.args.port.now) [] c.requires.ready)

pub returns-in-Err-clause-ready : goal.returns-in-Err-clause-ready
returns-in-Err-clause-ready g c = without_at_fault c.take.new.core (g.F.Port.Port.store c.args.port.now) [] c.take.result
    c.in-Err.fault c.in-Err.is (c.take.ensures.ready (g.F.Port.Port.store c.args.port.now) [] c.requires.ready)
