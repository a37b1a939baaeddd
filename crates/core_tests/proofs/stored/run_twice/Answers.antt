use Rattle.std.proofs.Common.{[], ◌∷◌, Ok, ap, ◌∙◌}
use Rattle.core_tests.proofs.Ready.{first_of, is_out, of_new_port, out_of, second_of, with_job, without_at_fault}
use Rattle.core_tests.proofs.Ready.{without_job}
use Rattle.core_tests.proofs.stored.run_twice.Goals as goal

pub run-first-requires-clause-out : goal.run-first-requires-clause-out
run-first-requires-clause-out g c = λ lifetimes lives. out_of (g.F.Port.Port.store c.args.port.now) c.take.new.core c.args.first
    (c.in-Ok-Some.second ∷ []) (c.in-Ok-Some.second ∷ c.args.first ∷ []) (second_of c.in-Ok-Some.second c.args.first)
    (with_job c.take.new.core c.take.result c.in-Ok-Some.second (c.in-Ok-Some.is ∙ ap Ok c.in-Ok-Some.field-0-is)
    (g.F.Port.Port.store c.args.port.now) (c.args.first ∷ [])
    (c.take.ensures.ready (g.F.Port.Port.store c.args.port.now) (c.args.first ∷ []) c.requires.ready))

pub run-first-requires-clause-port : goal.run-first-requires-clause-port
run-first-requires-clause-port g c = λ lifetimes lives. (with_job c.take.new.core c.take.result c.in-Ok-Some.second
    (c.in-Ok-Some.is ∙ ap Ok c.in-Ok-Some.field-0-is)
    (g.F.Port.Port.store c.args.port.now) (c.args.first ∷ [])
    (c.take.ensures.ready (g.F.Port.Port.store c.args.port.now) (c.args.first ∷ []) c.requires.ready)).of_store

pub run-second-requires-clause-is_job : goal.run-second-requires-clause-is_job
run-second-requires-clause-is_job g c = λ lifetimes lives. (is_out c.take.new.core c.take.result c.in-Ok-Some.second (c.in-Ok-Some.is ∙ ap Ok c.in-Ok-Some.field-0-is)
    (c.take.ensures.out (g.F.Port.Port.store c.args.port.now) (c.args.first ∷ []) c.requires.ready)).0

pub run-second-requires-clause-out : goal.run-second-requires-clause-out
run-second-requires-clause-out g c = λ lifetimes lives. out_of (g.F.Port.Port.store c.args.port.now) c.run-first.new.core c.in-Ok-Some.second [] (c.in-Ok-Some.second ∷ [])
    (first_of c.in-Ok-Some.second [])
    (c.run-first.ensures.ready (c.in-Ok-Some.second ∷ []) (c.in-Ok-Some.second ∷ c.args.first ∷ [])
    (second_of c.in-Ok-Some.second c.args.first) (with_job c.take.new.core c.take.result c.in-Ok-Some.second
    (c.in-Ok-Some.is ∙ ap Ok c.in-Ok-Some.field-0-is)
    (g.F.Port.Port.store c.args.port.now) (c.args.first ∷ [])
    (c.take.ensures.ready (g.F.Port.Port.store c.args.port.now) (c.args.first ∷ []) c.requires.ready)))

pub run-second-requires-clause-port : goal.run-second-requires-clause-port
run-second-requires-clause-port g c = λ lifetimes lives. c.run-first.ensures.same_store
    ∙ (c.run-first.ensures.ready (c.in-Ok-Some.second ∷ []) (c.in-Ok-Some.second ∷ c.args.first ∷ [])
    (second_of c.in-Ok-Some.second c.args.first) (with_job c.take.new.core c.take.result c.in-Ok-Some.second
    (c.in-Ok-Some.is ∙ ap Ok c.in-Ok-Some.field-0-is)
    (g.F.Port.Port.store c.args.port.now) (c.args.first ∷ [])
    (c.take.ensures.ready (g.F.Port.Port.store c.args.port.now) (c.args.first ∷ []) c.requires.ready))).of_store

pub returns-in-Ok-Some-clause-ready : goal.returns-in-Ok-Some-clause-ready
returns-in-Ok-Some-clause-ready g c = of_new_port c.run-second.new.core (g.F.Port.Port.store c.run-first.new.port)
    (g.F.Port.Port.store c.run-second.new.port) [] c.run-second.ensures.same_store
    (c.run-second.ensures.ready [] (c.in-Ok-Some.second ∷ []) (first_of c.in-Ok-Some.second [])
    (of_new_port c.run-first.new.core (g.F.Port.Port.store c.args.port.now)
    (g.F.Port.Port.store c.run-first.new.port) (c.in-Ok-Some.second ∷ []) c.run-first.ensures.same_store
    (c.run-first.ensures.ready (c.in-Ok-Some.second ∷ []) (c.in-Ok-Some.second ∷ c.args.first ∷ [])
    (second_of c.in-Ok-Some.second c.args.first) (with_job c.take.new.core c.take.result c.in-Ok-Some.second
    (c.in-Ok-Some.is ∙ ap Ok c.in-Ok-Some.field-0-is)
    (g.F.Port.Port.store c.args.port.now) (c.args.first ∷ [])
    (c.take.ensures.ready (g.F.Port.Port.store c.args.port.now) (c.args.first ∷ []) c.requires.ready)))))

pub run-requires-clause-out : goal.run-requires-clause-out
run-requires-clause-out g c = λ lifetimes lives. out_of (g.F.Port.Port.store c.args.port.now) c.take.new.core c.args.first [] (c.args.first ∷ [])
    (first_of c.args.first [])
    (without_job c.take.new.core (g.F.Port.Port.store c.args.port.now) (c.args.first ∷ []) c.take.result
    (c.in-Ok-None.is ∙ ap Ok c.in-Ok-None.field-0-is)
    (c.take.ensures.ready (g.F.Port.Port.store c.args.port.now) (c.args.first ∷ []) c.requires.ready))

pub run-requires-clause-port : goal.run-requires-clause-port
run-requires-clause-port g c = λ lifetimes lives.
    (without_job c.take.new.core (g.F.Port.Port.store c.args.port.now) (c.args.first ∷ []) c.take.result
    (c.in-Ok-None.is ∙ ap Ok c.in-Ok-None.field-0-is)
    (c.take.ensures.ready (g.F.Port.Port.store c.args.port.now) (c.args.first ∷ []) c.requires.ready)).of_store

pub returns-in-Ok-None-clause-ready : goal.returns-in-Ok-None-clause-ready
returns-in-Ok-None-clause-ready g c = of_new_port c.run.new.core (g.F.Port.Port.store c.args.port.now)
    (g.F.Port.Port.store c.run.new.port) [] c.run.ensures.same_store
    (c.run.ensures.ready [] (c.args.first ∷ []) (first_of c.args.first [])
    (without_job c.take.new.core (g.F.Port.Port.store c.args.port.now) (c.args.first ∷ []) c.take.result
    (c.in-Ok-None.is ∙ ap Ok c.in-Ok-None.field-0-is)
    (c.take.ensures.ready (g.F.Port.Port.store c.args.port.now) (c.args.first ∷ []) c.requires.ready)))

pub run-requires-in-Err-clause-out : goal.run-requires-in-Err-clause-out
run-requires-in-Err-clause-out g c = λ lifetimes lives. out_of (g.F.Port.Port.store c.args.port.now) c.take.new.core c.args.first [] (c.args.first ∷ [])
    (first_of c.args.first [])
    (without_at_fault c.take.new.core (g.F.Port.Port.store c.args.port.now) (c.args.first ∷ []) c.take.result
    c.in-Err.fault c.in-Err.is
    (c.take.ensures.ready (g.F.Port.Port.store c.args.port.now) (c.args.first ∷ []) c.requires.ready))

pub run-requires-in-Err-clause-port : goal.run-requires-in-Err-clause-port
run-requires-in-Err-clause-port g c = λ lifetimes lives.
    (without_at_fault c.take.new.core (g.F.Port.Port.store c.args.port.now) (c.args.first ∷ []) c.take.result
    c.in-Err.fault c.in-Err.is
    (c.take.ensures.ready (g.F.Port.Port.store c.args.port.now) (c.args.first ∷ []) c.requires.ready)).of_store

pub returns-in-Err-clause-ready : goal.returns-in-Err-clause-ready
returns-in-Err-clause-ready g c = of_new_port c.run-in-Err.new.core (g.F.Port.Port.store c.args.port.now)
    (g.F.Port.Port.store c.run-in-Err.new.port) [] c.run-in-Err.ensures.same_store
    (c.run-in-Err.ensures.ready [] (c.args.first ∷ []) (first_of c.args.first [])
    (without_at_fault c.take.new.core (g.F.Port.Port.store c.args.port.now) (c.args.first ∷ []) c.take.result
    c.in-Err.fault c.in-Err.is
    (c.take.ensures.ready (g.F.Port.Port.store c.args.port.now) (c.args.first ∷ []) c.requires.ready)))
