use Rattle.tsdb_querying.specs.Out.{nothing_out}
use Rattle.use_core.proofs.writing.write.Goals as goal

pub returns-in_err-done-clause-ready : goal.returns-in_err-done-clause-ready
returns-in_err-done-clause-ready g c = c.create.ensures.keeps_all (g.F.Port.Port.store c.args.port.now) nothing_out
    c.requires.ready

pub put-requires-clause-ready : goal.put-requires-clause-ready
put-requires-clause-ready g c κs within = c.create.ensures.keeps_all (g.F.Port.Port.store c.args.port.now) nothing_out
    c.requires.ready
