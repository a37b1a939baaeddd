use Rattle.std.proofs.Common.{arith}
use Rattle.tsdb_history.proofs.Replies.{sure_cause}
use Rattle.tsdb_base.specs.Causes.{Rose}
use Rattle.tsdb_history.proofs.serving.query.Goals as goal

pub returns-clause-cause : goal.returns-clause-cause
returns-clause-cause g c = sure_cause (g.F.Port.Port.store c.args.port.now) c.args.core.now c.select.result
    (Rose (g.F.Port.Counted.faults c.args.port.now) (g.F.Port.Counted.faults c.select.new.port)) c.select.ensures.cause
    c.select.ensures.untold

pub returns-clause-answers : goal.returns-clause-answers
returns-clause-answers g c = c.select.ensures.answers

pub returns-clause-serves : goal.returns-clause-serves
returns-clause-serves g c =
    let faults = c.select.ensures.faults in
    let next = c.select.ensures.draws in
    record {
      keeps_all = c.select.ensures.keeps_all;
      stays = c.select.ensures.stays;
      draws = omega (arith, next);
      same_store = c.select.ensures.same_store;
      later = (omega (arith, faults), c.select.ensures.later);
    }
