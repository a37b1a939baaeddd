use Rattle.tsdb_history.proofs.Closed.{closed}
use Rattle.tsdb_history.proofs.closing.close.Goals as goal

pub returns-clause-closed : goal.returns-clause-closed
returns-clause-closed g c = λ none put at next serving. closed c.args.core c.close.ensures.kept c.close.ensures.rising
    c.close.ensures.counts put at next serving (g.J.Disk.state c.close.result) (g.J.Counted.faults c.close.result)
    (g.J.Disk.lawful c.close.result) c.close.ensures.log (g.F.Files.at_rest c.args.files.now)
    (g.F.Files.at_rest c.close.new.files) none c.close.ensures.at_rest

pub returns-clause-aside : goal.returns-clause-aside
returns-clause-aside g c = c.close.ensures.log.aside
