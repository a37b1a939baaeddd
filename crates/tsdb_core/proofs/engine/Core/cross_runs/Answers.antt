use Rattle.tsdb_core.proofs.BeginningsExits.{no_cross}
use Rattle.tsdb_core.proofs.engine.Core.cross_runs.Goals as goal

pub returns-in-None-clause-none : goal.returns-in-None-clause-none
returns-in-None-clause-none g c = no_cross c.args.self.now c.entries.result.now c.entries-2.result.now
    c.entries.ensures.entries c.entries-2.ensures.entries c.in-None.ensures.none
