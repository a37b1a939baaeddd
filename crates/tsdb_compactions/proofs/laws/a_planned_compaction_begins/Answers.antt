use Rattle.tsdb_compactions.proofs.Planned.{planned_begins}
use Rattle.tsdb_compactions.proofs.laws.a_planned_compaction_begins.Goals as goal

pub returns : goal.returns
returns c told known named engine claimed job order claims planned moment =
    planned_begins told known named engine claimed job order claims planned moment
