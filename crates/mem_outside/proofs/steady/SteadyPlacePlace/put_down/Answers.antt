use Rattle.std.proofs.Common.{rules}
use Rattle.mem_outside.proofs.steady.SteadyPlacePlace.put_down.Goals as goal

pub returns-clause-asked : goal.returns-clause-asked
returns-clause-asked c = search rules

pub returns-clause-no_more : goal.returns-clause-no_more
returns-clause-no_more c = search rules
