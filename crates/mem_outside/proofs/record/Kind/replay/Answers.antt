use Rattle.std.proofs.Common.{rules}
use Rattle.mem_outside.proofs.record.Kind.replay.Goals as goal

pub returns-in_ok-left-in-Sync : goal.returns-in_ok-left-in-Sync
returns-in_ok-left-in-Sync c = search rules
