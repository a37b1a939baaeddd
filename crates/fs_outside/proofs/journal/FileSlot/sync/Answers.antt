use Rattle.std.proofs.Common.{rules}
use Rattle.fs_outside.proofs.journal.FileSlot.sync.Goals as goal

pub returns-then-self-clause-failed : goal.returns-then-self-clause-failed
returns-then-self-clause-failed c = search rules
