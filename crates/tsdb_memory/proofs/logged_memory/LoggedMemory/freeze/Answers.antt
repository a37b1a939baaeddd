use Rattle.std.proofs.Common.{◌∙◌, subst, sym}
use Rattle.tsdb_memory.proofs.LogLemmas.Answering.{freeze_answered}
use Rattle.tsdb_memory.specs.Answers.{IsFreezeAnswer}
use Rattle.tsdb_memory.specs.Changes.{HasFrozen, MemoryAfter}
use Rattle.tsdb_memory.specs.LogState.{memory_of}
use Rattle.tsdb_memory.proofs.logged_memory.LoggedMemory.freeze.Goals as goal

pub returns-clause-answer : goal.returns-clause-answer
returns-clause-answer g c = subst IsFreezeAnswer (sym c.answer_of.ensures) (freeze_answered c.write_freeze.result)

pub returns-clause-memory : goal.returns-clause-memory
returns-clause-memory g c = subst (MemoryAfter HasFrozen (memory_of c.args.self.now) (memory_of c.write_freeze.new.self))
    (sym c.answer_of.ensures) c.write_freeze.ensures.memory
