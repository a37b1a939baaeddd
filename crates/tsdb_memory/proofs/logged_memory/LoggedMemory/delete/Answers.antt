use Rattle.std.proofs.Common.{arith, rules, subst, sym}
use Rattle.std.specs.Prelude.{◌<◌, IsSome}
use Rattle.tsdb_base.specs.declared.answers.Answer.TheVariants as answer
use Rattle.tsdb_log.specs.declared.record.LogRecord.TheVariants.{Delete}
use Rattle.tsdb_memory.proofs.LogLemmas.Answering.{delete_answered}
use Rattle.tsdb_memory.specs.Answers.{IsDeleteAnswer}
use Rattle.tsdb_memory.specs.Commands.{HasLeast}
use Rattle.tsdb_memory.proofs.LogLemmas.Changed.{room_itself}
use Rattle.tsdb_memory.proofs.LogLemmas.Steps.{refuses}
use Rattle.tsdb_memory.specs.Changes.{HasDeleted, MemoryAfter}
use Rattle.tsdb_memory.specs.Commands.{HasCommandEffect}
use Rattle.tsdb_memory.specs.LogState.{memory_of}
use Rattle.tsdb_memory.specs.StateOfMemory.{number_of}
use Rattle.tsdb_base.specs.Limits.{end_of_numbers}
use Rattle.tsdb_memory.proofs.logged_memory.LoggedMemory.delete.Goals as goal

pub returns-clause-command : goal.returns-clause-command
returns-clause-command g c = subst (HasCommandEffect c.args.self.now c.write_delete.new.self (Delete c.args.series.now c.args.range.now) (HasLeast c.args.listed))
    (sym c.answer_of.ensures) c.write_delete.ensures.command

pub returns-clause-answer : goal.returns-clause-answer
returns-clause-answer g c =
    let stamp : (memory_of c.args.self.now).stamp < end_of_numbers = omega (arith, c.stamp-counter.ensures.value, c.stamp-counter.ensures.end, c.if-counter.false) in
    let there : IsSome (number_of (memory_of c.args.self.now).series c.args.series.now) = search rules in
    subst (IsDeleteAnswer (memory_of c.args.self.now) c.args.series.now) (sym c.answer_of.ensures)
    (delete_answered (memory_of c.args.self.now) c.args.series.now c.write_delete.result there stamp)

pub returns-then-is_none-clause-command : goal.returns-then-is_none-clause-command
returns-then-is_none-clause-command g c = refuses c.args.self.now (Delete c.args.series.now c.args.range.now) (HasLeast c.args.listed) answer.NoPath tt

pub returns-then-counter-clause-command : goal.returns-then-counter-clause-command
returns-then-counter-clause-command g c = refuses c.args.self.now (Delete c.args.series.now c.args.range.now) (HasLeast c.args.listed) (answer.Full c.stamp-counter.result) tt

pub returns-clause-memory : goal.returns-clause-memory
returns-clause-memory g c = subst (MemoryAfter (HasDeleted c.args.series.now c.args.range.now c.args.listed) (memory_of c.args.self.now)
    (memory_of c.write_delete.new.self)) (sym c.answer_of.ensures) c.write_delete.ensures.memory

pub returns-then-is_none-clause-memory : goal.returns-then-is_none-clause-memory
returns-then-is_none-clause-memory g c = room_itself (memory_of c.args.self.now)

pub returns-then-counter-clause-memory : goal.returns-then-counter-clause-memory
returns-then-counter-clause-memory g c = room_itself (memory_of c.args.self.now)
