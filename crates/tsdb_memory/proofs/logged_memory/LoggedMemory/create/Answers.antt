use Rattle.std.proofs.Common.{◌≡◌, None, arith, rules, subst, sym}
use Rattle.std.specs.Prelude.{◌<◌}
use Rattle.tsdb_base.specs.declared.answers.Answer.TheVariants as answer
use Rattle.tsdb_memory.proofs.LogLemmas.Answering.{create_answered}
use Rattle.tsdb_memory.specs.Answers.{IsCreateAnswer}
use Rattle.tsdb_memory.specs.Commands.{NeedsNothing, create_record}
use Rattle.tsdb_memory.proofs.LogLemmas.Changed.{room_itself}
use Rattle.tsdb_memory.proofs.LogLemmas.Steps.{refuses}
use Rattle.tsdb_memory.specs.Changes.{HasCreated, MemoryAfter}
use Rattle.tsdb_memory.specs.Commands.{HasCommandEffect}
use Rattle.tsdb_memory.specs.LogState.{memory_of}
use Rattle.tsdb_memory.specs.StateOfMemory.{number_of}
use Rattle.tsdb_base.specs.Limits.{end_of_numbers}
use Rattle.tsdb_memory.proofs.logged_memory.LoggedMemory.create.Goals as goal

pub returns-clause-command : goal.returns-clause-command
returns-clause-command g c = subst (HasCommandEffect c.args.self.now c.write_create.new.self (create_record c.args.schema.now) NeedsNothing)
    (sym c.answer_of.ensures) c.write_create.ensures.command

pub returns-clause-answer : goal.returns-clause-answer
returns-clause-answer g c =
    let stamp : (memory_of c.args.self.now).stamp < end_of_numbers = omega (arith, c.stamp-counter.ensures.value, c.stamp-counter.ensures.end, c.if-counter.false) in
    let free : number_of (memory_of c.args.self.now).series c.args.schema.now.path ≡ None = search rules in
    subst (IsCreateAnswer (memory_of c.args.self.now) c.args.schema.now.path) (sym c.answer_of.ensures)
    (create_answered (memory_of c.args.self.now) c.args.schema.now.path c.write_create.result free stamp)

pub returns-then-is_some-clause-command : goal.returns-then-is_some-clause-command
returns-then-is_some-clause-command g c = refuses c.args.self.now (create_record c.args.schema.now) NeedsNothing answer.Exists tt

pub returns-then-counter-clause-command : goal.returns-then-counter-clause-command
returns-then-counter-clause-command g c = refuses c.args.self.now (create_record c.args.schema.now) NeedsNothing (answer.Full c.stamp-counter.result) tt

pub returns-clause-memory : goal.returns-clause-memory
returns-clause-memory g c = subst (MemoryAfter (HasCreated c.args.schema.now) (memory_of c.args.self.now)
    (memory_of c.write_create.new.self)) (sym c.answer_of.ensures) c.write_create.ensures.memory

pub returns-then-is_some-clause-memory : goal.returns-then-is_some-clause-memory
returns-then-is_some-clause-memory g c = room_itself (memory_of c.args.self.now)

pub returns-then-counter-clause-memory : goal.returns-then-counter-clause-memory
returns-then-counter-clause-memory g c = room_itself (memory_of c.args.self.now)
