use Rattle.std.proofs.Common.{◌≡◌, ℤ, arith, of_z, rules, subst, sym, to_z}
use Rattle.std.proofs.lemmas.Int.{to_z-of_z}
use Rattle.std.specs.Int.{w64}
use Rattle.std.specs.Prelude.{◌<◌}
use Rattle.tsdb_base.specs.declared.answers.Answer.TheVariants as answer
use Rattle.tsdb_log.specs.declared.record.LogRecord.TheVariants.{Insert}
use Rattle.tsdb_memory.proofs.LogLemmas.Answering.{insert_answered}
use Rattle.tsdb_memory.specs.Answers.{IsAccepted, answer_by}
use Rattle.tsdb_memory.specs.Commands.{CanPut}
use Rattle.tsdb_memory.proofs.LogLemmas.Changed.{room_itself}
use Rattle.tsdb_memory.proofs.LogLemmas.Steps.{refuses}
use Rattle.tsdb_memory.specs.Changes.{HasInserted, MemoryAfter}
use Rattle.tsdb_memory.specs.Commands.{HasCommandEffect}
use Rattle.tsdb_memory.specs.LogState.{memory_of}
use Rattle.tsdb_base.specs.Limits.{end_of_numbers}
use Rattle.tsdb_memory.proofs.logged_memory.LoggedMemory.insert.Goals as goal

pub returns-clause-command : goal.returns-clause-command
returns-clause-command g c =
    let time : to_z w64 (of_z w64 c.args.time) ≡ c.args.time = to_z-of_z w64 c.args.time (search rules) in
    subst (HasCommandEffect c.args.self.now c.write_insert.new.self (Insert c.args.time c.args.cells)
    (CanPut c.args.time c.args.cells)) (sym c.answer_of.ensures)
    (subst (λ (t : ℤ). HasCommandEffect c.args.self.now c.write_insert.new.self (Insert t c.args.cells) (CanPut t c.args.cells)
    (answer_by c.write_insert.result)) time c.write_insert.ensures.command)

pub returns-clause-answer : goal.returns-clause-answer
returns-clause-answer g c =
    let stamp : (memory_of c.args.self.now).stamp < end_of_numbers = omega (arith, c.stamp-counter.ensures.value, c.stamp-counter.ensures.end, c.if-counter.false) in
    subst (IsAccepted (memory_of c.args.self.now).stamp) (sym c.answer_of.ensures)
    (insert_answered (memory_of c.args.self.now).stamp c.write_insert.result stamp)

pub returns-then-counter-clause-command : goal.returns-then-counter-clause-command
returns-then-counter-clause-command g c = refuses c.args.self.now (Insert c.args.time c.args.cells) (CanPut c.args.time c.args.cells) (answer.Full c.stamp-counter.result) tt

pub returns-clause-memory : goal.returns-clause-memory
returns-clause-memory g c =
    let time : to_z w64 (of_z w64 c.args.time) ≡ c.args.time = to_z-of_z w64 c.args.time (search rules) in
    subst (MemoryAfter (HasInserted c.args.device.now c.args.time c.args.cells) (memory_of c.args.self.now)
    (memory_of c.write_insert.new.self)) (sym c.answer_of.ensures)
    (subst (λ (t : ℤ). MemoryAfter (HasInserted c.args.device.now t c.args.cells) (memory_of c.args.self.now)
    (memory_of c.write_insert.new.self) (answer_by c.write_insert.result)) time c.write_insert.ensures.memory)

pub returns-then-counter-clause-memory : goal.returns-then-counter-clause-memory
returns-then-counter-clause-memory g c = room_itself (memory_of c.args.self.now)
