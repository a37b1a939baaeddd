use Rattle.std.proofs.Common.{refl}
use Rattle.tsdb_memory.proofs.Following.{creation_follows}
use Rattle.tsdb_core.proofs.Seen.{core_command}
use Rattle.tsdb_core.proofs.Worlds.{map_step, memory_seen, order_seen}
use Rattle.tsdb_memory.specs.Commands.{NeedsNothing, create_record}
use Rattle.tsdb_memory.specs.LogState.{memory_of}
use Rattle.tsdb_model.specs.declared.command.Command.TheVariants.{Create}
use Rattle.tsdb_core.proofs.engine.Core.create.Goals as goal

pub returns-clause-command : goal.returns-clause-command
returns-clause-command g c = core_command c.args.self.now c.create.new.self (create_record c.args.schema.now) NeedsNothing NeedsNothing
    c.create.result (record { sequence = λ store. refl; unsequence = λ store. refl }) (λ outside state seen needs. tt)
    c.create.ensures.command

pub returns-clause-map : goal.returns-clause-map
returns-clause-map g c =
    let old = c.args.self.now in
    let new = record old { logged = c.create.new.self } in
    let step = core_command old c.create.new.self (create_record c.args.schema.now) NeedsNothing NeedsNothing c.create.result
    (record { sequence = λ store. refl; unsequence = λ store. refl }) (λ outside state seen needs. tt)
    c.create.ensures.command in
    map_step old new (create_record c.args.schema.now) (Create c.args.schema.now) c.create.result step
    (λ outside state seen. creation_follows outside.told (memory_of old.logged) state.store
    (memory_seen old outside state seen) (order_seen old outside state seen) c.args.schema.now c.create.result c.requires
    c.create.ensures.answer)

pub returns-clause-memory : goal.returns-clause-memory
returns-clause-memory g c = c.create.ensures.memory
