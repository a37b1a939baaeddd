use Rattle.tsdb_memory.proofs.Following.{deletion_follows}
use Rattle.tsdb_core.proofs.Seen.{delete_command}
use Rattle.tsdb_core.proofs.Worlds.{map_step, memory_seen, order_seen}
use Rattle.tsdb_log.specs.declared.record.LogRecord.TheVariants as item
use Rattle.tsdb_memory.specs.LogState.{memory_of}
use Rattle.tsdb_model.specs.declared.command.Command.TheVariants.{Delete}
use Rattle.tsdb_core.proofs.engine.Core.delete.Goals as goal

pub returns-clause-command : goal.returns-clause-command
returns-clause-command g c = delete_command c.args.self.now c.delete.new.self c.args.series.now c.args.range.now
    c.least_born-listed.result c.delete.result c.least_born-listed.ensures c.delete.ensures.command

pub returns-clause-map : goal.returns-clause-map
returns-clause-map g c =
    let old = c.args.self.now in
    let new = record old { logged = c.delete.new.self } in
    map_step old new (item.Delete c.args.series.now c.args.range.now) (Delete c.args.series.now c.args.range.now)
    c.delete.result (delete_command old c.delete.new.self c.args.series.now c.args.range.now c.least_born-listed.result
    c.delete.result c.least_born-listed.ensures c.delete.ensures.command)
    (λ outside state seen. deletion_follows outside.told (memory_of old.logged) state.store
    (memory_seen old outside state seen) (order_seen old outside state seen) c.args.series.now c.args.range.now
    c.delete.result c.delete.ensures.answer)

pub returns-clause-memory : goal.returns-clause-memory
returns-clause-memory g c = record {
  listed = c.least_born-listed.result;
  least = c.least_born-listed.ensures;
  memory = c.delete.ensures.memory;
}
