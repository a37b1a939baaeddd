use Rattle.std.proofs.Common.{rules}
use Rattle.tsfile_writer.proofs.Waiting.{begins_by}
use Rattle.tsfile_writer.proofs.builder.begins_group.Goals as goal

pub returns-in-Some : goal.returns-in-Some
returns-in-Some c = begins_by c.args.entries.now c.in-Some.entry.now c.args.device.now c.covers.result (search rules) (search rules) c.covers.ensures
