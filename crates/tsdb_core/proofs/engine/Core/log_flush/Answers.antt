use Rattle.std.proofs.Common.{rules}
use Rattle.tsdb_core.proofs.Commits.{appended, record_room}
use Rattle.tsdb_fileset.specs.Files.{listed_borns}
use Rattle.tsdb_core.proofs.engine.Core.log_flush.Goals as goal

pub append_flushed-requires-clause-room : goal.append_flushed-requires-clause-room
append_flushed-requires-clause-room g c = λ lifetimes lives. record_room c.args.self.now c.args.job.now c.requires

pub returns-in-Ok-clause-logged : goal.returns-in-Ok-clause-logged
returns-in-Ok-clause-logged g c = appended c.args.self.now c.append_flushed.new.self c.args.job.now c.least_with-listed.result
    c.number-sequence.result c.number.result c.append_flushed.result _ c.number-sequence.ensures c.number.ensures c.in-Ok.is
    (c.least_with-listed.ensures (listed_borns c.args.self.now.files) c.least_born.ensures) c.append_flushed.ensures

pub returns-in-Err-clause-logged : goal.returns-in-Err-clause-logged
returns-in-Err-clause-logged g c = (
  c.in-Err.field-0,
  appended c.args.self.now c.append_flushed.new.self c.args.job.now
      c.least_with-listed.result c.number-sequence.result c.number.result c.append_flushed.result _ c.number-sequence.ensures
      c.number.ensures c.in-Err.is
      (c.least_with-listed.ensures (listed_borns c.args.self.now.files) c.least_born.ensures) c.append_flushed.ensures,
)

pub returns-in-Ok-clause-answer : goal.returns-in-Ok-clause-answer
returns-in-Ok-clause-answer g c = search rules

pub returns-in-Err-clause-answer : goal.returns-in-Err-clause-answer
returns-in-Err-clause-answer g c = search rules
