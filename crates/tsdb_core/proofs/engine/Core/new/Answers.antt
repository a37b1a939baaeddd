use Rattle.std.proofs.Common.{false, refl}
use Rattle.tsdb_core.proofs.Opened.{opened_seen, quiet_jobs}
use Rattle.tsdb_core.proofs.engine.Core.new.Goals as goal

pub returns-clause-quiet : goal.returns-clause-quiet
returns-clause-quiet g c = λ above. quiet_jobs (record {
  alloc = c.args.alloc;
  logged = c.args.logged;
  files = c.args.files;
  limit = c.of.result;
  next_file = c.args.next_file.0;
  flushed_below = 0;
  sequence_claimed = false;
}) refl above

pub returns-clause-opened : goal.returns-clause-opened
returns-clause-opened g c = λ outside store above sound files told. opened_seen (record {
  alloc = c.args.alloc;
  logged = c.args.logged;
  files = c.args.files;
  limit = c.of.result;
  next_file = c.args.next_file.0;
  flushed_below = 0;
  sequence_claimed = false;
}) outside store c.args.next_file.0 refl refl above sound files told
