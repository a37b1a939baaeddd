-- A flush that is out may cross threads, and so may its files where a token may.
use denote.RattleType.{RattleType}
use denote.Param.Send.{IsSend, sendable}
use Rattle.std.proofs.Crossing.{crosses}
use Rattle.tsdb_flush.specs.contracts.job.Built as built
use Rattle.tsdb_flush.specs.contracts.job.FlushJob as flush
use Rattle.tsdb_flush.specs.contracts.job.Flushed as flushed
use Rattle.tsdb_memtable.proofs.Crossing.{pair_send, pair_sync}

pub flush_send : IsSend flush.the_row
flush_send = search (sendable, crosses, pair_send, pair_sync) depth 40

module _ (F S R P : RattleType) (f : IsSend F) (s : IsSend S) (r : IsSend R) (p : IsSend P) where
  pub built_send : IsSend (built.the_row F S R P)
  built_send = search (sendable, crosses) depth 40

  pub flushed_send : IsSend (flushed.the_row F S R P)
  flushed_send = search (sendable, crosses, built_send) depth 40
