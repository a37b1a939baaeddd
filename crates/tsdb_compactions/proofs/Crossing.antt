-- A compaction that is out may cross threads where a right to read may.
use denote.RattleType.{RattleType}
use denote.Param.Send.{IsSend, sendable}
use Rattle.std.proofs.Crossing.{crosses}
use Rattle.tsdb_compactions.specs.contracts.job.Job as job
use Rattle.tsdb_marks.proofs.Crossing.{marks_send}

pub job_send : (F S R P : RattleType) → IsSend F → IsSend S → IsSend R → IsSend P → IsSend (job.the_row F S R P)
job_send F S R P f s r p = search (sendable, crosses, marks_send) depth 40 fits 20000
