use denote.Param.Send.{sendable}
use Rattle.tsdb_core.proofs.Crossing.{core_send}
use Rattle.tsdb_core.proofs.laws.a_core_crosses.Goals as goal
use Rattle.tsdb_fileset.proofs.FlushCrossing.{built_send, flush_send, flushed_send}
use Rattle.tsdb_tasks.proofs.JobCrossing.{job_send}
use Rattle.tsdb_tasks.proofs.PinCrossing.{pin_send}

pub crosses-requires-send-T : goal.crosses-requires-send-T
crosses-requires-send-T g c = search (sendable, core_send) depth 40

pub crosses-requires-2 : goal.crosses-requires-2
crosses-requires-2 g c = search (sendable, flush_send) depth 40

pub crosses-requires-3 : goal.crosses-requires-3
crosses-requires-3 g c = search (sendable, flushed_send) depth 40

pub crosses-requires-4 : goal.crosses-requires-4
crosses-requires-4 g c = search (sendable, built_send) depth 40

pub crosses-requires-5 : goal.crosses-requires-5
crosses-requires-5 g c = search (sendable, job_send) depth 40

pub crosses-requires-6 : goal.crosses-requires-6
crosses-requires-6 g c = search (sendable, pin_send) depth 40
