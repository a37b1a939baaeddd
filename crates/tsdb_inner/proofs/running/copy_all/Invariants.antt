use Rattle.std.proofs.Common.{◌≡◌, ◌≤◌, take}
use Rattle.tsdb_inner.proofs.All.{HasCopied}
use Rattle.tsdb_inner.proofs.running.copy_all.Given as goal

abbrev pub invariant-loop-schema : goal.invariant-loop-schema
invariant-loop-schema g l = HasCopied g.F.Right.ReadRight.file l.job (take l.schema-index l.job.schemas) l.part
    × (g.F.Port.Counted.faults l.fn.port ≤ g.F.Port.Counted.faults l.port)
    × (g.F.Port.Port.store l.port ≡ g.F.Port.Port.store l.fn.port)
