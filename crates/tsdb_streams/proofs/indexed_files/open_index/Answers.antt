use Rattle.tsdb_streams.proofs.IndexedFacts.{index_of, undamaged_whole}
use Rattle.tsdb_streams.proofs.Reasons.{reason_ok, reason_of}
use Rattle.tsdb_index.specs.declared.index.FileMeta.{FileMeta}
use Rattle.tsdb_streams.proofs.indexed_files.open_index.Goals as goal

pub returns-in-Ok-clause-indexed : goal.returns-in-Ok-clause-indexed
returns-in-Ok-clause-indexed g c = index_of (g.P.Right.ReadRight.file c.args.right.now).bytes _ c.in-Ok.ensures.answers c.in-Ok.ensures.tree

pub returns-in-Ok-clause-reason : goal.returns-in-Ok-clause-reason
returns-in-Ok-clause-reason g c = reason_ok _ _ _ _ c.in-Ok.ensures.cause.later

pub returns-in-Err-clause-reason : goal.returns-in-Err-clause-reason
returns-in-Err-clause-reason g c =
    reason_of {S = FileMeta} _ _ _ _ _ c.in-Err.fault c.fault_of.result c.in-Err.ensures.cause c.fault_of.ensures.later c.fault_of.ensures.counted
    (undamaged_whole FileMeta (g.P.Right.ReadRight.file c.args.right.now).bytes c.in-Err.fault (λ bytes tree. Unit {0}) c.in-Err.ensures.tree)
