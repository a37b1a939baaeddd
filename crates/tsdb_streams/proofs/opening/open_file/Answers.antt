use Rattle.std.proofs.Common.{rules}
use Rattle.std.specs.Prelude.{ℕ, List, Option}
use Rattle.tsdb_streams.proofs.IndexedFacts.{found_by, opened_of}
use Rattle.tsdb_streams.specs.declared.source.StreamSource.TheVariants as source
use Rattle.tsdb_streams.proofs.OpenFacts.{undamaged_index}
use Rattle.tsdb_streams.proofs.Reasons.{reason_ok, reason_of}
use Rattle.tsdb_index.specs.declared.index.IndexEntry.{IndexEntry}
use Rattle.tsdb_streams.proofs.opening.open_file.Goals as goal

pub returns-in-Ok-clause-opens : goal.returns-in-Ok-clause-opens
returns-in-Ok-clause-opens g c =
    let names : List ℕ × List ℕ = (c.args.device.now, c.args.measurement.now) in
    c.lane_of.ensures names (found_by (g.P.Right.ReadRight.file c.args.right.now).bytes names c.in-Ok.found c.in-Ok.ensures.tree)

pub returns-in-Ok-clause-of_store : goal.returns-in-Ok-clause-of_store
returns-in-Ok-clause-of_store g c =
    let names : List ℕ × List ℕ = (c.args.device.now, c.args.measurement.now) in
    let file = g.P.Right.ReadRight.file in
    opened_of file names _ (source.File c.args.right c.args.born) c.lane_of.result
    (c.lane_of.ensures names (found_by (file c.args.right.now).bytes names c.in-Ok.found c.in-Ok.ensures.tree)) (search rules)

pub returns-in-Ok-clause-reason : goal.returns-in-Ok-clause-reason
returns-in-Ok-clause-reason g c = λ pages truth. reason_ok _ _ _ _ c.in-Ok.ensures.cause.later

pub returns-in-Err-clause-reason : goal.returns-in-Err-clause-reason
returns-in-Err-clause-reason g c = λ pages truth.
    reason_of _ _ _ _ _ c.in-Err.fault c.fault_of.result c.in-Err.ensures.cause c.fault_of.ensures.later c.fault_of.ensures.counted
    (undamaged_index pages (c.args.device.now, c.args.measurement.now) (g.P.Right.ReadRight.file c.args.right.now) truth (Option IndexEntry) c.in-Err.fault (λ bytes tree. Unit {0}) c.in-Err.ensures.tree)
