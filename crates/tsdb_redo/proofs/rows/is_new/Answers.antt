use Rattle.std.proofs.Common.{rules}
use Rattle.std.proofs.lemmas.Int.{to_z-of_z}
use Rattle.std.specs.Int.{w64}
use Rattle.tsdb_redo.proofs.NewPoints.{is_new_by}
use Rattle.tsdb_redo.proofs.rows.is_new.Goals as goal

pub returns : goal.returns
returns c = is_new_by c.args.time _ _ c.slice.result.now (to_z-of_z w64 c.args.time (search rules))
    (to_z-of_z w64 c.args.time (search rules)) c.slice.ensures.points c.is_empty.result c.is_empty.ensures
