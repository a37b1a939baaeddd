use Rattle.std.proofs.Common.{rules}
use Rattle.std.proofs.lemmas.Int.{to_z-of_z}
use Rattle.std.specs.Int.{w64}
use Rattle.tsdb_streams.proofs.MarkTests.{kept_inside}
use Rattle.tsdb_streams.proofs.survival.Kept.keeps.Goals as goal

pub returns-then-contains : goal.returns-then-contains
returns-then-contains c = kept_inside _ _ _ _ c.args.point.now _ _ _ (to_z-of_z w64 _ (search rules)) c.contains.ensures c.if-contains.true c.survives.ensures
