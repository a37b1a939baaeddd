use Rattle.std.proofs.Common.{rules, w64, ◌∙◌}
use Rattle.std.proofs.Math.Facts.{to_z-of_z}
use Rattle.tsdb_memory.proofs.Later.{marked, unmarked}
use Rattle.tsdb_memory.proofs.deleting.add_mark.Goals as goal

pub returns-then-range : goal.returns-then-range
returns-then-range c =
    c.add.ensures.marks
    ∙ marked c.args.path c.args.range.now c.args.version c.args.marks.now.marks _ _ (to_z-of_z {w = w64} (search rules))
    (to_z-of_z {w = w64} (search rules)) c.if-range.true

pub returns-else-range : goal.returns-else-range
returns-else-range c =
    unmarked c.args.path c.args.range.now c.args.version c.args.marks.now.marks _ _ (to_z-of_z {w = w64} (search rules))
    (to_z-of_z {w = w64} (search rules)) c.if-range.false
