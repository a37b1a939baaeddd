use Rattle.std.proofs.Common.{rules, w64, to_z, of_z}
use Rattle.std.proofs.Math.Facts.{to_z-of_z}
use Rattle.tsdb_pins.proofs.RowLemmas.{column_taken, line_taken, none_taken}
use Rattle.tsdb_pins.proofs.rows.take_line.Goals as goal

pub loop-index-init : goal.loop-index-init
loop-index-init c = (none_taken (to_z w64 (of_z w64 c.args.time)) _ _ _ (search rules) (search rules), search rules, search rules)

pub loop-index-preserved : goal.loop-index-preserved
loop-index-preserved c = (
  column_taken _ _ _ _ _ _ _ c.index_mut.result.now c.take_at.new.column _ (search rules) c.loop-index.invariant.0 (search rules) c.take_at.ensures (search rules) (search rules),
  search rules,
  search rules,
)

pub returns : goal.returns
returns c = line_taken _ _ _ _ _ _ _ (to_z-of_z {w = w64} (search rules)) (search rules) (search rules) (search rules) (search rules) c.loop-index.invariant.0
