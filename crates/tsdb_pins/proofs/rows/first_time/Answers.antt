use Rattle.tsdb_pins.proofs.RowLemmas.{first_all, first_more}
use Rattle.tsdb_pins.proofs.rows.first_time.Goals as goal

pub returns : goal.returns
returns c = first_all _ _ _ c.loop-column-test.false c.loop-column.invariant

pub loop-column-preserved : goal.loop-column-preserved
loop-column-preserved c = first_more _ _ _ _ _ _ c.loop-column-test.true c.column-item.is c.loop-column.invariant c.first_of.ensures c.earlier-first.ensures
