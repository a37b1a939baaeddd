use Rattle.std.proofs.Common.{rules, sym, ◌∙◌}
use Rattle.std.specs.Vec.Iter.{into_iter_items}
use Rattle.tsdb_pins.proofs.RowLemmas.{all_opened, one_opened}
use Rattle.tsdb_pins.proofs.rows.open.Goals as goal

pub loop-column-init : goal.loop-column-init
loop-column-init c = record { finite = (tt, tt); rest = search rules }

pub loop-column-preserved : goal.loop-column-preserved
loop-column-preserved c = record {
  finite = (tt, tt);
  rest = one_opened _ _ _ _ _ _ c.from.result c.loop-column.invariant.rest c.in-Some.ensures.steps.0 (search rules) (search rules);
}

pub returns : goal.returns
returns c = all_opened _ (into_iter_items c.loop-column.column-iterator) _ c.loop-column.invariant.rest (sym c.loop-column.column-iterator.rest.ok.0 ∙ c.in-None.ensures.steps.0)
