use Rattle.std.proofs.lemmas.Grind.{common_steps}
use Rattle.std.proofs.Common.{ap, sym, ◌∙◌, arith}
use Rattle.std.specs.Option.{option_copied}
use Rattle.tsdb_map.proofs.RowLemmas.{item_gone, items_there}
use Rattle.tsdb_map.proofs.select.find_columns.Goals as goal

pub returns-in_default-clause-none : goal.returns-in_default-clause-none
returns-in_default-clause-none c =
    item_gone c.args.catalog.now c.args.device.now c.args.items.now c.loop-item.item-index c.item-item.result c.loop-item-test.true c.item-item.is
    (sym c.get.ensures ∙ ap option_copied c.in_default.is)

pub returns-clause-there : goal.returns-clause-there
returns-clause-there c = items_there c.args.catalog.now c.args.device.now c.args.items.now c.loop-item.item-index c.loop-item-test.false c.loop-item.invariant.0

pub loop-item-preserved : goal.loop-item-preserved
loop-item-preserved c = grind (arith, common_steps)

pub returns-clause-columns : goal.returns-clause-columns
returns-clause-columns c = grind (arith, common_steps)
