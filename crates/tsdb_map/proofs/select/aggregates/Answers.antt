use Rattle.std.proofs.lemmas.Grind.{common_steps}
use Rattle.std.proofs.Common.{ap, sym, ◌∙◌, arith}
use Rattle.std.proofs.lemmas.Bool.{false≢true}
use Rattle.std.specs.Option.{option_copied}
use Rattle.tsdb_map.proofs.RowLemmas.{item_gone}
use Rattle.tsdb_map.proofs.select.aggregates.Goals as goal

pub returns-in_default : goal.returns-in_default
returns-in_default c =
    absurd (false≢true (sym (item_gone c.args.catalog.now c.args.device.now c.args.items.now c.loop-item.item-index c.item-item.result c.loop-item-test.true c.item-item.is
    (sym c.get.ensures ∙ ap option_copied c.in_default.is)) ∙ c.requires))

pub loop-item-preserved : goal.loop-item-preserved
loop-item-preserved c = grind (arith, common_steps)

pub returns-then-is_unfit : goal.returns-then-is_unfit
returns-then-is_unfit c = grind (arith, common_steps)

pub returns : goal.returns
returns c = grind (arith, common_steps)
