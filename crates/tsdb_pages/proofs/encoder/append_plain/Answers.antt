use Rattle.std.proofs.Common.{ℕ, List, ◌++◌, length, ap, ◌∙◌, arith}
use Rattle.std.proofs.lemmas.Grind.{common_steps}
use Rattle.std.specs.List.{flat_map}
use Rattle.std.proofs.lemmas.List.{take_all}
use Rattle.tsdb_base.specs.Fields.{value_field}
use Rattle.tsdb_bits.specs.Leb.{leb}
use Rattle.tsdb_pages.proofs.OneType.{plain_items}
use Rattle.tsdb_pages.proofs.encoder.append_plain.Goals as goal

pub returns-clause-ok : goal.returns-clause-ok
returns-clause-ok g c =
    let value_of = g.T.HasValue.value_of in
    let items = c.args.items.now in
    c.loop-item.invariant.bytes
    ∙ ap (λ t. c.args.into.now.items ++ (leb (length items) ++ flat_map (λ item. value_field (value_of item)) t)) (take_all c.loop-item.item-index items (omega (arith, c.loop-item-test.false)))
    ∙ ap (λ (t : List ℕ). c.args.into.now.items ++ t) (plain_items value_of items)

pub loop-item-init : goal.loop-item-init
loop-item-init g c = grind (arith, common_steps)

pub returns-in_err-put_leb-clause-kept : goal.returns-in_err-put_leb-clause-kept
returns-in_err-put_leb-clause-kept g c = grind (arith, common_steps)

pub returns-in_err-put_value-clause-kept : goal.returns-in_err-put_value-clause-kept
returns-in_err-put_value-clause-kept g c = grind (arith, common_steps)

pub loop-item-preserved : goal.loop-item-preserved
loop-item-preserved g c = grind (arith, common_steps)

pub returns-clause-kept : goal.returns-clause-kept
returns-clause-kept g c = grind (arith, common_steps)
