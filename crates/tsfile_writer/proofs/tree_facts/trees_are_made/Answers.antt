use Rattle.std.proofs.Common.{rules}
use Rattle.std.proofs.lemmas.List.Elements.{All-nil}
use Rattle.tsfile_writer.proofs.Made.{IsMadeGroup, all_of_taken, groups_made, one_more_of}
use Rattle.tsfile_writer.proofs.tree_facts.trees_are_made.Goals as goal

pub loop-group-init : goal.loop-group-init
loop-group-init c = All-nil IsMadeGroup

pub loop-group-preserved : goal.loop-group-preserved
loop-group-preserved c =
    let told = c.tell_group.ensures in
    one_more_of IsMadeGroup c.args.tree.now.groups c.items-group-items.result.now c.loop-group.group-index c.group-item.result c.items-group-items.ensures c.loop-group-test.true c.group-item.is c.loop-group.invariant
    (record { device = told.device; chunks = told.chunks })

pub returns : goal.returns
returns c = groups_made c.args.tree.now (all_of_taken IsMadeGroup c.args.tree.now.groups c.loop-group.group-index (search rules) c.loop-group.invariant)
