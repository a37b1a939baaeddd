use Rattle.std.proofs.Common.{take}
use Rattle.std.specs.Prelude.{All}
use Rattle.tsfile_writer.proofs.Made.{IsMadeGroup}
use Rattle.tsfile_writer.proofs.tree_facts.trees_are_made.Given as goal

abbrev pub invariant-loop-group : goal.invariant-loop-group
invariant-loop-group l = All IsMadeGroup (take l.group-index l.tree.groups)
