use Rattle.std.proofs.lemmas.Grind.{common_steps}
use Rattle.std.proofs.Common.{sym, subst, arith}
use Rattle.tsdb_aggregate.specs.Steps.{IsPieceGroup}
use Rattle.tsdb_aggregate.proofs.WalkLemmas.{walk_more, walk_none}
use Rattle.tsdb_aggregate.proofs.fold.tally_of.Goals as goal

pub loop-start-init : goal.loop-start-init
loop-start-init g c = walk_none _ c.args.name _ _ c.args.entries.now _ (c.new-tally.ensures c.args.name)

pub add_winners-requires-clause-group : goal.add_winners-requires-clause-group
add_winners-requires-clause-group g c = subst IsPieceGroup (sym c.split_at-in-loop-start.ensures.front) c.group_length.ensures.group

pub loop-start-preserved : goal.loop-start-preserved
loop-start-preserved g c =
    walk_more c.args.range.now c.args.name _ _ _ _ _ _ c.loop-start.start c.group_length.result c.args.entries.now _ _ c.loop-start.tally _ c.split_at.ensures.back c.split_at-in-loop-start.ensures.front
    c.split_at-in-loop-start.ensures.front_len c.group_length.ensures.within c.group_length.ensures.cut c.in_ok-add_winners.ensures.added c.in_ok-add_winners.ensures.spends c.loop-start.invariant

pub returns-in_err-add_winners-clause-spends : goal.returns-in_err-add_winners-clause-spends
returns-in_err-add_winners-clause-spends g c = grind (arith, common_steps)

pub returns-clause-found : goal.returns-clause-found
returns-clause-found g c = grind (arith, common_steps)

pub returns-clause-spends : goal.returns-clause-spends
returns-clause-spends g c = grind (arith, common_steps)
