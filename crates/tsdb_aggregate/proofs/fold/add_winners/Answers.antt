use Rattle.std.proofs.Common.{rules}
use Rattle.tsdb_aggregate.proofs.GroupLemmas.{adds_clean, cost_of_group}
use Rattle.tsdb_aggregate.proofs.SpendLemmas.{spends_same}
use Rattle.tsdb_aggregate.proofs.fold.add_winners.Goals as goal

pub returns-then-first-clause-added : goal.returns-then-first-clause-added
returns-then-first-clause-added g c = λ sound.
    adds_clean (g.D.Loader.state c.args.loader.now).held c.args.range.now c.args.name c.args.group.now c.index-group-0.result _ _ _ c.requires.group sound c.if-first.true c.of_stats.ensures c.in_ok-join.ensures

pub returns-clause-spends : goal.returns-clause-spends
returns-clause-spends g c =
    spends_same _ _ _ _ _ _ _ (cost_of_group (g.D.Loader.state c.args.loader.now).held c.args.group.now c.index-group-0.result c.requires.group c.if-first.false) c.add_group.ensures.spends

pub returns-in_err-join-clause-spends : goal.returns-in_err-join-clause-spends
returns-in_err-join-clause-spends c = search rules

pub returns-then-first-clause-spends : goal.returns-then-first-clause-spends
returns-then-first-clause-spends c = search rules
