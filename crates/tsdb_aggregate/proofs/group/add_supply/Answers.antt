use Rattle.std.proofs.Common.{sym, subst}
use Rattle.std.proofs.lemmas.Result.{err_from_is_err_and}
use Rattle.tsdb_merge.specs.Merging.{lazy_left}
use Rattle.tsdb_merge.specs.Winners.{IsToldMergeOf}
use Rattle.tsdb_merge.proofs.Pulls.{none_fell}
use Rattle.tsdb_aggregate.proofs.GroupOfLanes.{adds_merge, on_ok_then, same_count}
use Rattle.tsdb_aggregate.proofs.group.add_supply.Goals as goal

pub returns-in_err-merge-clause-cause : goal.returns-in_err-merge-clause-cause
returns-in_err-merge-clause-cause g c =
    let p = err_from_is_err_and c.from_residual.result c.from_residual.ensures.1 in
    rw (p.1, p.2) (record { failures_later = none_fell _; damages_later = none_fell _; fault = tt })

pub returns-clause-added : goal.returns-clause-added
returns-clause-added g c = on_ok_then c.add_merged.result (λ adds lists told rising.
    let left = g.Q.Supply.left c.args.supply.now in
    let merged : IsToldMergeOf lists (lazy_left c.in_ok-merge.merge left) = subst (λ ls. IsToldMergeOf lists (lazy_left c.in_ok-merge.merge ls)) (sym told) (c.in_ok-merge.ensures.merged lists (same_count lists left c.args.sources c.requires.sources told) rising) in
    adds_merge _ _ lists _ _ _ merged adds) c.add_merged.ensures.added
