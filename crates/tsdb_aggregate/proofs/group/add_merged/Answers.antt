use Rattle.std.proofs.Common.{rules, ◌≡◌, ◌∙◌, Ok, Err, subst, refl}
use Rattle.std.specs.Prelude.{Some, None}
use Rattle.std.proofs.lemmas.Result.{err_from_is_err_and}
use Rattle.tsdb_merge.specs.Merging.{lazy_left}
use Rattle.tsdb_merge.specs.Winners.{TakesTold}
use Rattle.tsdb_merge.specs.declared.points.PullFault.TheVariants.{Memory}
use Rattle.tsdb_merge.proofs.Pulls.{cause_none, cause_then}
use Rattle.tsdb_aggregate.proofs.AddLemmas.{all_taken, none_taken, settled, took}
use Rattle.tsdb_aggregate.proofs.group.add_merged.Goals as goal

pub loop-point-init : goal.loop-point-init
loop-point-init g c =
    let keeps : g.Q.Supply.keeps c.args.supply.now c.args.supply.now = search rules in
    (none_taken _ _ _ _, c.requires.fault, refl, refl, keeps, cause_none _ _ tt)

pub loop-point-preserved : goal.loop-point-preserved
loop-point-preserved g c =
    let inv = c.loop-point.invariant in
    let pulled = c.in_ok-point.ensures in
    let keeps : g.Q.Supply.keeps c.args.supply.now c.pull.new.supply = search rules in
    let some : c.in_ok-point.field-0 ≡ Some c.in-Some.point = c.in-Some.is in (
      took _ _ _ _ _ _ _ _ c.in-Some.point (subst (λ p. TakesTold (lazy_left c.loop-point.merge (g.Q.Supply.left c.loop-point.supply)) p (lazy_left c.pull.new.self (g.Q.Supply.left c.pull.new.supply))) some pulled.next) c.in_ok-add_point.ensures.added inv.0,
      pulled.working.1,
      pulled.sources ∙ inv.2,
      pulled.lists ∙ inv.3,
      keeps,
      cause_then _ _ _ _ _ _ tt (Ok tt) inv.5 (record { failures_later = pulled.failures; damages_later = pulled.damages; fault = tt }),
    )

pub returns-in_err-point-clause-cause : goal.returns-in_err-point-clause-cause
returns-in_err-point-clause-cause g c =
    let inv = c.loop-point.invariant in
    let p = err_from_is_err_and c.from_residual.result c.from_residual.ensures.1 in
    let pulled = c.in_err-point.ensures in
    rw (p.1, p.2) (cause_then _ _ _ _ _ _ tt (Err c.in_err-point.field-0.0) inv.5 (record { failures_later = pulled.failures; damages_later = pulled.damages; fault = pulled.cause inv.1 }))

pub returns-clause-added : goal.returns-clause-added
returns-clause-added g c =
    let none : c.in_ok-point.field-0 ≡ None = search rules in
    all_taken _ _ _ _ _ _ _ (subst (λ p. TakesTold (lazy_left c.loop-point.merge (g.Q.Supply.left c.loop-point.supply)) p (lazy_left c.pull.new.self (g.Q.Supply.left c.pull.new.supply))) none c.in_ok-point.ensures.next) c.loop-point.invariant.0

pub returns-clause-cause : goal.returns-clause-cause
returns-clause-cause g c =
    let pulled = c.in_ok-point.ensures in
    cause_then _ _ _ _ _ _ tt (Ok tt) c.loop-point.invariant.5 (record { failures_later = pulled.failures; damages_later = pulled.damages; fault = tt })

pub returns-in_err-add_point-clause-cause : goal.returns-in_err-add_point-clause-cause
returns-in_err-add_point-clause-cause g c =
    let pulled = c.in_ok-point.ensures in
    let p = err_from_is_err_and c.from_residual-in_err-add_point.result c.from_residual-in_err-add_point.ensures.1 in
    rw (p.1, p.2) (cause_then _ _ _ _ _ _ tt (Err Memory) c.loop-point.invariant.5 (record { failures_later = pulled.failures; damages_later = pulled.damages; fault = tt }))

pub returns-then-branch-clause-added : goal.returns-then-branch-clause-added
returns-then-branch-clause-added g c =
    let some : c.in_ok-point.field-0 ≡ Some c.in-Some.point = c.in-Some.is in
    settled _ _ _ _ _ _ (c.in_ok-add_point.ensures.settled c.if-branch.true)
    (took _ _ _ _ _ _ _ _ c.in-Some.point (subst (λ p. TakesTold (lazy_left c.loop-point.merge (g.Q.Supply.left c.loop-point.supply)) p (lazy_left c.pull.new.self (g.Q.Supply.left c.pull.new.supply))) some c.in_ok-point.ensures.next) c.in_ok-add_point.ensures.added c.loop-point.invariant.0)

pub returns-then-branch-clause-cause : goal.returns-then-branch-clause-cause
returns-then-branch-clause-cause g c =
    let pulled = c.in_ok-point.ensures in
    cause_then _ _ _ _ _ _ tt (Ok tt) c.loop-point.invariant.5 (record { failures_later = pulled.failures; damages_later = pulled.damages; fault = tt })

pub returns-then-is_settled-clause-added : goal.returns-then-is_settled-clause-added
returns-then-is_settled-clause-added g c = settled _ _ _ _ _ _ (c.is_settled.ensures c.if-is_settled.true) (none_taken _ _ _ _)

pub returns-then-is_settled-clause-cause : goal.returns-then-is_settled-clause-cause
returns-then-is_settled-clause-cause g c = cause_none _ _ tt
