use Rattle.std.proofs.Common.{rules, ◌≡◌, ◌∙◌, None, Err, refl, arith}
use Rattle.std.proofs.lemmas.Result.{err_from_is_err_and}
use Rattle.tsdb_streams.proofs.Reasons.{reason_memory, reason_ok, reason_then, same_reason}
use Rattle.tsdb_pins.proofs.Draining.{drains_all, drains_more, drains_none, later_then}
use Rattle.tsdb_pins.proofs.column.read_points.Goals as goal

pub loop-init : goal.loop-init
loop-init g c = (
  c.in_ok-stream.ensures.of_store,
  c.in_ok-stream.ensures.works,
  λ pages t. t,
  λ pages t. t,
  λ pages t. drains_none _ _ (search rules),
  omega arith,
  refl,
)

pub pull-requires-clause-of_store : goal.pull-requires-clause-of_store
pull-requires-clause-of_store g c = λ lifetimes lives. c.loop.invariant.0

pub loop-preserved : goal.loop-preserved
loop-preserved g c =
    let inv = c.loop.invariant in
    let done = c.in_ok-point.ensures in (
      done.of_store,
      done.works,
      λ pages t. done.truth pages (inv.2 pages t),
      λ pages t. done.told pages (inv.3 pages t),
      λ pages t. drains_more _ _ _ _ _ _ c.in-Some.point (inv.4 pages t) (done.next pages (inv.2 pages t)) c.in-Some.is (search rules),
      later_then _ _ _ inv.5 done.later,
      done.same_store ∙ inv.6,
    )

pub returns-in_err-stream-clause-reason : goal.returns-in_err-stream-clause-reason
returns-in_err-stream-clause-reason g c = λ pages truth.
    let p = err_from_is_err_and c.from_residual.result c.from_residual.ensures.1 in
    rw (p.1, p.2) (same_reason _ _ _ c.in_err-stream.field-0.0 (c.in_err-stream.ensures.reason pages truth))

pub returns-in_err-point-clause-reason : goal.returns-in_err-point-clause-reason
returns-in_err-point-clause-reason g c = λ pages truth.
    let inv = c.loop.invariant in
    let opened = c.in_ok-stream.ensures in
    let p = err_from_is_err_and c.from_residual-in_err-point.result c.from_residual-in_err-point.ensures.1 in
    rw (p.1, p.2) (same_reason _ _ _ _ (reason_then _ _ _ _ _ (Err c.in_err-point.field-0.0) (λ whole. inv.3 pages (opened.told pages whole)) (omega (arith, opened.later, inv.5))
    (c.in_err-point.ensures.reason pages (inv.2 pages (opened.truth pages truth)) inv.1)))

pub returns-in_err-point-clause-later : goal.returns-in_err-point-clause-later
returns-in_err-point-clause-later g c = omega (arith, c.in_ok-stream.ensures.later, c.loop.invariant.5, c.in_err-point.ensures.later)

pub returns-in_err-point-clause-same_store : goal.returns-in_err-point-clause-same_store
returns-in_err-point-clause-same_store g c = c.in_err-point.ensures.same_store ∙ c.loop.invariant.6 ∙ c.in_ok-stream.ensures.same_store

pub returns-in_default-clause-merged : goal.returns-in_default-clause-merged
returns-in_default-clause-merged g c = λ pages truth lists tell rising.
    let opened = c.in_ok-stream.ensures in
    let is_true = opened.truth pages truth in
    let none : c.in_ok-point.field-0 ≡ None = search rules in
    drains_all lists _ _ _ c.loop.points.items c.in_ok-point.field-0 (c.loop.invariant.4 pages is_true) (c.in_ok-point.ensures.next pages (c.loop.invariant.2 pages is_true)) none (opened.merged pages truth lists tell rising)

pub returns-in_default-clause-reason : goal.returns-in_default-clause-reason
returns-in_default-clause-reason g c = λ pages truth. reason_ok _ _ _ _ (omega (arith, c.in_ok-stream.ensures.later, c.loop.invariant.5, c.in_ok-point.ensures.later))

pub returns-in_default-clause-later : goal.returns-in_default-clause-later
returns-in_default-clause-later g c = omega (arith, c.in_ok-stream.ensures.later, c.loop.invariant.5, c.in_ok-point.ensures.later)

pub returns-in_default-clause-same_store : goal.returns-in_default-clause-same_store
returns-in_default-clause-same_store g c = c.in_ok-point.ensures.same_store ∙ c.loop.invariant.6 ∙ c.in_ok-stream.ensures.same_store

pub returns-in_err-push-clause-reason : goal.returns-in_err-push-clause-reason
returns-in_err-push-clause-reason g c = λ pages truth.
    let p = err_from_is_err_and c.from_residual-in_err-push.result c.from_residual-in_err-push.ensures.1 in
    rw p.1 (reason_memory _ _ _ _ (omega (arith, c.in_ok-stream.ensures.later, c.loop.invariant.5, c.in_ok-point.ensures.later)) p.2)

pub returns-in_err-push-clause-later : goal.returns-in_err-push-clause-later
returns-in_err-push-clause-later g c = omega (arith, c.in_ok-stream.ensures.later, c.loop.invariant.5, c.in_ok-point.ensures.later)

pub returns-in_err-push-clause-same_store : goal.returns-in_err-push-clause-same_store
returns-in_err-push-clause-same_store g c = c.in_ok-point.ensures.same_store ∙ c.loop.invariant.6 ∙ c.in_ok-stream.ensures.same_store

pub returns-clause-reason : goal.returns-clause-reason
returns-clause-reason g c = λ pages truth. reason_memory _ _ _ _ (omega (arith, c.in_ok-stream.ensures.later, c.loop.invariant.5)) refl

pub returns-clause-later : goal.returns-clause-later
returns-clause-later g c = omega (arith, c.in_ok-stream.ensures.later, c.loop.invariant.5)

pub returns-clause-same_store : goal.returns-clause-same_store
returns-clause-same_store g c = c.loop.invariant.6 ∙ c.in_ok-stream.ensures.same_store
