use Rattle.std.proofs.Common.{rules, ◌≡◌, ◌∙◌, of_z, to_z, Err, [], ◌∷◌, ◌++◌, refl, sym, arith}
use Rattle.std.specs.Int.{w64}
use Rattle.std.proofs.lemmas.Bool.{false≢true}
use Rattle.std.proofs.lemmas.Int.{to_z-of_z}
use Rattle.std.proofs.lemmas.Result.{err_from_is_err_and}
use Rattle.tsdb_streams.proofs.Reasons.{reason_memory, reason_ok, reason_then, same_reason}
use Rattle.tsdb_inner.proofs.Putting.{all_taken, broken, drains_more, drains_none, is_whole, may_put, putting_more, putting_none, puts}
use Rattle.tsdb_inner.proofs.copying.put_rest.Goals as goal

pub loop-count-init : goal.loop-count-init
loop-count-init g c = (
  c.requires.of_store,
  c.requires.works,
  λ pages t. t,
  λ pages t. t,
  ([], putting_none c.args.schema.now _ c.args.part.now, λ pages t. drains_none _),
  omega arith,
  refl,
)

pub loop-count-preserved : goal.loop-count-preserved
loop-count-preserved g c =
    let inv = c.loop-count.invariant in
    let done = c.in_ok-point.ensures in
    let now : to_z w64 (of_z w64 c.in-Some.point.time) ≡ c.in-Some.point.time =
    to_z-of_z w64 c.in-Some.point.time (search rules) in (
      done.of_store,
      done.works,
      λ pages t. done.truth pages (inv.2 pages t),
      λ pages t. done.told pages (inv.3 pages t),
      (
        inv.4.0 ++ c.in-Some.point ∷ [],
        putting_more c.args.schema.now _ _ _ c.args.part.now c.loop-count.part inv.4.0 inv.4.1 c.put.new.self c.in-Some.point
            _ now (c.if-not-may_follow.ensures.0 refl) c.in_ok-put.ensures.ok,
        λ pages t. drains_more _ _ _ inv.4.0 c.in_ok-point.field-0 c.in-Some.point c.in-Some.is (inv.4.2 pages t)
            (done.next pages (inv.2 pages t)),
      ),
      omega (arith, inv.5, done.later),
      done.same_store ∙ inv.6,
    )

pub pull-requires-clause-of_store : goal.pull-requires-clause-of_store
pull-requires-clause-of_store g c = λ lifetimes lives. c.loop-count.invariant.0

pub end-requires-clause-open : goal.end-requires-clause-open
end-requires-clause-open g c =
    let inv = c.loop-count.invariant in
    is_whole c.args.schema.now _ _ _ c.args.part.now c.loop-count.part inv.4.0 inv.4.1 c.args.from
    (sym (to_z-of_z w64 c.args.from c.ranges.from)) c.requires.begun

pub put-requires : goal.put-requires
put-requires g c =
    let inv = c.loop-count.invariant in
    may_put c.args.schema.now _ _ _ c.args.part.now c.loop-count.part inv.4.0 inv.4.1 c.args.from
    (sym (to_z-of_z w64 c.args.from c.ranges.from)) c.requires.begun c.in-Some.point (c.if-not-may_follow.ensures.0 refl)

pub returns-in_default-clause-put : goal.returns-in_default-clause-put
returns-in_default-clause-put g c =
    let inv = c.loop-count.invariant in λ is. (
      inv.4.0,
      puts c.args.schema.now _ _ _ c.args.part.now c.loop-count.part inv.4.0 inv.4.1 c.end.new.self c.args.from
          (sym (to_z-of_z w64 c.args.from c.ranges.from)) c.in_ok-end.ensures.ok,
      λ pages t. all_taken _ _ _ inv.4.0 c.in_ok-point.field-0 c.in_default.is (inv.4.2 pages t)
          (c.in_ok-point.ensures.next pages (inv.2 pages t)),
    )

pub returns-in_default-clause-damaged : goal.returns-in_default-clause-damaged
returns-in_default-clause-damaged g c = λ is. absurd (false≢true (sym is))

pub returns-then-not-may_follow-clause-put : goal.returns-then-not-may_follow-clause-put
returns-then-not-may_follow-clause-put g c = λ is. absurd (false≢true is)

pub returns-then-not-may_follow-clause-damaged : goal.returns-then-not-may_follow-clause-damaged
returns-then-not-may_follow-clause-damaged g c =
    let inv = c.loop-count.invariant in λ is pages t.
    broken c.args.schema.now _ _ _ c.args.part.now c.loop-count.part inv.4.0 inv.4.1 c.args.from
    (sym (to_z-of_z w64 c.args.from c.ranges.from)) c.in-Some.point
    (λ may. false≢true (sym c.if-not-may_follow.true ∙ c.may_follow.ensures.1 may)) _ _ _ c.in_ok-point.field-0 c.in-Some.is
    (inv.4.2 pages t) (c.in_ok-point.ensures.next pages (inv.2 pages t))

pub returns-in_err-point-clause-reason : goal.returns-in_err-point-clause-reason
returns-in_err-point-clause-reason g c = λ pages truth.
    let inv = c.loop-count.invariant in
    let p = err_from_is_err_and c.from_residual.result c.from_residual.ensures.1 in
    rw (p.1, p.2) (same_reason _ _ _ _ (reason_then _ _ _ _ _ (Err c.in_err-point.field-0.0)
    (λ whole. inv.3 pages whole) inv.5 (c.in_err-point.ensures.reason pages (inv.2 pages truth) inv.1)))

pub returns-in_err-point-clause-later : goal.returns-in_err-point-clause-later
returns-in_err-point-clause-later g c = omega (arith, c.loop-count.invariant.5, c.in_err-point.ensures.later)

pub returns-in_err-point-clause-same_store : goal.returns-in_err-point-clause-same_store
returns-in_err-point-clause-same_store g c = c.in_err-point.ensures.same_store ∙ c.loop-count.invariant.6

pub returns-in_err-end-clause-reason : goal.returns-in_err-end-clause-reason
returns-in_err-end-clause-reason g c =
    λ pages truth.
    let p = err_from_is_err_and c.from_residual-in_err-end.result c.from_residual-in_err-end.ensures.1 in
    rw p.1 (reason_memory _ _ _ _ (omega (arith, c.loop-count.invariant.5, c.in_ok-point.ensures.later)) p.2)

pub returns-in_err-end-clause-later : goal.returns-in_err-end-clause-later
returns-in_err-end-clause-later g c = omega (arith, c.loop-count.invariant.5, c.in_ok-point.ensures.later)

pub returns-in_err-end-clause-same_store : goal.returns-in_err-end-clause-same_store
returns-in_err-end-clause-same_store g c = c.in_ok-point.ensures.same_store ∙ c.loop-count.invariant.6

pub returns-in_default-clause-reason : goal.returns-in_default-clause-reason
returns-in_default-clause-reason g c = λ pages truth.
    reason_ok _ _ _ _ (omega (arith, c.loop-count.invariant.5, c.in_ok-point.ensures.later))

pub returns-in_default-clause-later : goal.returns-in_default-clause-later
returns-in_default-clause-later g c = omega (arith, c.loop-count.invariant.5, c.in_ok-point.ensures.later)

pub returns-in_default-clause-same_store : goal.returns-in_default-clause-same_store
returns-in_default-clause-same_store g c = c.in_ok-point.ensures.same_store ∙ c.loop-count.invariant.6

pub returns-then-not-may_follow-clause-reason : goal.returns-then-not-may_follow-clause-reason
returns-then-not-may_follow-clause-reason g c = λ pages truth.
    reason_ok _ _ _ _ (omega (arith, c.loop-count.invariant.5, c.in_ok-point.ensures.later))

pub returns-then-not-may_follow-clause-later : goal.returns-then-not-may_follow-clause-later
returns-then-not-may_follow-clause-later g c = omega (arith, c.loop-count.invariant.5, c.in_ok-point.ensures.later)

pub returns-then-not-may_follow-clause-same_store : goal.returns-then-not-may_follow-clause-same_store
returns-then-not-may_follow-clause-same_store g c = c.in_ok-point.ensures.same_store ∙ c.loop-count.invariant.6

pub returns-in_err-put-clause-reason : goal.returns-in_err-put-clause-reason
returns-in_err-put-clause-reason g c =
    λ pages truth.
    let p = err_from_is_err_and c.from_residual-in_err-put.result c.from_residual-in_err-put.ensures.1 in
    rw p.1 (reason_memory _ _ _ _ (omega (arith, c.loop-count.invariant.5, c.in_ok-point.ensures.later)) p.2)

pub returns-in_err-put-clause-later : goal.returns-in_err-put-clause-later
returns-in_err-put-clause-later g c = omega (arith, c.loop-count.invariant.5, c.in_ok-point.ensures.later)

pub returns-in_err-put-clause-same_store : goal.returns-in_err-put-clause-same_store
returns-in_err-put-clause-same_store g c = c.in_ok-point.ensures.same_store ∙ c.loop-count.invariant.6

pub returns-clause-reason : goal.returns-clause-reason
returns-clause-reason g c = λ pages truth. reason_memory _ _ _ _ c.loop-count.invariant.5 refl

pub returns-clause-later : goal.returns-clause-later
returns-clause-later g c = c.loop-count.invariant.5

pub returns-clause-same_store : goal.returns-clause-same_store
returns-clause-same_store g c = c.loop-count.invariant.6
