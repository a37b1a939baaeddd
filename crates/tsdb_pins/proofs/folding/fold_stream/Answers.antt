use Rattle.std.proofs.Common.{rules, ◌≡◌, ◌∙◌, None, Err, refl, arith}
use Rattle.std.specs.Prelude.{filter}
use Rattle.std.proofs.lemmas.Result.{err_from_is_err_and}
use Rattle.tsdb_aggregate.proofs.TallyLemmas.{tally_answers}
use Rattle.tsdb_streams.proofs.Reasons.{reason_memory, reason_ok, reason_then, same_reason}
use Rattle.tsdb_streams.specs.PartedMerge.{is_between}
use Rattle.tsdb_pins.proofs.Draining.{later_then}
use Rattle.tsdb_pins.proofs.Weaving.{next_is, weaves_first, woven_end, woven_point}
use Rattle.tsdb_pins.proofs.folding.fold_stream.Goals as goal

pub loop-init : goal.loop-init
loop-init g c = (
  c.requires.of_store,
  c.requires.works,
  λ pages t. t,
  λ pages t. t,
  λ pages t all taken rising left_is. record { left = filter (is_between c.args.clean.now) all; told = left_is; weaves = weaves_first c.args.name all _ c.args.clean.now c.new-tally.result (c.new-tally.ensures c.args.name) taken refl rising },
  omega arith,
  refl,
  refl,
)

pub pull-requires-clause-of_store : goal.pull-requires-clause-of_store
pull-requires-clause-of_store g c = λ lifetimes lives. c.loop.invariant.0

pub loop-preserved : goal.loop-preserved
loop-preserved g c =
    let inv = c.loop.invariant in
    let done = c.in_ok-point.ensures in (
      done.of_store,
      done.works,
      λ pages t. done.truth pages (inv.2 pages t),
      λ pages t. done.told pages (inv.3 pages t),
      λ pages t all taken rising left_is.
          let was = inv.4 pages t all taken rising left_is in
          let takes = done.next pages (inv.2 pages t) in
          woven_point c.args.name all c.args.clean.now c.in_ok-next.next _ _ was.left c.in_ok-point.point c.in-Some.point _ _ _ was.told takes c.in-Some.is
          (c.in_ok-next.ensures.added all was.left (next_is _ _ was.left c.in_ok-point.point was.told takes) was.weaves) c.in_ok-next.ensures.later c.in_ok-join.ensures c.of_point.ensures,
      later_then _ _ _ inv.5 done.later,
      done.same_store ∙ inv.6,
      done.due ∙ inv.7,
    )

pub returns-in_err-point-clause-reason : goal.returns-in_err-point-clause-reason
returns-in_err-point-clause-reason g c = λ pages truth.
    let inv = c.loop.invariant in
    let p = err_from_is_err_and c.from_residual.result c.from_residual.ensures.1 in
    rw (p.1, p.2) (same_reason _ _ _ _ (reason_then _ _ _ _ _ (Err c.in_err-point.field-0.0) (λ whole. inv.3 pages whole) inv.5 (c.in_err-point.ensures.reason pages (inv.2 pages truth) inv.1)))

pub returns-in_err-point-clause-later : goal.returns-in_err-point-clause-later
returns-in_err-point-clause-later g c = later_then _ _ _ c.loop.invariant.5 c.in_err-point.ensures.later

pub returns-in_err-point-clause-same_store : goal.returns-in_err-point-clause-same_store
returns-in_err-point-clause-same_store g c = c.in_err-point.ensures.same_store ∙ c.loop.invariant.6

pub returns-in_err-point-clause-due : goal.returns-in_err-point-clause-due
returns-in_err-point-clause-due g c = c.in_err-point.ensures.due ∙ c.loop.invariant.7

pub returns-in_default-clause-folded : goal.returns-in_default-clause-folded
returns-in_default-clause-folded g c = λ pages truth all taken rising left_is.
    let inv = c.loop.invariant in
    let was = inv.4 pages truth all taken rising left_is in
    let takes = c.in_ok-point.ensures.next pages (inv.2 pages truth) in
    let none : c.in_ok-point.point ≡ None = search rules in
    c.in_ok-answer.ensures
    ∙ tally_answers c.args.name all _ _ _ (woven_end c.args.name all c.args.clean.now c.in_ok-next.next _ _ was.left c.in_ok-point.point _ was.told takes none
    (c.in_ok-next.ensures.added all was.left (next_is _ _ was.left c.in_ok-point.point was.told takes) was.weaves) c.in_ok-next.ensures.later)

pub returns-in_default-clause-reason : goal.returns-in_default-clause-reason
returns-in_default-clause-reason g c = λ pages truth. reason_ok _ _ _ _ (later_then _ _ _ c.loop.invariant.5 c.in_ok-point.ensures.later)

pub returns-in_default-clause-later : goal.returns-in_default-clause-later
returns-in_default-clause-later g c = later_then _ _ _ c.loop.invariant.5 c.in_ok-point.ensures.later

pub returns-in_default-clause-same_store : goal.returns-in_default-clause-same_store
returns-in_default-clause-same_store g c = c.in_ok-point.ensures.same_store ∙ c.loop.invariant.6

pub returns-in_default-clause-due : goal.returns-in_default-clause-due
returns-in_default-clause-due g c = c.in_ok-point.ensures.due ∙ c.loop.invariant.7

pub returns-in_err-next-clause-reason : goal.returns-in_err-next-clause-reason
returns-in_err-next-clause-reason g c = λ pages truth.
    let p = err_from_is_err_and c.from_residual-in_err-next.result c.from_residual-in_err-next.ensures.1 in
    rw p.1 (reason_memory _ _ _ _ (later_then _ _ _ c.loop.invariant.5 c.in_ok-point.ensures.later) p.2)

pub returns-in_err-next-clause-later : goal.returns-in_err-next-clause-later
returns-in_err-next-clause-later g c = later_then _ _ _ c.loop.invariant.5 c.in_ok-point.ensures.later

pub returns-in_err-next-clause-same_store : goal.returns-in_err-next-clause-same_store
returns-in_err-next-clause-same_store g c = c.in_ok-point.ensures.same_store ∙ c.loop.invariant.6

pub returns-in_err-next-clause-due : goal.returns-in_err-next-clause-due
returns-in_err-next-clause-due g c = c.in_ok-point.ensures.due ∙ c.loop.invariant.7

pub returns-in_err-join-clause-reason : goal.returns-in_err-join-clause-reason
returns-in_err-join-clause-reason g c = λ pages truth.
    let p = err_from_is_err_and c.from_residual-in_err-join.result c.from_residual-in_err-join.ensures.1 in
    rw p.1 (reason_memory _ _ _ _ (later_then _ _ _ c.loop.invariant.5 c.in_ok-point.ensures.later) p.2)

pub returns-in_err-join-clause-later : goal.returns-in_err-join-clause-later
returns-in_err-join-clause-later g c = later_then _ _ _ c.loop.invariant.5 c.in_ok-point.ensures.later

pub returns-in_err-join-clause-same_store : goal.returns-in_err-join-clause-same_store
returns-in_err-join-clause-same_store g c = c.in_ok-point.ensures.same_store ∙ c.loop.invariant.6

pub returns-in_err-join-clause-due : goal.returns-in_err-join-clause-due
returns-in_err-join-clause-due g c = c.in_ok-point.ensures.due ∙ c.loop.invariant.7

pub returns-in_err-answer-clause-reason : goal.returns-in_err-answer-clause-reason
returns-in_err-answer-clause-reason g c = λ pages truth.
    let p = err_from_is_err_and c.from_residual-in_err-answer.result c.from_residual-in_err-answer.ensures.1 in
    rw p.1 (reason_memory _ _ _ _ (later_then _ _ _ c.loop.invariant.5 c.in_ok-point.ensures.later) p.2)

pub returns-in_err-answer-clause-later : goal.returns-in_err-answer-clause-later
returns-in_err-answer-clause-later g c = later_then _ _ _ c.loop.invariant.5 c.in_ok-point.ensures.later

pub returns-in_err-answer-clause-same_store : goal.returns-in_err-answer-clause-same_store
returns-in_err-answer-clause-same_store g c = c.in_ok-point.ensures.same_store ∙ c.loop.invariant.6

pub returns-in_err-answer-clause-due : goal.returns-in_err-answer-clause-due
returns-in_err-answer-clause-due g c = c.in_ok-point.ensures.due ∙ c.loop.invariant.7

pub returns-clause-reason : goal.returns-clause-reason
returns-clause-reason g c = λ pages truth. reason_memory _ _ _ _ c.loop.invariant.5 refl

pub returns-clause-later : goal.returns-clause-later
returns-clause-later g c = c.loop.invariant.5

pub returns-clause-same_store : goal.returns-clause-same_store
returns-clause-same_store g c = c.loop.invariant.6

pub returns-clause-due : goal.returns-clause-due
returns-clause-due g c = c.loop.invariant.7
