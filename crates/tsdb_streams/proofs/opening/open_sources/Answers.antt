use Rattle.std.proofs.Common.{rules, ◌≡◌, ◌∙◌, [], ◌∷◌, ◌++◌, sym, subst, arith}
use Rattle.std.specs.Prelude.{All}
use Rattle.std.specs.Vec.Iter.{into_iter_items}
use Rattle.std.proofs.lemmas.List.{nil_from_length}
use Rattle.std.proofs.lemmas.Result.{err_from_is_err_and}
use Rattle.tsdb_streams.proofs.OpenLoop.{all_opened, next_all, next_fault, next_of, opening_more, opening_none}
use Rattle.tsdb_streams.proofs.Reasons.{reason_memory, reason_ok}
use Rattle.tsdb_streams.specs.Lanes.{IsLaneOfStore, IsSourceOfStore, IsToldSource, IsTrueSource}
use Rattle.tsdb_streams.proofs.opening.open_sources.Goals as goal

pub loop-source-init : goal.loop-source-init
loop-source-init g c = record {
  finite = (tt, tt);
  opening = opening_none _ _ _ _ _ c.args.sources.items (into_iter_items c.into_iter-source-iterator.result) _ c.into_iter-source-iterator.ensures.into_iter_gives.0 (search rules) c.requires.of_store;
}

pub open_source-requires-clause-of_store : goal.open_source-requires-clause-of_store
open_source-requires-clause-of_store g c = λ lifetimes lives.
    let inv = c.loop-source.invariant.opening in
    subst (λ s. IsSourceOfStore g.P.Right.ReadRight.file s c.in-Some.source) (sym inv.same_store) (next_of _ _ _ _ _ _ _ _ _ _ _ c.in-Some.source inv c.in-Some.ensures.steps.0)

pub loop-source-preserved : goal.loop-source-preserved
loop-source-preserved g c =
    let inv = c.loop-source.invariant.opening in
    let done = c.in_ok-open_source.ensures in
    let pushed : c.push.new.self.items ≡ c.loop-source.lanes.items ++ c.in_ok-open_source.field-0 ∷ [] = search rules in
    record {
      finite = (tt, tt);
      opening = opening_more _ _ _ _ _ _ _ _ _ _ (into_iter_items c.loop-source.source-iterator) (into_iter_items c.next.new.self) c.loop-source.lanes.items c.push.new.self.items c.in-Some.source c.in_ok-open_source.field-0
          inv c.in-Some.ensures.steps.0 pushed done.opens (subst (λ s. IsLaneOfStore g.P.Right.ReadRight.file s c.in_ok-open_source.field-0) (done.same_store ∙ inv.same_store) done.of_store) done.same_store done.later;
    }

pub returns-in_err-open_source-clause-reason : goal.returns-in_err-open_source-clause-reason
returns-in_err-open_source-clause-reason g c = λ pages truth.
    let file = g.P.Right.ReadRight.file in
    let inv = c.loop-source.invariant.opening in
    let p = err_from_is_err_and c.from_residual.result c.from_residual.ensures.1 in
    rw (p.1, p.2) (next_fault _ _ _ (IsToldSource file pages) _ _ _ _ _ _ _ _ _ c.in-Some.source c.in_err-open_source.field-0.0 inv c.in-Some.ensures.steps.0
    (c.in_err-open_source.ensures.reason pages (next_all _ _ _ (IsTrueSource file (c.args.device.now, c.args.measurement.now) pages) _ _ _ _ _ _ _ _ c.in-Some.source inv c.in-Some.ensures.steps.0 truth)))

pub returns-in_err-open_source-clause-same_store : goal.returns-in_err-open_source-clause-same_store
returns-in_err-open_source-clause-same_store g c = c.in_err-open_source.ensures.same_store ∙ c.loop-source.invariant.opening.same_store

pub returns-in_err-push-clause-reason : goal.returns-in_err-push-clause-reason
returns-in_err-push-clause-reason g c = λ pages truth.
    let before = c.loop-source.invariant.opening.later in
    let later = c.in_ok-open_source.ensures.later in
    let p = err_from_is_err_and c.from_residual-in_err-push.result c.from_residual-in_err-push.ensures.1 in
    rw p.1 (reason_memory _ _ _ _ (omega (arith, before, later)) p.2)

pub returns-in_err-push-clause-same_store : goal.returns-in_err-push-clause-same_store
returns-in_err-push-clause-same_store g c = c.in_ok-open_source.ensures.same_store ∙ c.loop-source.invariant.opening.same_store

pub returns-clause-opens : goal.returns-clause-opens
returns-clause-opens g c =
    let none : into_iter_items c.loop-source.source-iterator ≡ [] = nil_from_length (into_iter_items c.loop-source.source-iterator) (sym c.loop-source.source-iterator.rest.ok.0 ∙ c.in-None.ensures.steps.0) in
    all_opened _ _ _ _ _ _ _ _ _ _ c.loop-source.invariant.opening none

pub returns-clause-of_store : goal.returns-clause-of_store
returns-clause-of_store g c =
    let inv = c.loop-source.invariant.opening in
    subst (λ s. All (IsLaneOfStore g.P.Right.ReadRight.file s) c.loop-source.lanes.items) (sym inv.same_store) inv.lanes_of

pub returns-clause-reason : goal.returns-clause-reason
returns-clause-reason g c = λ pages truth. reason_ok _ _ _ _ c.loop-source.invariant.opening.later

pub returns-clause-same_store : goal.returns-clause-same_store
returns-clause-same_store g c = c.loop-source.invariant.opening.same_store

pub returns-in_err-open_source-clause-later : goal.returns-in_err-open_source-clause-later
returns-in_err-open_source-clause-later g c = omega (arith, c.loop-source.invariant.opening.later, c.in_err-open_source.ensures.later)

pub returns-in_err-push-clause-later : goal.returns-in_err-push-clause-later
returns-in_err-push-clause-later g c = omega (arith, c.loop-source.invariant.opening.later, c.in_ok-open_source.ensures.later)

pub returns-clause-later : goal.returns-clause-later
returns-clause-later g c = c.loop-source.invariant.opening.later
