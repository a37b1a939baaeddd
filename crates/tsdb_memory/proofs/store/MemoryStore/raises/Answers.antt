use Rattle.std.proofs.Common.{◌≡◌, ◌+◌, ◌++◌, ◌∷◌, [], List, Option, get_or, refl, subst, sym, take}
use Rattle.std.specs.Prelude.{IfSome}
use Rattle.tsdb_base.specs.declared.ids.SeriesId.{SeriesId}
use Rattle.tsdb_base.specs.Lists.{Among}
use Rattle.tsdb_memory.proofs.Raises.{AreRaisesOf, all_raises, no_raises, none_joins, raise_joins}
use Rattle.tsdb_memory.specs.Freezing.{IsRaiseOf}
use Rattle.tsdb_memory.specs.declared.freezing.Raise.{Raise}
use Rattle.tsdb_memory.proofs.store.MemoryStore.raises.Goals as goal
use Rattle.tsdb_memory.proofs.store.MemoryStore.raises.Goals.{in-Some+in_ok-push, in_default}

pub loop-series-init : goal.loop-series-init
loop-series-init c = no_raises c.args.self.now.series c.args.self.now.working c.new-raises.result.items
    c.new-raises.ensures.items

pub returns : goal.returns
returns c =
    all_raises c.args.self.now.series c.args.self.now.working c.deref-series-items.result.now
    c.loop-series.series-index c.loop-series.raises.items c.loop-series-test.false c.loop-series.invariant
    (λ number point among. subst (λ (l : List SeriesId). Among (record { 0 = number }) l)
    (sym c.deref-series-items.ensures.value) (c.in_ok-sequence_series.ensures number point among))

pub loop-series-preserved : goal.loop-series-preserved
loop-series-preserved c =
    let series = c.args.self.now.series in
    let pair = c.args.self.now.working in
    let d : SeriesId = record { 0 = 0 } in
    let id = get_or c.deref-series-items.result.now c.loop-series.series-index d in
    elim c.match-branch-3.branch [
      | in-Some+in_ok-push w ↦
          let same = w.raises-is in
          let pushed = w.in_ok-push.ensures.items in
          let added : c.match-branch-3.raises.items ≡ c.loop-series.raises.items ++ w.in-Some.raise ∷ [] = cc in
          raise_joins series pair c.deref-series-items.result.now c.loop-series.series-index id d
          c.loop-series.raises.items c.loop-series-test.true refl
          c.loop-series.invariant w.in-Some.raise c.match-branch-3.raises.items
          (subst (λ (o : Option Raise). IfSome o (IsRaiseOf series pair id.0)) w.in-Some.is
          c.in_ok-raise.ensures.some) added
      | in_default w ↦
          let same = w.raises-is in
          let items : c.loop-series.raises.items ≡ c.match-branch-3.raises.items = cc in
          subst (AreRaisesOf series pair (take (c.loop-series.series-index + 1) c.deref-series-items.result.now))
          items
          (none_joins series pair c.deref-series-items.result.now c.loop-series.series-index id d
          c.loop-series.raises.items c.loop-series-test.true refl
          c.loop-series.invariant (c.in_ok-raise.ensures.none w.in_default.is))
    ]
