use Rattle.std.proofs.Common.{rules, ◌≡◌, ◌++◌, map, ap, sym, ◌∙◌, append-nil}
use Rattle.std.proofs.lemmas.List.{map-append}
use Rattle.std.proofs.lemmas.Map.Iter.{rest_more, rest_all}
use Rattle.std.specs.Map.Iter.{deref_pair}
use Rattle.tsdb_base.specs.declared.ids.SeriesId.{SeriesId}
use Rattle.tsdb_memtable.specs.Pairs.{table}
use Rattle.tsdb_memtable.proofs.PairLemmas.{id-passed, id-taken}
use Rattle.tsdb_memtable.proofs.pair.Pair.series.Goals as goal

pub loop-series-init : goal.loop-series-init
loop-series-init c =
    let first : c.into_iter-series-iterator.result ≡ c.self.inside.series.entries = c.into_iter-series-iterator.ensures.into_iter_gives.0 in
    rw c.new-all.ensures.items (ap (λ pair. map (λ entry. entry.0) (table c.args.space pair)) (first ∙ c.self.view_is))

pub loop-series-preserved-in-Continue-1 : goal.loop-series-preserved-in-Continue-1
loop-series-preserved-in-Continue-1 c =
    let is = rest_more deref_pair c.loop-series.series-iterator c.next.new.self c.next.result (c.in-Some.series, c.in-Some.points) c.in-Some.is c.next.ensures.steps in
    let ids = map (λ (id : SeriesId). id.0) c.loop-series.all.items in
    ap (λ items. map (λ (id : SeriesId). id.0) items ++ map (λ entry. entry.0) (table c.args.space c.next.new.self)) c.in_ok-push.ensures.items
    ∙ ap (λ l. l ++ map (λ entry. entry.0) (table c.args.space c.next.new.self)) (map-append _ c.loop-series.all.items _)
    ∙ id-taken c.args.space c.in-Some.points.now c.in-Some.series.now c.loop-series.series-iterator c.next.new.self ids is (search rules) ∙ c.loop-series.invariant

pub loop-series-preserved : goal.loop-series-preserved
loop-series-preserved c =
    let is = rest_more deref_pair c.loop-series.series-iterator c.next.new.self c.next.result (c.in-Some.series, c.in-Some.points) c.in-Some.is c.next.ensures.steps in
    ap (λ l. map (λ (id : SeriesId). id.0) c.loop-series.all.items ++ l) (sym (id-passed c.args.space c.in-Some.points.now c.in-Some.series.now c.loop-series.series-iterator c.next.new.self is (search rules))) ∙ c.loop-series.invariant

pub returns : goal.returns
returns c =
    let none = rest_all deref_pair c.loop-series.series-iterator c.next.new.self c.next.result c.in-None.is c.next.ensures.steps in
    let ids = map (λ (id : SeriesId). id.0) c.loop-series.all.items in
    sym (append-nil ids) ∙ ap (λ pair. ids ++ map (λ entry. entry.0) (table c.args.space pair)) (sym none) ∙ c.loop-series.invariant
