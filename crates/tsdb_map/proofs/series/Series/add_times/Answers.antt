use Rattle.std.proofs.Common.{◌≡◌, ◌||◌, ap, sym, ◌∙◌, map, is_some, w64, to_z, of_z, rules}
use Rattle.std.proofs.lemmas.Int.{to_z-of_z}
use Rattle.std.specs.Ordering.{int_cmp}
use Rattle.std.specs.FinMap.{get-entries}
use Rattle.std.specs.FinMap.Entries.{find}
use Rattle.std.specs.Map.Iter.{deref_pair}
use Rattle.std.specs.BTreeSet as set
use Rattle.std.proofs.lemmas.Map.Iter.{iter_end}
use Rattle.tsdb_model.specs.Folds.{within}
use Rattle.tsdb_model.proofs.TimeLemmas.{seen-more}
use Rattle.tsdb_map.proofs.series.Series.add_times.Goals as goal

pub returns : goal.returns
returns c = λ q.
    let all : map deref_pair c.loop-time.yielded ≡ c.points_in-time-items.result =
    (iter_end deref_pair c.points_in-time-items.result c.loop-time.yielded c.into_iter-time-iterator.result c.loop-time.time-iterator c.next.new.self c.next.result
    c.into_iter-time-iterator.ensures.into_iter_gives c.loop-time.yielded_by c.in-None.is c.next.ensures.steps).0 in
    c.loop-time.invariant q
    ∙ ap (λ o. is_some o || set.contains int_cmp c.args.times.now q)
    (ap (find int_cmp q) (all ∙ c.points_in-time-items.ensures.points) ∙ sym (get-entries (within c.args.range.now c.args.self.now.points) q))

pub loop-time-preserved : goal.loop-time-preserved
loop-time-preserved c = λ q.
    let time : to_z w64 (of_z w64 c.in-Some.time.now) ≡ c.in-Some.time.now = to_z-of_z w64 c.in-Some.time.now (search rules) in
    seen-more c.loop-time.times c.insert.new.self _ c.in-Some.time c.in-Some.field-0-1 c.loop-time.yielded q (set.contains int_cmp c.args.times.now q)
    time (c.loop-time.invariant q) (c.in_ok-insert.ensures.updates.0 q)
