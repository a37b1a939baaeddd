use Rattle.std.proofs.lemmas.Grind.{common_steps}
use Rattle.std.proofs.Common.{◌≡◌, ap, sym, map, is_some, arith}
use Rattle.std.specs.FinMap.{get-entries}
use Rattle.std.specs.Map.Iter.{deref}
use Rattle.std.proofs.lemmas.Map.Iter.{iter_end}
use Rattle.tsdb_model.specs.Folds.{within}
use Rattle.tsdb_map.proofs.RowLemmas.{rows-are, times-more}
use Rattle.tsdb_map.proofs.rows.rows.Goals as goal

pub returns : goal.returns
returns c =
    let all : map deref c.loop-time.yielded ≡ c.loop-column.times.keys =
    (iter_end deref c.loop-column.times.keys c.loop-time.yielded c.into_iter-time-iterator.result c.loop-time.time-iterator c.next.new.self c.next.result
    c.into_iter-time-iterator.ensures.into_iter_gives.0 c.loop-time.yielded_by c.in-None.is c.next.ensures.steps).0 in
    rows-are c.args.range.now c.args.columns.now c.loop-column.column-index c.loop-column.times (map deref c.loop-time.yielded) c.loop-time.lines.items c.loop-column-test.false
    c.len.ensures.ordered c.loop-column.invariant c.loop-time.invariant all

pub loop-column-preserved : goal.loop-column-preserved
loop-column-preserved c = λ q.
    times-more c.args.range.now c.args.columns.now c.loop-column.column-index c.column-item.result c.loop-column.times c.add_times.new.times q c.loop-column-test.true c.column-item.is
    (c.loop-column.invariant q) (c.in_ok-add_times.ensures q) (ap is_some (sym (get-entries (within c.args.range.now c.column-item.result.now.points) q)))

pub loop-time-preserved : goal.loop-time-preserved
loop-time-preserved c = grind (arith, common_steps)
