use Rattle.std.proofs.Common.{◌≡◌, ◌-◌, length, sym, rules, arith}
use Rattle.std.specs.Int.{w64}
use Rattle.std.proofs.lemmas.Int.{to_z-of_z}
use Rattle.tsdb_recover.proofs.Summaries.{times_said}
use Rattle.tsdb_flush.proofs.Widening.{added_at_end, some_by_last, widened_at_end}
use Rattle.tsdb_recover.proofs.described_hulls.add_hull.Goals as goal

pub returns-then-ends_in : goal.returns-then-ends_in
returns-then-ends_in c = λ points stats rising.
    let entry = c.args.entry.now in
    let hulls = c.args.hulls.now.items in
    let from = entry.stats.start in
    let to = entry.stats.end in
    let ended = rw (c.deref.ensures.value, c.if-ends_in.true) at c.ends_in.ensures in
    let wide = rw (to_z-of_z w64 from (search rules), to_z-of_z w64 to (search rules)) at c.widen.ensures in
    let sized : c.len-last.result ≡ length hulls = search rules in
    widened_at_end hulls points entry.device from to c.index_mut.result.now c.widen.new.hull (c.len-last.result - 1) ended
    (times_said points entry.stats stats rising) (omega (arith, sized, some_by_last hulls ended.0 ended.1 ended.2))
    (sym c.index_mut.ensures.value) wide

pub returns-in_ok-push : goal.returns-in_ok-push
returns-in_ok-push c = λ points stats rising.
    let entry = c.args.entry.now in
    let hulls = c.args.hulls.now.items in
    let none = rw (c.deref.ensures.value, c.if-ends_in.false) at c.ends_in.ensures in
    rw (
      c.in_ok-push.ensures.items,
      c.in_ok-device.ensures,
      to_z-of_z w64 entry.stats.start (search rules),
      to_z-of_z w64 entry.stats.end (search rules),
    )
    (added_at_end hulls points entry.device entry.stats.start entry.stats.end none
    (times_said points entry.stats stats rising))
