use Rattle.std.proofs.Common.{◌≡◌, ◌-◌, length, sym, rules, arith}
use Rattle.std.specs.Int.{w64}
use Rattle.std.proofs.lemmas.Int.{to_z-of_z}
use Rattle.tsdb_flush.proofs.Widening.{added_at_end, some_by_last, widened_at_end}
use Rattle.tsdb_flush.proofs.hulls.add_span.Goals as goal

pub returns-then-ends_in : goal.returns-then-ends_in
returns-then-ends_in c = record {
  ok = λ points span.
      let ended = rw (c.deref.ensures.value, c.if-ends_in.true) at c.ends_in.ensures in
      let wide = rw (to_z-of_z w64 c.args.from (search rules), to_z-of_z w64 c.args.to (search rules)) at c.widen.ensures in
      let sized : c.len-last.result ≡ length c.args.hulls.now.items = search rules in
      widened_at_end c.args.hulls.now.items points c.args.device c.args.from c.args.to c.index_mut.result.now c.widen.new.hull (c.len-last.result - 1) ended
      span (omega (arith, sized, some_by_last c.args.hulls.now.items ended.0 ended.1 ended.2)) (sym c.index_mut.ensures.value) wide;
}

pub returns-in_ok-push : goal.returns-in_ok-push
returns-in_ok-push c = record {
  ok = λ points span.
      let none = rw (c.deref.ensures.value, c.if-ends_in.false) at c.ends_in.ensures in
      rw (c.in_ok-push.ensures.items, to_z-of_z w64 c.args.from (search rules), to_z-of_z w64 c.args.to (search rules))
      (added_at_end c.args.hulls.now.items points c.args.device c.args.from c.args.to none span);
}
