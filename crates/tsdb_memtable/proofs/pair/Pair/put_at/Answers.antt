use Rattle.std.proofs.Common.{◌+◌, ◌<◌, ◌≤◌, Option, sym, subst, arith}
use Rattle.std.specs.Option.{unwrap_or}
use Rattle.tsdb_memtable.specs.Model.{most_bytes}
use Rattle.tsdb_memtable.specs.Limits.{max_bytes}
use Rattle.tsdb_memtable.specs.Pairs.{Pair, SeriesPoints, blank, spare_of}
use Rattle.tsdb_memtable.specs.PairModel.{most_of}
use Rattle.tsdb_memtable.proofs.PairLemmas.{can-swap, swapped, swapped-most}
use Rattle.tsdb_memtable.proofs.pair.Pair.put_at.Goals as goal

pub put-requires : goal.put-requires
put-requires c =
    let InPair : Pair → Type 0 = λ pair. 0 < spare_of c.args.series.0 pair in
    let Found : Option SeriesPoints → Type 0 = λ o. 0 < (unwrap_or o blank).spare in
    subst Found (sym c.in-Some.ensures.value) (subst InPair (sym c.self.view_is) c.requires)

pub swap-self-inside-requires : goal.swap-self-inside-requires
swap-self-inside-requires c =
    can-swap c.self.inside.series.entries c.args.series.0 c.in-Some.points.now c.put.new.self c.self.inside.totals c.totals-before.result c.totals.result (sym c.in-Some.ensures.value)
    c.self.invariant.totals c.totals-before.ensures c.totals.ensures (omega (arith, c.put.ensures.most, c.self.invariant.most))

pub invariant_of-self : goal.invariant_of-self
invariant_of-self c =
    let most : most_of c.self.inside.totals + most_bytes c.put.new.self ≤ max_bytes + most_bytes c.in-Some.points.now = omega (arith, c.put.ensures.most, c.self.invariant.most) in
    record {
      totals = swapped c.self.inside.series.entries (c.get_mut.follows.lender c.put.new.self).entries c.args.series.0 c.in-Some.points.now c.put.new.self c.self.inside.totals _ _ c.swap-self-inside.result
          (sym c.in-Some.ensures.value) c.self.invariant.totals c.totals-before.ensures c.totals.ensures c.swap-self-inside.ensures (c.get_mut.follows.holds c.put.new.self).0;
      most = swapped-most c.in-Some.points.now c.put.new.self c.self.inside.totals _ _ c.swap-self-inside.result c.totals-before.ensures c.totals.ensures c.swap-self-inside.ensures most;
      rising = (c.get_mut.follows.holds c.put.new.self).4;
    }
