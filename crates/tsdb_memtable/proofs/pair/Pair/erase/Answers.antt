use Rattle.std.proofs.Common.{◌≡◌, ◌+◌, ◌≤◌, None, ap, sym, subst, ◌∙◌, arith}
use Rattle.std.specs.Map.{lookup}
use Rattle.tsdb_memtable.specs.Model.{most_bytes}
use Rattle.tsdb_memtable.specs.Limits.{max_bytes}
use Rattle.tsdb_memtable.specs.Pairs.{Pair, without_range, is_series, series_at}
use Rattle.tsdb_memtable.specs.PairModel.{most_of}
use Rattle.tsdb_memtable.proofs.PairLemmas.{can-swap, swapped, swapped-most, set-none}
use Rattle.tsdb_memtable.proofs.pair.Pair.erase.Goals as goal

pub returns-in_default : goal.returns-in_default
returns-in_default c =
    let Absent : Pair → Type 0 = λ pair. lookup (is_series c.args.series.0) pair ≡ None in
    let pair = c.args.self.now in
    ap (λ m. m.entries) c.get_mut.follows.holds-at-none ∙ c.self.view_is
    ∙ sym (set-none c.args.series.0 pair (without_range c.args.range.now (series_at c.args.series.0 pair)) (subst Absent c.self.view_is (sym c.in_default.ensures.value)))

pub swap-self-inside-requires : goal.swap-self-inside-requires
swap-self-inside-requires c =
    can-swap c.self.inside.series.entries c.args.series.0 c.in-Some.points.now c.erase.new.self c.self.inside.totals c.totals-before.result c.totals.result (sym c.in-Some.ensures.value)
    c.self.invariant.totals c.totals-before.ensures c.totals.ensures (omega (arith, c.erase.ensures.most, c.self.invariant.most))

pub invariant_of-self-2 : goal.invariant_of-self-2
invariant_of-self-2 c =
    let most : most_of c.self.inside.totals + most_bytes c.erase.new.self ≤ max_bytes + most_bytes c.in-Some.points.now = omega (arith, c.erase.ensures.most, c.self.invariant.most) in
    record {
      totals = swapped c.self.inside.series.entries (c.get_mut.follows.lender c.erase.new.self).entries c.args.series.0 c.in-Some.points.now c.erase.new.self c.self.inside.totals _ _ c.swap-self-inside.result
          (sym c.in-Some.ensures.value) c.self.invariant.totals c.totals-before.ensures c.totals.ensures c.swap-self-inside.ensures (c.get_mut.follows.holds c.erase.new.self).0;
      most = swapped-most c.in-Some.points.now c.erase.new.self c.self.inside.totals _ _ c.swap-self-inside.result c.totals-before.ensures c.totals.ensures c.swap-self-inside.ensures most;
      rising = (c.get_mut.follows.holds c.erase.new.self).4;
    }
