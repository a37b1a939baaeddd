use Rattle.std.proofs.Common.{◌≡◌, ◌++◌, List, Option, Some, None, subst}
use Rattle.std.specs.Option.{option_to_list}
use Rattle.std.specs.Prelude.{◌<ℤ◌}
use Rattle.std.specs.Vec.Iter.{into_iter_items}
use Rattle.tsdb_base.specs.declared.point.Point.{Point}
use Rattle.tsdb_base.specs.Points.{IsRising}
use Rattle.tsdb_merge.proofs.MergeLemmas.{AllPairs-tail}
use Rattle.tsdb_merge.proofs.points.ListPointsPoints.pull.Goals as goal

still_rising : (before after : List Point) (point : Option Point) → before ≡ option_to_list point ++ after → IsRising before → IsRising after
still_rising before after None e h = subst IsRising e h
still_rising before after (Some p) e h = AllPairs-tail (λ a b. a.time <ℤ b.time) p after (subst IsRising e h)

pub invariant_of-self : goal.invariant_of-self
invariant_of-self c = record { rising = still_rising (into_iter_items c.args.self.now.left) (into_iter_items c.next.new.self) c.next.result c.next.ensures.items c.args.self.now.rising }
