use Rattle.std.proofs.Common.{List, subst, arith, rules, to_z, w64}
use Rattle.std.specs.Prelude.{All, ◌≤ℤ◌}
use Rattle.std.proofs.lemmas.List.{take_all}
use Rattle.tsdb_plan.specs.declared.entry.Hull.{Hull}
use Rattle.tsdb_plan.proofs.Walk.{least_more}
use Rattle.tsdb_plan.proofs.overlap.least_time.Goals as goal

pub loop-hull-preserved : goal.loop-hull-preserved
loop-hull-preserved c = least_more c.args.hulls.now c.loop-hull.hull-index c.hull-item.result _ _ (omega arith) c.hull-item.is c.loop-hull.invariant (search rules) (search rules)

pub returns : goal.returns
returns c = subst (λ (hulls : List Hull). All (λ hull. to_z w64 c.loop-hull.least-bits ≤ℤ hull.from) hulls) (take_all c.loop-hull.hull-index c.args.hulls.now (omega arith)) c.loop-hull.invariant
