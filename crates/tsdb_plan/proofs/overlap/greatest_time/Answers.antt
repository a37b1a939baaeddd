use Rattle.std.proofs.Common.{List, subst, arith, rules, to_z, w64}
use Rattle.std.specs.Prelude.{All, ◌≤ℤ◌}
use Rattle.std.proofs.lemmas.List.{take_all}
use Rattle.tsdb_plan.specs.declared.entry.Hull.{Hull}
use Rattle.tsdb_plan.proofs.Walk.{greatest_more}
use Rattle.tsdb_plan.proofs.overlap.greatest_time.Goals as goal

pub loop-hull-preserved : goal.loop-hull-preserved
loop-hull-preserved c = greatest_more c.args.hulls.now c.loop-hull.hull-index c.hull-item.result _ _ (omega arith) c.hull-item.is c.loop-hull.invariant (search rules) (search rules)

pub returns : goal.returns
returns c = subst (λ (hulls : List Hull). All (λ hull. hull.to ≤ℤ to_z w64 c.loop-hull.greatest-bits) hulls) (take_all c.loop-hull.hull-index c.args.hulls.now (omega arith)) c.loop-hull.invariant
