use Rattle.std.proofs.lemmas.Grind.{common_steps}
use Rattle.std.proofs.Common.{refl, arith}
use Rattle.std.proofs.lemmas.Bool.{false≢true}
use Rattle.std.proofs.lemmas.Int.{ints}
use Rattle.tsdb_base.proofs.RisingLemmas.{rising_from_adjacent, not_rising}
use Rattle.tsdb_base.proofs.rising.is_rising.Goals as goal

pub returns-then-points-i : goal.returns-then-points-i
returns-then-points-i c =
    let x = c.index-points-i.result in
    let y = c.index-points-i-in-loop-i.result in
    (λ e. absurd (false≢true e), λ rising. absurd (not_rising c.args.points.now c.loop-i.i x y (omega arith) (omega arith) c.index-points-i.is c.index-points-i-in-loop-i.is (grind (arith, ints)) rising))

pub returns : goal.returns
returns c = (λ _. rising_from_adjacent c.args.points.now (λ k d l. c.loop-i.invariant k d (omega arith)), λ _. refl)

pub loop-i-preserved : goal.loop-i-preserved
loop-i-preserved c = grind (arith, common_steps)
