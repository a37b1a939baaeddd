use Rattle.std.proofs.Common.{◌≡◌, take, refl, subst, ⊎_elim, arith}
use Rattle.std.proofs.lemmas.Bool.{false≢true}
use Rattle.std.proofs.lemmas.List.{take_all}
use Rattle.tsdb_plan.specs.Files.{AreHullsRising}
use Rattle.tsdb_plan.proofs.Walk.{rising_more, not_rising}
use Rattle.tsdb_plan.proofs.overlap.are_rising.Goals as goal

pub returns-in-Equal : goal.returns-in-Equal
returns-in-Equal c =
    let x = c.index-hulls-i.result in
    let y = c.index-hulls-i-in-loop-i.result in
    (λ e. absurd (false≢true e), λ rising. absurd (not_rising c.args.hulls.now c.loop-i.i x y (omega arith) (omega arith) c.index-hulls-i.is c.index-hulls-i-in-loop-i.is (λ less. ⊎_elim (λ e. cc) (λ e. cc) c.in-Equal.is) rising))

pub loop-i-preserved : goal.loop-i-preserved
loop-i-preserved c =
    let x = c.index-hulls-i.result in
    let y = c.index-hulls-i-in-loop-i.result in
    rising_more c.args.hulls.now c.loop-i.i x y (omega arith) (omega arith) c.index-hulls-i.is c.index-hulls-i-in-loop-i.is c.loop-i.invariant cc

pub returns : goal.returns
returns c =
    let all : take c.loop-i.i c.args.hulls.now ≡ c.args.hulls.now = take_all c.loop-i.i c.args.hulls.now (omega arith) in
    (λ _. subst AreHullsRising all c.loop-i.invariant, λ _. refl)
