use Rattle.std.proofs.Common.{◌∙◌, inl, ◌⊎◌, subst, refl, arith}
use Rattle.std.specs.List.{AllByRecursion as Each}
use Rattle.std.proofs.lemmas.List.{take_all}
use Rattle.tsdb_inner.proofs.Lists.{damage_more}
use Rattle.tsdb_inner.specs.Inputs.{TellsBytes}
use Rattle.tsdb_base.specs.Causes.{Rose}
use Rattle.tsdb_inner.proofs.inputs.count_damage.Goals as goal

pub loop-input-init : goal.loop-input-init
loop-input-init g c = (inl tt, omega arith, refl)

pub loop-input-preserved : goal.loop-input-preserved
loop-input-preserved g c =
    let inv = c.loop-input.invariant in
    let done = c.spoiled.ensures in (
      damage_more (λ input. (g.F.Right.ReadRight.file input.right).bytes) c.args.inputs.now c.loop-input.input-index
          c.input-item.result _ _ _ c.loop-input-test.true c.input-item.is inv.1 done.later done.rose inv.0,
      omega (arith, inv.1, done.later),
      done.same_store ∙ inv.2,
    )

pub returns-clause-counted : goal.returns-clause-counted
returns-clause-counted g c =
    subst (λ l. (Each (TellsBytes g.F.Right.ReadRight.file) l)
    ⊎ Rose (g.F.Port.Counted.faults c.args.port.now) (g.F.Port.Counted.faults c.loop-input.port))
    (take_all c.loop-input.input-index c.args.inputs.now c.loop-input-test.false) c.loop-input.invariant.0

pub returns-clause-later : goal.returns-clause-later
returns-clause-later g c = c.loop-input.invariant.1

pub returns-clause-same_store : goal.returns-clause-same_store
returns-clause-same_store g c = c.loop-input.invariant.2
