use Rattle.std.proofs.Common.{rules, subst}
use Rattle.std.specs.List.{AllZip}
use Rattle.std.proofs.lemmas.List.{take_all}
use Rattle.tsdb_pins.proofs.Lent.{zip_more}
use Rattle.tsdb_pins.specs.Reading.{IsLentAs}
use Rattle.tsdb_pins.proofs.lending.lend.Goals as goal

pub loop-source-preserved : goal.loop-source-preserved
loop-source-preserved g c = zip_more IsLentAs _ _ _ _ _ _ c.loop-source-test.true c.source-item.is c.loop-source.invariant c.lend_one.ensures (search rules)

pub returns : goal.returns
returns g c = subst (λ l. AllZip IsLentAs l c.loop-source.lent.items) (take_all c.loop-source.source-index _ c.loop-source-test.false) c.loop-source.invariant
