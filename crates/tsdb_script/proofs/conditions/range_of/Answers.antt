use Rattle.std.specs.Prelude.{FitsSigned}
use Rattle.std.specs.Int.{w64}
use Rattle.std.proofs.lemmas.Int.{to_z-of_z}
use Rattle.tsdb_script.specs.Meaning.{Number}
use Rattle.tsdb_script.proofs.WordLists.{bad_at, good_next, passed_on}
use Rattle.tsdb_script.proofs.Ranges.{range_next}
use Rattle.tsdb_script.proofs.conditions.range_of.Goals as goal

pub returns-in_err-number-clause-bad : goal.returns-in_err-number-clause-bad
returns-in_err-number-clause-bad c =
    passed_on _ _ _ _ c.from_residual.ensures.1 c.in_err-number.ensures.bad
    (λ kind bad. bad_at (λ condition. Number condition.number) _ _ _ kind c.loop-condition-test.true c.condition-item.is c.loop-condition.invariant.good bad)

pub loop-condition-preserved : goal.loop-condition-preserved
loop-condition-preserved c =
    let fits : FitsSigned w64 c.in_ok-number.number = c.in_ok-number.ensures.found.fits in
    let times = simp to_z-of_z at c.bounds_of.ensures.times in
    record {
      found = range_next _ _ _ _ _ _ _ c.loop-condition-test.true c.condition-item.is c.loop-condition.invariant.found c.in_ok-number.ensures.found times
          c.intersection-range.ensures.times c.intersection-range.ensures.form;
      good = good_next (λ condition. Number condition.number) _ _ _ c.loop-condition-test.true c.condition-item.is c.loop-condition.invariant.good (c.in_ok-number.number, c.in_ok-number.ensures.found);
    }
