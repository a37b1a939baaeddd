use Rattle.tsdb_script.proofs.WordLists.{bad_behind, bad_earlier, passed_on}
use Rattle.tsdb_script.proofs.meaning.item.Goals as goal

pub returns-in_err-aggregate-clause-bad : goal.returns-in_err-aggregate-clause-bad
returns-in_err-aggregate-clause-bad c = passed_on _ _ _ _ c.from_residual.ensures.1 c.in_err-aggregate.ensures.bad (λ kind bad. bad_earlier _ _ kind bad)

pub returns-in_err-measurement-clause-bad : goal.returns-in_err-measurement-clause-bad
returns-in_err-measurement-clause-bad c =
    passed_on _ _ _ _ c.from_residual-in_err-measurement.ensures.1 c.in_err-measurement.ensures.bad (λ kind bad. bad_behind _ _ _ kind c.in_ok-aggregate.ensures.good bad)
