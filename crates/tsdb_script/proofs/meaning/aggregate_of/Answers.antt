use Rattle.std.proofs.Common.{[]}
use Rattle.tsdb_script.proofs.WordLists.{bad_behind, passed_on}
use Rattle.tsdb_script.proofs.meaning.aggregate_of.Goals as goal

pub returns-in_err-read_aggregate-in-Some-clause-bad : goal.returns-in_err-read_aggregate-in-Some-clause-bad
returns-in_err-read_aggregate-in-Some-clause-bad c =
    rw c.in-Some.is (passed_on _ _ _ _ c.from_residual.ensures.1 c.in_err-read_aggregate-in-Some.ensures.bad (λ kind bad. bad_behind [] _ _ kind tt bad))
