use Rattle.std.proofs.Common.{rules}
use Rattle.std.proofs.Common.{arith}
use Rattle.std.proofs.lemmas.Grind.{common_steps}
use Rattle.tsdb_base.proofs.text.Text.new.Goals as goal

pub returns-then-bytes-le-MAX_SHORT-clause-same : goal.returns-then-bytes-le-MAX_SHORT-clause-same
returns-then-bytes-le-MAX_SHORT-clause-same c = grind (arith, common_steps)

pub invariant_of-result-2 : goal.invariant_of-result-2
invariant_of-result-2 c = search rules

pub returns-clause-too_long : goal.returns-clause-too_long
returns-clause-too_long c = search rules

pub returns-in_err-from_slice-clause-too_long : goal.returns-in_err-from_slice-clause-too_long
returns-in_err-from_slice-clause-too_long c = search rules

pub returns-clause-same : goal.returns-clause-same
returns-clause-same c = search rules
