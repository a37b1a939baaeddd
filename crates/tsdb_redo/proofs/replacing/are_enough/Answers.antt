use Rattle.std.proofs.Common.{refl, rules}
use Rattle.tsdb_redo.proofs.Standing.{enough_by, some_enough}
use Rattle.tsdb_redo.proofs.replacing.are_enough.Goals as goal

pub returns-then-is_empty : goal.returns-then-is_empty
returns-then-is_empty c = enough_by c.args.sequence.now c.args.unsequence.now _ (search rules) (search rules)

pub returns : goal.returns
returns c = (λ yes. some_enough c.args.sequence.now c.args.unsequence.now (λ none. search rules), λ are. refl)
