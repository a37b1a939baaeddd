use Rattle.std.proofs.Common.{ap, List, ℕ, ◌++◌, []}
use Rattle.tsdb_log.proofs.Bodies.{record_rows}
use Rattle.tsdb_log.proofs.laws.one_spelling.Goals as goal

pub returns : goal.returns
returns c = λ a b is_a is_b e. (record_rows.free a b [] [] is_a is_b (ap (λ (l : List ℕ). l ++ []) e)).0
