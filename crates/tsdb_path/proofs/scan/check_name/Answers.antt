use Rattle.std.proofs.Common.{rules}
use Rattle.tsdb_path.proofs.scan.check_name.Goals as goal

pub returns-else-is_node-clause-err : goal.returns-else-is_node-clause-err
returns-else-is_node-clause-err c = search rules

pub returns-then-is_node-clause-ok : goal.returns-then-is_node-clause-ok
returns-then-is_node-clause-ok c = search rules
