use Rattle.tsdb_path.specs.Steps.{IsBehindNodes}
use Rattle.tsdb_path.proofs.scan.check_nodes.Given as goal

abbrev pub invariant-loop-count : goal.invariant-loop-count
invariant-loop-count l = IsBehindNodes l.bytes l.rest l._count
