use Rattle.std.proofs.Common.{eqb, arith}
use Rattle.std.proofs.lemmas.List.Splits.{length-slice_split}
use Rattle.tsdb_path.specs.Nodes.{dot}
use Rattle.tsdb_path.proofs.scan.count_nodes.Goals as goal

pub returns : goal.returns
returns c = omega (arith, length-slice_split (λ b. eqb b dot) c.args.bytes.now, c.count_dots.ensures.value)
