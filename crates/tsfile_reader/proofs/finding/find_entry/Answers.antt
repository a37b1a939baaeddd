use Rattle.tsfile_reader.proofs.Finds.{tree_found}
use Rattle.tsfile_reader.proofs.finding.find_entry.Goals as goal

pub returns-clause-tree : goal.returns-clause-tree
returns-clause-tree g c = tree_found (g.P.Right.ReadRight.file c.args.right.now).bytes (c.args.device.now, c.args.measurement.now) c.look_up.result c.look_up.ensures.answers c.look_up.ensures.limit
