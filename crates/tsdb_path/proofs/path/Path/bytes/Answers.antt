use Rattle.std.proofs.Common.{subst}
use Rattle.tsdb_path.specs.Nodes.{IsPath}
use Rattle.tsdb_path.proofs.Parts.{IsPath-bytes}
use Rattle.tsdb_path.proofs.path.Path.bytes.Goals as goal

pub returns-clause-bytes : goal.returns-clause-bytes
returns-clause-bytes c = IsPath-bytes c.args.self.now (subst IsPath c.self.view_is c.self.invariant)
