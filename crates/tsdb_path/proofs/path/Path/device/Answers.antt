use Rattle.std.proofs.Common.{◌≡◌, ◌+◌, ap, subst, sym, ◌∙◌, rules}
use Rattle.tsdb_path.specs.Nodes.{IsPath, node_count, device_of, measurement_of, child_of}
use Rattle.tsdb_path.proofs.Parts.{IsPath-device_of, child_of-device_of, node_count-device_of}
use Rattle.tsdb_path.proofs.path.Path.device.Goals as goal

pub invariant_of-result : goal.invariant_of-result
invariant_of-result c =
    let e : c.in_ok-bytes.bytes.items ≡ device_of c.args.self.now = search rules in
    subst IsPath (sym e) (IsPath-device_of c.args.self.now (subst IsPath c.self.view_is c.self.invariant) c.requires)

pub returns-clause-again : goal.returns-clause-again
returns-clause-again c =
    let e : c.in_ok-bytes.bytes.items ≡ device_of c.args.self.now = search rules in
    ap (λ l. child_of l (measurement_of c.args.self.now)) e ∙ child_of-device_of c.args.self.now c.requires

pub returns-clause-nodes : goal.returns-clause-nodes
returns-clause-nodes c =
    let e : c.in_ok-bytes.bytes.items ≡ device_of c.args.self.now = search rules in
    ap (λ l. node_count l + 1) e ∙ node_count-device_of c.args.self.now (subst IsPath c.self.view_is c.self.invariant) c.requires

pub returns-clause-value : goal.returns-clause-value
returns-clause-value c = search rules
