use Rattle.std.proofs.Common.{◌≡◌, Ok, ap, ◌∙◌, subst, rules, arith}
use Rattle.std.proofs.lemmas.Grind.{common_steps}
use Rattle.std.specs.Prelude.{IfOk, IfErr}
use Rattle.tsdb_path.specs.Nodes.{IsPath, node_count, child_of}
use Rattle.tsdb_path.specs.Refusals.{RefusesChild}
use Rattle.tsdb_path.proofs.Bytes.{IsNode-dotless}
use Rattle.tsdb_path.proofs.Parts.{node_count-child}
use Rattle.tsdb_path.proofs.Reasons.{one_child_reason, memory_alone, reason_is_answer}
use Rattle.tsdb_path.proofs.path.Path.child.Goals as goal

pub returns-in_err-check_child-clause-good : goal.returns-in_err-check_child-clause-good
returns-in_err-check_child-clause-good c =
    let path : IsPath c.args.self.now = subst IsPath c.self.view_is c.self.invariant in
    let h : IfErr c.from_residual.result (RefusesChild c.args.self.now c.args.name.now) = search rules in
    memory_alone (RefusesChild c.args.self.now c.args.name.now) (one_child_reason c.args.self.now c.args.name.now path c.bytes.ensures.name.node) c.from_residual.result h

pub returns-in_err-check_child-clause-refused : goal.returns-in_err-check_child-clause-refused
returns-in_err-check_child-clause-refused c =
    let path : IsPath c.args.self.now = subst IsPath c.self.view_is c.self.invariant in
    let h : IfErr c.from_residual.result (RefusesChild c.args.self.now c.args.name.now) = search rules in
    let k : IfOk c.from_residual.result (λ _. IsPath (child_of c.args.self.now c.args.name.now)) = search rules in
    reason_is_answer (RefusesChild c.args.self.now c.args.name.now) (one_child_reason c.args.self.now c.args.name.now path c.bytes.ensures.name.node) c.from_residual.result k h

pub returns-in_err-bytes-clause-refused : goal.returns-in_err-bytes-clause-refused
returns-in_err-bytes-clause-refused c =
    let path : IsPath c.args.self.now = subst IsPath c.self.view_is c.self.invariant in
    let h : IfErr c.from_residual-in_err-bytes.result (RefusesChild c.args.self.now c.args.name.now) = search rules in
    let k : IfOk c.from_residual-in_err-bytes.result (λ _. IsPath (child_of c.args.self.now c.args.name.now)) = search rules in
    reason_is_answer (RefusesChild c.args.self.now c.args.name.now) (one_child_reason c.args.self.now c.args.name.now path c.bytes.ensures.name.node) c.from_residual-in_err-bytes.result k h

pub returns-clause-refused : goal.returns-clause-refused
returns-clause-refused c =
    let path : IsPath c.args.self.now = subst IsPath c.self.view_is c.self.invariant in
    let good : IsPath (child_of c.args.self.now c.args.name.now) = search rules in
    reason_is_answer (RefusesChild c.args.self.now c.args.name.now) (one_child_reason c.args.self.now c.args.name.now path c.bytes.ensures.name.node) (Ok c.in_ok-bytes.bytes.items) good (search rules)

pub returns-clause-nodes : goal.returns-clause-nodes
returns-clause-nodes c =
    let e : c.in_ok-bytes.bytes.items ≡ child_of c.args.self.now c.args.name.now = search rules in
    ap node_count e ∙ node_count-child c.args.self.now c.args.name.now (IsNode-dotless c.args.name.now c.bytes.ensures.name.node)

pub join-requires : goal.join-requires
join-requires c = grind (arith, common_steps)
