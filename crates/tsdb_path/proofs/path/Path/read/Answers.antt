use Rattle.std.proofs.Common.{Ok, rules}
use Rattle.std.specs.Prelude.{IfOk, IfErr}
use Rattle.tsdb_path.specs.Nodes.{IsPath}
use Rattle.tsdb_path.specs.Refusals.{RefusesPath}
use Rattle.tsdb_path.proofs.Reasons.{one_path_reason, memory_alone, reason_is_answer}
use Rattle.tsdb_path.proofs.path.Path.read.Goals as goal

pub returns-in_err-check_path-clause-good : goal.returns-in_err-check_path-clause-good
returns-in_err-check_path-clause-good c =
    let h : IfErr c.from_residual.result (RefusesPath c.args.bytes.now) = search rules in
    memory_alone (RefusesPath c.args.bytes.now) (one_path_reason c.args.bytes.now) c.from_residual.result h

pub returns-in_err-check_path-clause-refused : goal.returns-in_err-check_path-clause-refused
returns-in_err-check_path-clause-refused c =
    let h : IfErr c.from_residual.result (RefusesPath c.args.bytes.now) = search rules in
    let k : IfOk c.from_residual.result (λ _. IsPath c.args.bytes.now) = search rules in
    reason_is_answer (RefusesPath c.args.bytes.now) (one_path_reason c.args.bytes.now) c.from_residual.result k h

pub returns-in_err-bytes-clause-refused : goal.returns-in_err-bytes-clause-refused
returns-in_err-bytes-clause-refused c =
    let h : IfErr c.from_residual-in_err-bytes.result (RefusesPath c.args.bytes.now) = search rules in
    let k : IfOk c.from_residual-in_err-bytes.result (λ _. IsPath c.args.bytes.now) = search rules in
    reason_is_answer (RefusesPath c.args.bytes.now) (one_path_reason c.args.bytes.now) c.from_residual-in_err-bytes.result k h

pub returns-clause-refused : goal.returns-clause-refused
returns-clause-refused c =
    reason_is_answer (RefusesPath c.args.bytes.now) (one_path_reason c.args.bytes.now) (Ok c.in_ok-bytes.bytes.items) c.in_ok-check_path.ensures.ok (search rules)
