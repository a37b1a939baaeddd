use Rattle.std.proofs.lemmas.Grind.{common_steps}
use Rattle.std.proofs.Common.{ap, sym, ◌∙◌, subst, arith}
use Rattle.std.specs.FinMap.{remove}
use Rattle.tsdb_map.specs.Pending.{IsPending}
use Rattle.tsdb_map.proofs.PendingLemmas.{create_cancelled}
use Rattle.tsdb_map.proofs.plain.Plain.cancel.Goals as goal
use Rattle.tsdb_path.specs.Nodes.{child_of}

pub returns-in-Create : goal.returns-in-Create
returns-in-Create c = λ before h.
    create_cancelled before c.args.self.now c.remove.new.self c.args.command.now c.in-Create.device c.in-Create.name
    (c.remove.ensures ∙ ap (λ w. remove w (child_of c.in-Create.device c.in-Create.name)) c.self.view_is)
    (subst (IsPending before c.args.self.now c.args.command.now) c.in-Create.is h)

pub returns-in-Insert-command : goal.returns-in-Insert-command
returns-in-Insert-command c = grind (arith, common_steps)

pub returns : goal.returns
returns c = grind (arith, common_steps)
