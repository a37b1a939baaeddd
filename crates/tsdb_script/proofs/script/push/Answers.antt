use Rattle.std.proofs.Common.{eqb, ap, ◌∙◌}
use Rattle.std.specs.List.{list_any}
use Rattle.tsdb_script.proofs.SessionLemmas.{pushed-known, pushed-new}
use Rattle.tsdb_script.proofs.script.push.Goals as goal
use Rattle.tsdb_script.proofs.script.push.Goals.{then-not-contains+in_ok-push, else-not-contains}

pub returns-clause-sessions : goal.returns-clause-sessions
returns-clause-sessions c =
    let script = c.args.script.now.items in
    let sessions = c.args.sessions.now.items in
    let pushed = c.push-2.new.self.items in
    let is = c.contains.ensures.value ∙ ap (list_any (λ y. eqb y c.args.numbered.session)) c.as_slice.ensures.value in
    elim c.if-not-contains.branch [
      | then-not-contains+in_ok-push w ↦ rw w.sessions-is
          (pushed-new sessions w.push.new.self.items script pushed c.args.numbered c.contains.result c.requires.sessions c.requires.room is w.if-not-contains.true w.in_ok-push.ensures.items c.in_ok-push-2.ensures.items)
      | else-not-contains w ↦ rw w.sessions-is
          (pushed-known sessions script pushed c.args.numbered c.contains.result c.requires.sessions is w.if-not-contains.false c.in_ok-push-2.ensures.items)
    ]
