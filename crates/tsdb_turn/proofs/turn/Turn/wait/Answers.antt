use Rattle.std.proofs.Common.{sym, subst, ◌∙◌}
use Rattle.tsdb_turn.specs.Steps.{SitsWaiting}
use Rattle.tsdb_turn.proofs.turn.Turn.wait.Goals as goal

pub look_awhile-requires-clause-own : goal.look_awhile-requires-clause-own
look_awhile-requires-clause-own g c = c.loop.invariant.table ∙ c.requires.own

pub look_awhile-requires-clause-waiting : goal.look_awhile-requires-clause-waiting
look_awhile-requires-clause-waiting g c = subst (λ m. SitsWaiting c.args.ticket m) (sym c.loop.invariant.seat) c.requires.waiting

pub sleep-requires-clause-waiting : goal.sleep-requires-clause-waiting
sleep-requires-clause-waiting g c =
    subst (λ m. SitsWaiting c.args.ticket m) (sym (c.look_awhile.ensures.takes.miss c.if-look_awhile.false ∙ c.loop.invariant.seat)) c.requires.waiting
