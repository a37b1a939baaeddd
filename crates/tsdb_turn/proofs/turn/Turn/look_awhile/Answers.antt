use Rattle.std.proofs.Common.{sym, subst, ◌∙◌}
use Rattle.tsdb_turn.specs.Steps.{SitsWaiting}
use Rattle.tsdb_turn.proofs.turn.Turn.look_awhile.Goals as goal

pub look-served-requires-clause-own : goal.look-served-requires-clause-own
look-served-requires-clause-own g c = c.loop-looks.invariant.table ∙ c.requires.own

pub look-served-requires-clause-waiting : goal.look-served-requires-clause-waiting
look-served-requires-clause-waiting g c = subst (λ m. SitsWaiting c.args.ticket m) (sym c.loop-looks.invariant.seat) c.requires.waiting
