use Rattle.std.proofs.Common.{rules}
use Rattle.std.proofs.Common.{sym, subst}
use Rattle.tsdb_turn.specs.Steps.{SitsWaiting}
use Rattle.tsdb_turn.proofs.turn.Turn.sleep.Goals as goal

pub look_again-requires-clause-waiting : goal.look_again-requires-clause-waiting
look_again-requires-clause-waiting g c = subst (λ m. SitsWaiting c.args.ticket m) (sym c.announce-announced.ensures.seat) c.requires.waiting

pub park-requires-clause-announced : goal.park-requires-clause-announced
park-requires-clause-announced c = search rules
