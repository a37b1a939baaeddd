use Rattle.std.proofs.Common.{rules, arith}
use Rattle.tsdb_turn.specs.Values.{Follows, IsTurnKept}
use Rattle.tsdb_turn.proofs.Steps.{draws}
use Rattle.tsdb_turn.proofs.turn.Turn.draw.Goals as goal

pub fetch_add-requires : goal.fetch_add-requires
fetch_add-requires g c =
    let shared = c.self.inside.table.shared in
    let seats = shared.key.seats in
    let seat = c.args.seat.now in (
      search rules,
      omega arith,
      draws (Follows g.V.Logged) (IsTurnKept g.V.Logged seats shared.key.start.value) seats shared.key.start.value shared.table_id.slots seat.id seat.me c.requires.outside.0 c.requires.outside.1,
    )
