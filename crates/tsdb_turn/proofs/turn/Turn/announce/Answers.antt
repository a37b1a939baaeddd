use Rattle.std.proofs.Common.{rules, bit_or, arith, ap}
use Rattle.tsdb_turn.specs.Values.{Follows, IsTurnKept}
use Rattle.tsdb_turn.proofs.Steps.{rings}
use Rattle.tsdb_turn.proofs.turn.Turn.announce.Goals as goal

pub fetch_or-word-requires : goal.fetch_or-word-requires
fetch_or-word-requires g c =
    let shared = c.self.inside.table.shared in
    let seat = c.args.seat.now in
    let words = ap (λ t. t.id.words) c.self.view_is in
    let word = c.bell_of-bell.ensures.word in (
      search rules,
      omega arith,
      rings (Follows g.V.Logged) (IsTurnKept g.V.Logged shared.key.seats shared.key.start.value) shared.key.seats shared.key.start.value shared.table_id.slots seat.id c.bell_of-bell.result seat.me (λ n. bit_or n 1) c.bell_of-bell.ensures.bell,
    )
