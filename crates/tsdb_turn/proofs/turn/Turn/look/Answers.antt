use Rattle.std.proofs.Common.{rules, arith, ap, sym, subst, ◌∙◌}
use Rattle.tsdb_turn.specs.Passes.{TurnState}
use Rattle.tsdb_turn.specs.Steps.{Learns}
use Rattle.tsdb_turn.specs.Values.{Follows, IsTurnKept}
use Rattle.tsdb_turn.proofs.Steps.{reads}
use Rattle.tsdb_turn.proofs.turn.Turn.look.Goals as goal

pub load-requires : goal.load-requires
load-requires g c =
    let shared = c.self.inside.table.shared in
    let seats = shared.key.seats in
    let start = shared.key.start.value in
    let seat = c.args.seat.now in
    let w = c.requires.waiting in
    let words = c.self.invariant.bells in (
      search rules,
      omega arith,
      reads (Follows g.V.Logged) (IsTurnKept g.V.Logged seats start) seats start g.L.Lesson.learns
          (λ k value knows kept.
          c.requires.lesson k.number k.start k.last value
          (subst (λ (t : TurnState g.row.V.Denot). Learns g.V.Logged t k.number k.start k.last value) c.self.view_is
          record { made = knows.made; opened = knows.opened; follows = knows.follows; kept = kept }))
          shared.table_id.slots seat.id seat.me w.0 w.1 w.3,
    )

pub returns-clause-looks : goal.returns-clause-looks
returns-clause-looks g c =
    let w = c.requires.waiting in
    let read = c.load.ensures.2 w.0 (ap (λ m. m.0.stage) w.3) in
    record {
      hit = λ e. (w.0, read.hit (e ∙ sym w.2));
      miss = λ ne. read.miss (λ e. ne (e ∙ w.2));
    }
