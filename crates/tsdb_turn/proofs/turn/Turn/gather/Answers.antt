use Rattle.std.proofs.Common.{rules}
use Rattle.std.proofs.Common.{[], ◌++◌, Some, map, append-nil, ap, sym, ◌∙◌, arith}
use Rattle.std.proofs.lemmas.List.Elements.{All-pop}
use Rattle.tsdb_turn.specs.Passes.{TurnState, IsOutside}
use Rattle.tsdb_turn.specs.Steps.{pass_known}
use Rattle.tsdb_turn.specs.Values.{Follows, IsTurnKept}
use Rattle.tsdb_turn.proofs.Seats.{joins, known_more}
use Rattle.tsdb_turn.proofs.turn.Turn.gather.Goals as goal

pub loop-pass-init : goal.loop-pass-init
loop-pass-init g c =
    let id = c.args.self.now.id in
    let first = c.in-Some.first in
    let ys = c.pop.new.self.items in
    let items = c.in-Some.ensures.items in
    let outs = All-pop (IsOutside id) c.args.passes.items ys (Some first) items c.requires.outside in
    let seat = c.into_seat-seat.ensures in
    record {
      table = seat.own ∙ outs.1.own;
      stage = ap (λ m. m.0.stage) seat.seat;
      nothing = ap (λ m. m.1) seat.seat;
      outside = outs.0;
      known = ap (λ m. map pass_known ys ++ m.0.known) seat.seat ∙ known_more c.args.passes.items ys first [] items ∙ append-nil (map pass_known c.args.passes.items);
    }

pub into_seat-requires : goal.into_seat-requires
into_seat-requires g c =
    (All-pop (IsOutside c.args.self.now.id) c.loop-pass.passes.items c.pop-in-loop-pass.new.self.items (Some c.in-Some-pop.pass) c.in-Some-pop.ensures.items c.loop-pass.invariant.outside).1.outside

pub join_seat-requires : goal.join_seat-requires
join_seat-requires g c =
    let shared = c.self.inside.table.shared in
    let seats = shared.key.seats in
    let seat = c.loop-pass.seat in
    let other = c.into_seat.result in
    let known_id = ap (λ (t : TurnState g.row.V.Denot). t.id) c.self.view_is in
    let outs = (All-pop (IsOutside c.args.self.now.id) c.loop-pass.passes.items c.pop-in-loop-pass.new.self.items (Some c.in-Some-pop.pass) c.in-Some-pop.ensures.items c.loop-pass.invariant.outside).1 in (
      c.loop-pass.invariant.table ∙ sym known_id,
      c.into_seat.ensures.own ∙ outs.own ∙ sym known_id,
      ap (λ m. m.1) c.into_seat.ensures.seat,
      omega arith,
      joins (Follows g.V.Logged) (IsTurnKept g.V.Logged seats shared.key.start.value) seats shared.key.start.value seat.id seat.me.0 other.id other.me.0 c.loop-pass.invariant.stage (ap (λ m. m.0.stage) c.into_seat.ensures.seat),
    )

pub loop-pass-preserved : goal.loop-pass-preserved
loop-pass-preserved g c =
    let loop = c.loop-pass in
    let ys = c.pop-in-loop-pass.new.self.items in
    let pass = c.in-Some-pop.pass in
    let items = c.in-Some-pop.ensures.items in
    let outs = All-pop (IsOutside c.args.self.now.id) loop.passes.items ys (Some pass) items loop.invariant.outside in
    let join = c.join_seat.ensures in
    record {
      table = join.0 ∙ loop.invariant.table;
      stage = ap (λ m. m.0.stage) join.2 ∙ loop.invariant.stage;
      nothing = ap (λ m. m.1) join.2 ∙ loop.invariant.nothing;
      outside = outs.0;
      known =
          ap (λ m. map pass_known ys ++ m.0.known) join.2
          ∙ ap (λ m. map pass_known ys ++ (m.0.known ++ loop.seat.me.0.known)) c.into_seat.ensures.seat
          ∙ known_more loop.passes.items ys pass loop.seat.me.0.known items
          ∙ loop.invariant.known;
    }

pub returns-clause-seat : goal.returns-clause-seat
returns-clause-seat c = search rules
