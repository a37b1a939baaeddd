use Rattle.std.proofs.Common.{◌≡◌, ap, subst, sym, ◌∙◌}
use Rattle.tsdb_turn.specs.Passes.{TurnState, IsLastOf}
use Rattle.tsdb_turn.specs.Values.{Follows, IsTurnKept}
use Rattle.tsdb_turn.proofs.Seats.{Closes, closes}
use Rattle.tsdb_turn.proofs.turn.Turn.close.Given.{Over}
use Rattle.tsdb_turn.proofs.turn.Turn.close.Goals as goal
use Rattle.tsdb_turn.proofs.turn.Turn.close.Goals.{After-take}

-- what the slot held
taken : (g : Over) (c : After-take g) → Closes (Follows g.V.Logged) (IsTurnKept g.V.Logged c.args.self.seats c.args.self.start) c.args.self.seats c.args.passes.items c.take.result
taken g c =
    let shared = c.self.inside.table.shared in
    let turn_same = c.self.view_is in
    let seats_same : shared.key.seats ≡ c.args.self.seats = ap (λ (t : TurnState g.row.V.Denot). t.seats) turn_same in
    let seat = c.gather-seat.result in
    subst (λ (t : TurnState g.row.V.Denot). Closes (Follows g.V.Logged) (IsTurnKept g.V.Logged t.seats t.start) t.seats c.args.passes.items c.take.result) turn_same
    (closes (Follows g.V.Logged) (IsTurnKept g.V.Logged shared.key.seats shared.key.start.value) shared.key.seats shared.key.start.value seat.id seat.me c.args.passes.items _ _ c.take.result
    c.gather-seat.ensures.seat (sym c.args.passes.ok.0 ∙ c.requires.all ∙ sym seats_same) c.close_with-closed.ensures.values.2 c.take.ensures.value)

pub unreachable-requires : goal.unreachable-requires
unreachable-requires g c =
    let h = taken g (goal.at.unreachable-requires g c).After-take in
    let is = h.is in
    c.in_default.not-Some h.value is

pub returns-clause-value : goal.returns-clause-value
returns-clause-value g c =
    let h = taken g (goal.at.returns-clause-value g c).After-take in
    let same : h.value ≡ c.in-Some.value = let is = h.is in let found = c.in-Some.is in cc in
    rw (← same) h.follows

pub returns-clause-last : goal.returns-clause-last
returns-clause-last g c =
    let h = taken g (goal.at.returns-clause-last g c).After-take in
    let same : h.value ≡ c.in-Some.value = let is = h.is in let found = c.in-Some.is in cc in
    subst (λ value. IsLastOf c.args.passes.items value) same h.latest

pub returns-clause-passes : goal.returns-clause-passes
returns-clause-passes g c = (taken g (goal.at.returns-clause-passes g c).After-take).numbers

pub returns-clause-kept : goal.returns-clause-kept
returns-clause-kept g c =
    let h = taken g (goal.at.returns-clause-kept g c).After-take in
    let same : h.value ≡ c.in-Some.value = let is = h.is in let found = c.in-Some.is in cc in
    subst (λ value. IsTurnKept g.V.Logged c.args.self.seats c.args.self.start value) same h.keeps
