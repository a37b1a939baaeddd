use Rattle.std.proofs.Common.{rules}
use Rattle.std.proofs.Common.{IsSomeAnd, option_map, subst, sym}
use Rattle.tsdb_turn.specs.Passes.{PassState}
use Rattle.tsdb_turn.specs.Rule.{known}
use Rattle.tsdb_turn.specs.Values.{Extends}
use Rattle.tsdb_turn.proofs.Steps.{sits_inside}
use Rattle.tsdb_turn.proofs.turn.Turn.leave.Goals as goal

pub put_back-requires-clause-inside : goal.put_back-requires-clause-inside
put_back-requires-clause-inside g c =
    let p = c.pass.inside in
    let k = known p.number p.marks.start.value p.marks.last.value in
    let owed = subst (λ (q : PassState g.row.V.Denot). IsSomeAnd q.entered (λ e. Extends g.V.Logged q.number q.start e c.args.value)) (sym c.pass.view_is) c.requires.value in
    let h = sits_inside k (option_map (λ s. s.value) p.entered) p.seat.me (λ e. Extends g.V.Logged k.number k.start e c.args.value) c.pass.invariant.sits owed in
    (h.0, k, h.1, h.2, h.3)

pub invariant_of-pass : goal.invariant_of-pass
invariant_of-pass c = search rules

pub returns : goal.returns
returns c = search rules
