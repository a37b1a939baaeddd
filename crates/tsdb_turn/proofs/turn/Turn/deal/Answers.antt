use Rattle.std.proofs.Common.{◌≡◌, ◌+◌, rules, List, [], ◌∷◌, ◌++◌, None, Some, suc, vec_len, ◌<◌, ap, sym, subst, ◌∙◌, arith}
use Rattle.std.proofs.lemmas.List.Elements.{All-pop}
use Rattle.tsdb_turn.specs.Passes.{PassState, TurnState, seats_of, new_pass, new_passes}
use Rattle.tsdb_turn.specs.Rule.{bells_at, known, view}
use Rattle.tsdb_turn.specs.Values.{Follows, IsTurnKept}
use Rattle.tsdb_turn.specs.declared.view.PassMarks.{PassMarks}
use Rattle.tsdb_turn.specs.declared.view.Stage.TheVariants.{Outside}
use Rattle.tsdb_turn.proofs.Seats.{splits, dealt_parts, passes_more}
use Rattle.tsdb_turn.proofs.turn.Turn.deal.Goals as goal

pub split_seat-own-requires : goal.split_seat-own-requires
split_seat-own-requires g c =
    let shared = c.self.inside.table.shared in
    let seats = shared.key.seats in
    let seat = c.loop-own_marks.seat in (
      search rules,
      omega arith,
      splits (Follows g.V.Logged) (IsTurnKept g.V.Logged seats shared.key.start.value) seats shared.key.start.value seat.id seat.me.0 (ap (λ m. m.0.stage) c.loop-own_marks.invariant.seat),
    )

pub outside-requires : goal.outside-requires
outside-requires g c =
    let start = c.args.self.now.start in
    let n = c.loop-own_marks.number in
    let own = (All-pop (λ (m : PassMarks g.row.V.Denot). (m.start.value ≡ start) × (m.last.value ≡ start)) c.loop-own_marks.marks.items c.pop.new.self.items (Some c.in-Some.own_marks) c.in-Some.ensures.items c.loop-own_marks.invariant.marks).1 in
    let parts = dealt_parts c.loop-own_marks.seat.me start n (vec_len c.pop.new.self) (vec_len c.loop-own_marks.marks) (omega (arith, c.in-Some.ensures.cases)) c.loop-own_marks.invariant.seat in
    let words = subst (λ (t : TurnState g.row.V.Denot). t.id.words ≡ bells_at + t.seats) c.self.view_is c.self.invariant.bells in
    let count = c.loop-own_marks.invariant.count in
    record {
      sits = c.split_seat-own.ensures.4 ∙ (λ i. (parts.0 i, [])) ∙ (λ i. (view Outside (known n (sym own.0 i) (sym own.1 i) ∷ []), []));
      below = subst (λ id. n < seats_of id) (sym (c.split_seat-own.ensures.3 ∙ c.loop-own_marks.invariant.table)) (omega (arith, c.in-Some.ensures.cases));
    }

pub loop-own_marks-preserved : goal.loop-own_marks-preserved
loop-own_marks-preserved g c =
    let turn = c.args.self.now in
    let start = turn.start in
    let loop = c.loop-own_marks in
    let n = loop.number in
    let more = vec_len c.pop.new.self in
    let less : vec_len loop.marks ≡ suc more = omega (arith, c.in-Some.ensures.cases) in
    let own = All-pop (λ (m : PassMarks g.row.V.Denot). (m.start.value ≡ start) × (m.last.value ≡ start)) loop.marks.items c.pop.new.self.items (Some c.in-Some.own_marks) c.in-Some.ensures.items loop.invariant.marks in
    let parts = dealt_parts loop.seat.me start n more (vec_len loop.marks) less loop.invariant.seat in
    let split = c.split_seat-own.ensures in
    let pushed = c.push_reserved.ensures in
    let own_pass : c.outside.result ≡ new_pass turn.id start n =
    c.outside.ensures ∙ (λ i. record { turn = (split.3 ∙ loop.invariant.table) i; number = n; start = own.1.0 i; last = own.1.1 i; entered = None }) in
    record {
      table = split.0 ∙ loop.invariant.table;
      seat = split.2 ∙ (λ i. (parts.1 i, ap (λ m. m.1) loop.invariant.seat i));
      marks = own.0;
      count = omega (arith, c.in-Some.ensures.cases);
      room = pushed.capacity ∙ loop.invariant.room;
      filled = let len = pushed.len in omega arith;
      passes =
          ap (λ (ps : List (PassState g.row.V.Denot)). ps ++ new_passes turn.id start (n + 1) more) (pushed.items ∙ ap (λ (p : PassState g.row.V.Denot). loop.passes.items ++ p ∷ []) own_pass)
          ∙ passes_more loop.passes.items turn.id start n more (vec_len loop.marks) less
          ∙ loop.invariant.passes;
    }

pub loop-own_marks-init : goal.loop-own_marks-init
loop-own_marks-init c = search rules
