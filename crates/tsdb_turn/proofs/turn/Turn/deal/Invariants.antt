use Rattle.std.proofs.Common.{◌≡◌, ◌+◌, ◌++◌, [], All, vec_len}
use Rattle.std.specs.Vec.{vec_capacity}
use Rattle.tsdb_turn.specs.Passes.{new_passes}
use Rattle.tsdb_turn.specs.Rule.{view}
use Rattle.tsdb_turn.specs.Steps.{dealt}
use Rattle.tsdb_turn.specs.declared.view.Stage.TheVariants.{Outside}
use Rattle.tsdb_turn.proofs.turn.Turn.deal.Given as goal

-- the passes so far, and those for the numbers that are left, are all
abbrev pub invariant-loop-own_marks : goal.invariant-loop-own_marks
invariant-loop-own_marks g l = record {
  table : l.seat.table_id ≡ l.self.id;
  seat : l.seat.me ≡ (view Outside (dealt l.self.start l.number (vec_len l.marks)), []);
  marks : All (λ m. (m.start.value ≡ l.self.start) × (m.last.value ≡ l.self.start)) l.marks.items;
  count : l.number + vec_len l.marks ≡ l.self.seats;
  room : vec_capacity l.passes ≡ l.self.seats;
  filled : vec_len l.passes ≡ l.number;
  passes : l.passes.items ++ new_passes l.self.id l.self.start l.number (vec_len l.marks) ≡ new_passes l.self.id l.self.start 0 l.self.seats;
}

abbrev pub decreases-loop-own_marks : goal.decreases-loop-own_marks
decreases-loop-own_marks g l = vec_len l.marks
