use Rattle.std.proofs.Common.{◌≡◌, All, vec_len}
use Rattle.std.specs.Vec.{vec_capacity}
use Rattle.tsdb_turn.proofs.turn.marks_of.Given as goal

-- as many marks as turns so far, each of the value
abbrev pub invariant-loop : goal.invariant-loop
invariant-loop g l = record {
  count : vec_len l.marks ≡ l.counter;
  room : vec_capacity l.marks ≡ l.seats;
  marks : All (λ m. (m.start.value ≡ l.value) × (m.last.value ≡ l.value)) l.marks.items;
}
