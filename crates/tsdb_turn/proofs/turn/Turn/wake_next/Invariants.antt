use Rattle.std.proofs.Common.{◌≡◌}
use Rattle.tsdb_turn.proofs.turn.Turn.wake_next.Given as goal

-- nothing has changed for the seat
abbrev pub invariant-loop-ahead : goal.invariant-loop-ahead
invariant-loop-ahead g l = record {
  table : l.seat.table_id ≡ l.initial.seat.table_id;
  place : l.seat.id ≡ l.initial.seat.id;
  seat : l.seat.me ≡ l.initial.seat.me;
}
