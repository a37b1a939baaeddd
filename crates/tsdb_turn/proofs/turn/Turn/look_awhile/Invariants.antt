use Rattle.std.proofs.Common.{◌≡◌}
use Rattle.tsdb_turn.proofs.turn.Turn.look_awhile.Given as goal

-- nothing has changed for the seat
abbrev pub invariant-loop-looks : goal.invariant-loop-looks
invariant-loop-looks g l = record {
  table : l.seat.table_id ≡ l.initial.seat.table_id;
  place : l.seat.id ≡ l.initial.seat.id;
  seat : l.seat.me ≡ l.initial.seat.me;
}
