-- A pass may cross threads where its value may, and then threads may share a turn.
use denote.RattleType.{RattleType}
use denote.Param.Send.{IsSend, IsSync, sendable}
use Rattle.std.proofs.Crossing.{crosses, frees, send as heap_send}
use Rattle.std.specs.contracts.option.Option as option
use Rattle.atomic_table.proofs.send_lease.SendLease.TheSendSync as lease
use Rattle.atomic_table.proofs.shared.Seat.TheSendSync as seat
use Rattle.atomic_table.proofs.shared.Shared.TheSendSync as shared
use Rattle.tsdb_turn.specs.contracts.pass.Pass as Pass
use Rattle.tsdb_turn.specs.contracts.turn.Turn as turn
use Rattle.tsdb_turn.specs.declared.logged.Logged as logged

pub pass_send : (V : RattleType) → IsSend V → IsSend (Pass.the_row V)
pass_send V s = search (sendable, crosses, seat.the_send) depth 40

module _ (V E A : RattleType) (g : logged.Ghosts V.Denot E.Denot A.Denot) (v : IsSend V) where
  option_send : IsSend (option.the_row V)
  option_send = search (sendable, crosses) depth 40

  -- the turn of any value
  pub turn_sync : IsSync (turn.the_row V E A g)
  turn_sync = let s = option_send in
      search (sendable, crosses, shared.the_sync, lease.the_sync, frees, heap_send) depth 60 fits 20000
