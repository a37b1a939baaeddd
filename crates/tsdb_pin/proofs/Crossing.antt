-- A pin may cross threads where a right to read may.
use denote.RattleType.{RattleType}
use denote.Param.Send.{IsSend, sendable}
use Rattle.std.proofs.Crossing.{crosses}
use Rattle.tsdb_marks.proofs.Crossing.{marks_send}
use Rattle.tsdb_pin.specs.contracts.pin.Column as column
use Rattle.tsdb_pin.specs.contracts.pin.Pin as pin
use Rattle.tsdb_pin.specs.contracts.pin.PinnedSource as source

module _ (F S R P : RattleType) (f : IsSend F) (s : IsSend S) (r : IsSend R) (p : IsSend P) where
  source_send : IsSend (source.the_row F S R P)
  source_send = search (sendable, crosses) depth 40 fits 20000

  column_send : IsSend (column.the_row F S R P)
  column_send = search (sendable, crosses, source_send) depth 40 fits 20000

  pub pin_send : IsSend (pin.the_row F S R P)
  pin_send = search (sendable, crosses, marks_send, column_send) depth 40 fits 20000
