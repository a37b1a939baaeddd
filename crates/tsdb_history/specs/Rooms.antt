-- Room for the replies of a history.
use Rattle.std.specs.Prelude.{◌≡◌, ℕ, [], length, slice_index, vec_len, vec_capacity}
use Rattle.tsdb_history.specs.History.{session_numbers}
use Rattle.tsdb_history.specs.declared.room.ReplyRoom.{ReplyRoom}

-- It is the room for the replies to so many commands: no session has had a command, and no reply is there.
pub record IsRoomFor (commands : ℕ) (room : ReplyRoom) : Type 0 where
  pub long : length room.counts.items ≡ session_numbers
  pub zero : (at : ℕ) → slice_index room.counts.items at ≡ 0
  pub none : room.history.items ≡ []
  pub len : vec_len room.history ≡ 0
  pub places : vec_capacity room.history ≡ commands
