-- How a slot is built again from its record.
use Rattle.std.specs.Prelude.{◌≡◌, ℕ, List}
use Rattle.mem_outside.specs.declared.record.StopKind.{StopKind}
use Rattle.mem_outside.specs.Record.{SlotState, apply_all}

-- a read of the slot gives `seen`, and a stop of this kind leaves `left`
pub record IsDiskReplay (kind : StopKind) (s : SlotState) (seen left : List ℕ) : Type 0 where
  pub seen_is : s.seen ≡ seen
  pub left_is : apply_all kind s.pending s.durable ≡ left
