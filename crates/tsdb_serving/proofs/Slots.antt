-- The log keeps to its slot over a row.
use Rattle.std.proofs.Common.{◌≡◌, List, ℕ, inl, inr, ap}
use Rattle.tsdb_base.specs.declared.answers.Answer.{Answer}
use Rattle.tsdb_base.specs.declared.answers.Answer.TheVariants as answer
use Rattle.tsdb_core.specs.Rows.{HasRowPlace, IsFrozenFor, IsRowPut, IsRowCommand}
use Rattle.tsdb_core.specs.declared.engine.Core.{Core}
use Rattle.tsdb_frames.proofs.CallLemmas.{keeps_to_slot_on, same_keeps_to_slot}
use Rattle.tsdb_frames.specs.Calls.{KeepsToSlot}
use Rattle.tsdb_model.specs.declared.command.Row.{Row}
use Rattle.tsdb_outside.specs.declared.disk.Disk as disk
use Rattle.tsdb_outside.specs.declared.faults.Counted as counted
use Rattle.tsdb_serving.specs.Serving.{log_under}

module _ {J F S R P : Type 0} {means : disk.Ghosts J} {counts : counted.Ghosts J}
    (old new : Core J F S R P means counts) (device : List ℕ) (row : Row) where
  same : new ≡ old → KeepsToSlot (log_under old) (log_under new)
  same is = same_keeps_to_slot (log_under old) (log_under new) (ap log_under is)

  place_slot : (between : Core J F S R P means counts) → HasRowPlace row old between
      → KeepsToSlot (log_under old) (log_under between)
  place_slot between (inl fits) = same_keeps_to_slot (log_under old) (log_under between) (ap log_under fits.1)
  place_slot between (inr frozen) = frozen.freeze.slot

  put_slot : (result : Answer) → IsRowPut device row old new result → KeepsToSlot (log_under old) (log_under new)
  put_slot result put = keeps_to_slot_on (log_under old) (log_under put.between) (log_under new)
      (place_slot put.between put.place) put.put.slot

  frozen_slot : (result : Answer) → IsFrozenFor row old new result → KeepsToSlot (log_under old) (log_under new)
  frozen_slot result frozen = frozen.freeze.slot

  pub row_slot : (result : Answer) → IsRowCommand device row old new result
      → KeepsToSlot (log_under old) (log_under new)
  row_slot answer.Done put = put_slot answer.Done put
  row_slot answer.NoPath is = same is
  row_slot answer.WrongType is = same is
  row_slot answer.Exists is = same is
  row_slot answer.Device (inl put) = put_slot answer.Device put
  row_slot answer.Device (inr frozen) = frozen_slot answer.Device frozen
  row_slot answer.Memory (inl is) = same is
  row_slot answer.Memory (inr (inl put)) = put_slot answer.Memory put
  row_slot answer.Memory (inr (inr frozen)) = frozen_slot answer.Memory frozen
  row_slot (answer.Full counter) is = same is
