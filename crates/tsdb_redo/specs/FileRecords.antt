-- When a record of files has a replay, as it is decided over an opening.
use Rattle.std.specs.Prelude.{◌≡◌, ℕ, ◌<◌, ◌≤◌, [], ◌∷◌, length}
use Rattle.tsdb_base.specs.declared.ids.Stamp.{Stamp}
use Rattle.tsdb_log.specs.declared.record.LogRecord.{LogRecord}
use Rattle.tsdb_log.specs.declared.record.LogRecord.TheVariants.{Replaced}
use Rattle.tsdb_redo.specs.Lists.{CanReplaceIn, replacement_of, state_of}
use Rattle.tsdb_redo.specs.NamedNumbers.{CanName}
use Rattle.tsdb_redo.specs.Opening.{IsOpeningOf}
use Rattle.tsdb_redo.specs.declared.opening.Opening.{Opening}
use Rattle.tsdb_redo.specs.declared.replacing.Replacing.{Replacing}
use Rattle.tsdb_state.specs.Stores.{Recorded}
use Rattle.tsdb_state.specs.Records.{CanFlush, new_numbers}

-- the oldest frozen pair, which was born so, can be flushed to files of these numbers
pub record CanRedoFlush (opening : Opening) (sequence unsequence : ℕ) (born : Stamp) : Type 0 where
  pub some : 0 < length opening.memory.frozen
  pub new : CanName opening.named (new_numbers (sequence ∷ unsequence ∷ []))
  pub can : (recorded : Recorded) → IsOpeningOf opening recorded
      → CanFlush recorded.named sequence unsequence recorded.store
  pub of_oldest : (recorded : Recorded) (is : IsOpeningOf opening recorded) → (can recorded is).oldest.born ≡ born.0

-- no state that is shown can be flushed so
abbrev pub HasNoFlush : Opening → ℕ → ℕ → Type 0
HasNoFlush opening sequence unsequence = (recorded : Recorded) → IsOpeningOf opening recorded
    → ¬ CanFlush recorded.named sequence unsequence recorded.store

-- the record of the replaced files
abbrev pub replaced_record : Replacing → LogRecord
replaced_record item = Replaced item.born item.space item.place item.output item.sequence item.unsequence

-- the inputs stand as the record says, the output's born is reached, and its number is new
pub record IsReplacing (opening : Opening) (item : Replacing) : Type 0 where
  pub reached : item.born.0 ≤ opening.memory.stamp
  pub new : CanName opening.named (new_numbers (item.output.0 ∷ 0 ∷ []))
  pub inputs : CanReplaceIn item.space (replacement_of item) (state_of opening.files)
