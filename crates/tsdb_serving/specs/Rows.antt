-- What an insert answers, whatever store it is.
use Rattle.std.specs.Prelude.{◌≡◌, ◌⊎◌, List, ℕ}
use Rattle.tsdb_base.specs.declared.answers.Answer.{Answer}
use Rattle.tsdb_core.specs.Core.{logged_of}
use Rattle.tsdb_core.specs.Rows.{NeedsFlush}
use Rattle.tsdb_core.specs.declared.engine.Core.{Core}
use Rattle.tsdb_memory.specs.LogState.{memory_of}
use Rattle.tsdb_memory.specs.MapAnswers.{IsInsertAnswer}
use Rattle.tsdb_model.specs.declared.command.Row.{Row}
use Rattle.tsdb_outside.specs.declared.disk.Disk as disk
use Rattle.tsdb_outside.specs.declared.faults.Counted as counted
use Rattle.tsdb_serving.specs.Faults.{flush_answer}
use Rattle.tsdb_serving.specs.declared.fault.FlushFault.{FlushFault}

module _ {J F S R P : Type 0} {means : disk.Ghosts J} {counts : counted.Ghosts J} where
  -- The answer is that of the series in memory; or, where a flush had to come first, that of its fault.
  abbrev pub IsRowAnswer : List ℕ → Row → Core J F S R P means counts → Answer → Type 0
  IsRowAnswer device row old answer = IsInsertAnswer (memory_of (logged_of old)) device row.cells answer
      ⊎ (NeedsFlush row old × (fault : FlushFault) × (answer ≡ flush_answer fault))
