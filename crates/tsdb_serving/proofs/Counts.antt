-- What an insert answers and counts behind a flush, which counts nothing.
use Rattle.std.proofs.Common.{◌≡◌, ◌≢◌, ℕ, ◌+◌, List, ap, sym, subst, ◌∙◌}
use Rattle.tsdb_base.specs.declared.answers.Answer.{Answer}
use Rattle.tsdb_base.specs.declared.answers.Answer.TheVariants as answer
use Rattle.tsdb_core.specs.Rows.{CountsRow}
use Rattle.tsdb_core.specs.declared.engine.Core.{Core}
use Rattle.tsdb_memory.specs.MapAnswers.{IsInsertAnswer}
use Rattle.tsdb_memory.specs.Store.{MemoryState}
use Rattle.tsdb_model.specs.declared.command.Row.{Row}
use Rattle.tsdb_model.specs.declared.command.Schema.{Schema}
use Rattle.tsdb_outside.specs.declared.disk.Disk as disk
use Rattle.tsdb_outside.specs.declared.faults.Counted as counted
use Rattle.tsdb_serving.specs.Faults.{flush_answer}
use Rattle.tsdb_serving.specs.Flushing.{CountsNothing}
use Rattle.tsdb_serving.specs.declared.fault.FlushFault.{FlushFault}
use Rattle.tsdb_serving.specs.declared.fault.FlushFault.TheVariants as fault

-- an answer to a row goes by the series and the stamp alone
module _ (old new : MemoryState) (device : List ℕ) (row : Row) where
  abbrev AnswerBy : List Schema → ℕ → Answer → Type 0
  AnswerBy series stamp result =
      IsInsertAnswer (record new { series = series; stamp = stamp }) device row.cells result

  there : (result : Answer) → IsInsertAnswer old device row.cells result → AnswerBy old.series old.stamp result
  there answer.Done is = is
  there answer.NoPath is = is
  there answer.WrongType is = is
  there answer.Exists is = is
  there answer.Device is = is
  there answer.Memory is = is
  there (answer.Full counter) is = is

  back : (result : Answer) → AnswerBy new.series new.stamp result → IsInsertAnswer new device row.cells result
  back answer.Done is = is
  back answer.NoPath is = is
  back answer.WrongType is = is
  back answer.Exists is = is
  back answer.Device is = is
  back answer.Memory is = is
  back (answer.Full counter) is = is

  pub same_answer : (result : Answer) → old.series ≡ new.series → old.stamp ≡ new.stamp
      → IsInsertAnswer old device row.cells result → IsInsertAnswer new device row.cells result
  same_answer result series stamp is = back result (subst (λ n. AnswerBy new.series n result) stamp
      (subst (λ l. AnswerBy l old.stamp result) series (there result is)))

fault_not_done : (why : FlushFault) → flush_answer why ≢ answer.Done
fault_not_done fault.Device is = absurd cc
fault_not_done fault.Memory is = absurd cc
fault_not_done (fault.Full counter) is = absurd cc

module _ {J F S R P : Type 0} {means : disk.Ghosts J} {counts : counted.Ghosts J} where
  -- a row behind a step that counts nothing
  pub counted_row : (old mid new : Core J F S R P means counts) (result : Answer) → CountsNothing old mid
      → CountsRow mid new result → CountsRow old new result
  counted_row old mid new result first second = record {
    series = second.series ∙ first.series;
    done = λ is. second.done is ∙ ap (λ n. n + 1) first.stamp;
    not_done = λ is. second.not_done is ∙ first.stamp;
  }

  -- a step that ended with a fault
  pub fault_counts : (old new : Core J F S R P means counts) (why : FlushFault) (result : Answer)
      → result ≡ flush_answer why → CountsNothing old new → CountsRow old new result
  fault_counts old new why result is first = record {
    series = first.series;
    done = λ done. absurd (fault_not_done why (sym is ∙ done));
    not_done = λ not. first.stamp;
  }
