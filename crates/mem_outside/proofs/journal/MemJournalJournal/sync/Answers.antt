use Rattle.std.proofs.Common.{inl, inr, refl}
use Rattle.mem_outside.specs.Journal.{journal_numbers}
use Rattle.mem_outside.specs.Record.{after_sync}
use Rattle.mem_outside.proofs.CountedCalls.{further_fault, fails_without_room, only_without_room, succeeds_if_due, recorded_as_failed, fails_by_number_alone}
use Rattle.mem_outside.proofs.JournalLemmas.{sync_keeps}
use Rattle.mem_outside.proofs.journal.MemJournalJournal.sync.Goals as goal

pub returns-in-Ok-clause-keeps : goal.returns-in-Ok-clause-keeps
returns-in-Ok-clause-keeps c = sync_keeps c.args.slot c.is_ok.result c.args.self.now.disk c.sync.new.self (inl c.in-Ok.ensures.ok)

pub returns-in-Ok-clause-cause : goal.returns-in-Ok-clause-cause
returns-in-Ok-clause-cause c = c.make-outcome.ensures.cause

pub returns-in-Ok-clause-ok : goal.returns-in-Ok-clause-ok
returns-in-Ok-clause-ok c =
    succeeds_if_due c.args.slot after_sync c.args.self.now _ c.make-outcome.result c.is_ok.result
    c.is_ok.ensures.value c.in-Ok.ensures.ok c.make-outcome.ensures.ok

pub returns-in-Ok-clause-fails : goal.returns-in-Ok-clause-fails
returns-in-Ok-clause-fails c =
    recorded_as_failed c.args.slot after_sync c.args.self.now _ c.make-outcome.result c.is_ok.result
    c.is_ok.ensures.value c.in-Ok.ensures.ok c.make-outcome.ensures.fails c.make-outcome.ensures.err

pub returns-in-Ok-clause-no_room : goal.returns-in-Ok-clause-no_room
returns-in-Ok-clause-no_room c =
    fails_by_number_alone _ (journal_numbers c.args.self.now) c.make-outcome.result c.make-outcome.ensures.fails

pub returns-in-Err-clause-keeps : goal.returns-in-Err-clause-keeps
returns-in-Err-clause-keeps c = sync_keeps c.args.slot c.is_ok.result c.args.self.now.disk c.sync.new.self (inr c.in-Err.ensures.err)

pub returns-in-Err-clause-cause : goal.returns-in-Err-clause-cause
returns-in-Err-clause-cause c =
    further_fault c.args.self.now.numbers.faults c.make-outcome.new.self.faults c.fail.new.self.faults c.make-outcome.result c.fail.result
    c.make-outcome.ensures.cause c.fail.ensures.later c.fail.ensures.rose

pub returns-in-Err-clause-fails : goal.returns-in-Err-clause-fails
returns-in-Err-clause-fails c = λ next. (
  refl,
  fails_without_room c.args.slot after_sync c.args.self.now _ c.make-outcome.new.self c.make-outcome.result
      c.make-outcome.ensures.fails c.make-outcome.ensures.err c.in-Err.ensures.err c.fail.ensures.fault next,
)

pub returns-in-Err-clause-no_room : goal.returns-in-Err-clause-no_room
returns-in-Err-clause-no_room c =
    only_without_room c.args.self.now _ c.make-outcome.new.self c.make-outcome.result
    c.make-outcome.ensures.fails c.make-outcome.ensures.ok c.in-Err.ensures.err c.fail.ensures.fault
