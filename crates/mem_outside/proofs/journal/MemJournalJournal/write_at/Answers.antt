use Rattle.std.proofs.Common.{inl, inr, refl}
use Rattle.mem_outside.specs.Journal.{journal_numbers}
use Rattle.mem_outside.specs.Record.{after_write}
use Rattle.mem_outside.specs.RecordedDisk.{disk_seen}
use Rattle.mem_outside.proofs.CountedCalls.{further_fault, fails_without_room, only_without_room, succeeds_if_due, recorded_as_failed, fails_by_number_alone}
use Rattle.mem_outside.proofs.JournalLemmas.{write_may, bytes_where_ok, always_where_ok}
use Rattle.mem_outside.proofs.journal.MemJournalJournal.write_at.Goals as goal

pub returns-then-not-is_within_limit-clause-writes : goal.returns-then-not-is_within_limit-clause-writes
returns-then-not-is_within_limit-clause-writes c =
    write_may c.args.slot c.args.at c.args.bytes.now c.is_ok.result c.args.self.now.disk c.args.self.now.disk
    (inr (record { calls = refl; first = refl })) (c.requires (disk_seen c.args.self.now.disk) refl)

pub returns-then-not-is_within_limit-clause-cause : goal.returns-then-not-is_within_limit-clause-cause
returns-then-not-is_within_limit-clause-cause c =
    further_fault c.args.self.now.numbers.faults c.make-outcome.new.self.faults c.fail.new.self.faults c.make-outcome.result c.fail.result
    c.make-outcome.ensures.cause c.fail.ensures.later c.fail.ensures.rose

pub returns-then-not-is_within_limit-clause-fails : goal.returns-then-not-is_within_limit-clause-fails
returns-then-not-is_within_limit-clause-fails c = λ next. (
  refl,
  fails_without_room c.args.slot (after_write c.args.at c.args.bytes.now) c.args.self.now _ c.make-outcome.new.self c.make-outcome.result
      c.make-outcome.ensures.fails c.make-outcome.ensures.err (record { calls = refl; first = refl }) c.fail.ensures.fault next,
)

pub returns-then-not-is_within_limit-clause-no_room : goal.returns-then-not-is_within_limit-clause-no_room
returns-then-not-is_within_limit-clause-no_room c =
    only_without_room c.args.self.now _ c.make-outcome.new.self c.make-outcome.result
    c.make-outcome.ensures.fails c.make-outcome.ensures.ok (record { calls = refl; first = refl }) c.fail.ensures.fault

pub returns-in-Ok-clause-bytes : goal.returns-in-Ok-clause-bytes
returns-in-Ok-clause-bytes c =
    bytes_where_ok c.args.slot c.args.at c.args.bytes.now c.args.self.now.disk c.write.new.self c.make-outcome.result c.is_ok.result
    c.is_ok.ensures.value c.in-Ok.ensures.ok (c.requires (disk_seen c.args.self.now.disk) refl)

pub returns-in-Ok-clause-limit : goal.returns-in-Ok-clause-limit
returns-in-Ok-clause-limit c = always_where_ok c.make-outcome.result (c.if-not-is_within_limit.ensures.0 refl)

pub returns-in-Ok-clause-writes : goal.returns-in-Ok-clause-writes
returns-in-Ok-clause-writes c =
    write_may c.args.slot c.args.at c.args.bytes.now c.is_ok.result c.args.self.now.disk c.write.new.self
    (inl c.in-Ok.ensures.ok) (c.requires (disk_seen c.args.self.now.disk) refl)

pub returns-in-Ok-clause-cause : goal.returns-in-Ok-clause-cause
returns-in-Ok-clause-cause c = c.make-outcome.ensures.cause

pub returns-in-Ok-clause-ok : goal.returns-in-Ok-clause-ok
returns-in-Ok-clause-ok c =
    succeeds_if_due c.args.slot (after_write c.args.at c.args.bytes.now) c.args.self.now _ c.make-outcome.result c.is_ok.result
    c.is_ok.ensures.value c.in-Ok.ensures.ok c.make-outcome.ensures.ok

pub returns-in-Ok-clause-fails : goal.returns-in-Ok-clause-fails
returns-in-Ok-clause-fails c =
    recorded_as_failed c.args.slot (after_write c.args.at c.args.bytes.now) c.args.self.now _ c.make-outcome.result c.is_ok.result
    c.is_ok.ensures.value c.in-Ok.ensures.ok c.make-outcome.ensures.fails c.make-outcome.ensures.err

pub returns-in-Ok-clause-no_room : goal.returns-in-Ok-clause-no_room
returns-in-Ok-clause-no_room c =
    fails_by_number_alone _ (journal_numbers c.args.self.now) c.make-outcome.result c.make-outcome.ensures.fails

pub returns-in-Err-clause-writes : goal.returns-in-Err-clause-writes
returns-in-Err-clause-writes c =
    write_may c.args.slot c.args.at c.args.bytes.now c.is_ok.result c.args.self.now.disk c.write.new.self
    (inr c.in-Err.ensures.err) (c.requires (disk_seen c.args.self.now.disk) refl)

pub returns-in-Err-clause-cause : goal.returns-in-Err-clause-cause
returns-in-Err-clause-cause c =
    further_fault c.args.self.now.numbers.faults c.make-outcome.new.self.faults c.fail-in-Err.new.self.faults c.make-outcome.result c.fail-in-Err.result
    c.make-outcome.ensures.cause c.fail-in-Err.ensures.later c.fail-in-Err.ensures.rose

pub returns-in-Err-clause-fails : goal.returns-in-Err-clause-fails
returns-in-Err-clause-fails c = λ next. (
  refl,
  fails_without_room c.args.slot (after_write c.args.at c.args.bytes.now) c.args.self.now _ c.make-outcome.new.self c.make-outcome.result
      c.make-outcome.ensures.fails c.make-outcome.ensures.err c.in-Err.ensures.err c.fail-in-Err.ensures.fault next,
)

pub returns-in-Err-clause-no_room : goal.returns-in-Err-clause-no_room
returns-in-Err-clause-no_room c =
    only_without_room c.args.self.now _ c.make-outcome.new.self c.make-outcome.result
    c.make-outcome.ensures.fails c.make-outcome.ensures.ok c.in-Err.ensures.err c.fail-in-Err.ensures.fault
