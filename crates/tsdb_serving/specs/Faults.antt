-- Why a flush ends before its end.
use Rattle.std.specs.Prelude.{◌≡◌, ◌⊎◌, ℕ, ◌+◌, ◌<◌}
use Rattle.tsdb_base.specs.declared.answers.Answer.{Answer}
use Rattle.tsdb_base.specs.declared.answers.Answer.TheVariants as answer
use Rattle.tsdb_core.specs.declared.commit.CoreFault.{CoreFault}
use Rattle.tsdb_core.specs.declared.commit.CoreFault.TheVariants as job
use Rattle.tsdb_base.specs.Causes.{Rose}
use Rattle.tsdb_outside.specs.declared.faults.StoreFault.{StoreFault}
use Rattle.tsdb_outside.specs.declared.faults.StoreFault.TheVariants as file
use Rattle.tsdb_serving.specs.declared.fault.FlushFault.{FlushFault}
use Rattle.tsdb_serving.specs.declared.fault.FlushFault.TheVariants.{Device, Memory, Full}
use Rattle.tsdb_base.specs.Limits.{end_of_numbers}

-- the answer to the command that the flush was for
abbrev pub flush_answer : FlushFault → Answer
flush_answer Device = answer.Device
flush_answer Memory = answer.Memory
flush_answer (Full counter) = answer.Full counter

-- the fault of a file that could not be written, and of a job that could not be taken
abbrev pub of_file_fault : StoreFault → FlushFault
of_file_fault file.Failed = Device
of_file_fault file.Memory = Memory

abbrev pub of_core_fault : CoreFault → FlushFault
of_core_fault job.Memory = Memory
of_core_fault (job.Full counter) = Full counter

-- The cause of a fault, by the counts of faults of the journal and the port before and after, and the next number: one of
-- the two failed; too few numbers are left; memory may end at any time.
abbrev pub HasFlushCause : ℕ → ℕ → ℕ → ℕ → ℕ → FlushFault → Type 0
HasFlushCause journal journal_after port port_after next Device = Rose journal journal_after ⊎ Rose port port_after
HasFlushCause journal journal_after port port_after next Memory = Unit {0}
HasFlushCause journal journal_after port port_after next (Full counter) =
    (end_of_numbers < counter + 2) × (counter ≡ next)
