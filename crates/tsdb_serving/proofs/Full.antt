-- Where a counter is at its end.
use Rattle.std.proofs.Common.{◌≡◌, ◌≢◌, ℕ, ◌≤◌, length, length-append, Option, None, Some, inl, inr, ap, arith, subst, sym}
use Rattle.tsdb_base.specs.declared.answers.Answer.{Answer}
use Rattle.tsdb_base.specs.declared.answers.Answer.TheVariants as answer
use Rattle.tsdb_base.specs.declared.ids.FileNumber.{FileNumber}
use Rattle.tsdb_core.specs.Core.{logged_of, next_of}
use Rattle.tsdb_core.specs.Ending.{drawn_for, numbers_if}
use Rattle.tsdb_core.specs.declared.engine.Core.{Core}
use Rattle.tsdb_core.specs.FlushJob.{FlushJob}
use Rattle.tsdb_memory.specs.LogState.{memory_of}
use Rattle.tsdb_model.specs.declared.reply.Reply.{Reply}
use Rattle.tsdb_model.specs.declared.reply.Reply.TheVariants.{Plain}
use Rattle.tsdb_outside.specs.declared.disk.Disk as disk
use Rattle.tsdb_outside.specs.declared.faults.Counted as counted
use Rattle.tsdb_serving.proofs.Answered.{HasStamp}
use Rattle.tsdb_serving.specs.Faults.{HasFlushCause, flush_answer}
use Rattle.tsdb_serving.specs.Serving.{HasFullCause}
use Rattle.tsdb_serving.specs.declared.fault.FlushFault.{FlushFault}
use Rattle.tsdb_serving.specs.declared.fault.FlushFault.TheVariants as fault
use Rattle.tsdb_base.specs.Limits.{end_of_numbers}

one_number : (number : Option FileNumber) → length (numbers_if number) ≤ 1
one_number None = omega arith
one_number (Some number) = omega arith

-- a flush draws two numbers at most
pub few_drawn : (job : FlushJob) → length (drawn_for job) ≤ 2
few_drawn job = omega (
  arith,
  one_number job.sequence,
  one_number job.unsequence,
  length-append (numbers_if job.sequence) (numbers_if job.unsequence),
)

-- the counter of a flush that ended for want of numbers is the next number
pub next_counter : (journal journal_after port port_after next : ℕ) (why : FlushFault)
    → HasFlushCause journal journal_after port port_after next why → (result : Answer) → result ≡ flush_answer why
    → (counter : ℕ) → result ≡ answer.Full counter → counter ≡ next
next_counter journal journal_after port port_after next fault.Device cause result why counter is = absurd cc
next_counter journal journal_after port port_after next fault.Memory cause result why counter is = absurd cc
next_counter journal journal_after port port_after next (fault.Full number) cause result why counter is =
    let same : counter ≡ number = cc in
    let next_is = cause.1 in
    omega (arith, same, next_is)

-- an answer `full` is of such a fault
pub full_fault : (why : FlushFault) (counter : ℕ) → flush_answer why ≡ answer.Full counter → why ≡ fault.Full counter
full_fault fault.Device counter is = absurd cc
full_fault fault.Memory counter is = absurd cc
full_fault (fault.Full number) counter is = let same : number ≡ counter = cc in ap (λ n. fault.Full n) same

module _ {J F S R P : Type 0} {means : disk.Ghosts J} {counts : counted.Ghosts J}
    (old new : Core J F S R P means counts) (result : Answer) where
  -- a change that the map accepts, where the stamp can rise no further
  pub by_stamp : HasStamp (memory_of (logged_of old)).stamp result
      → ((counter : ℕ) → result ≡ answer.Full counter → new ≡ old) → HasFullCause new (Plain result)
  by_stamp stamp same counter is =
      let full : result ≡ answer.Full counter = cc in
      inl (subst (λ (core : Core J F S R P means counts). (memory_of (logged_of core)).stamp ≡ end_of_numbers)
      (sym (same counter full)) (subst (HasStamp (memory_of (logged_of old)).stamp) full stamp).0)

  pub by_number : ((counter : ℕ) → result ≡ answer.Full counter → counter ≡ next_of new)
      → HasFullCause new (Plain result)
  by_number at_end counter is =
      let full : result ≡ answer.Full counter = cc in
      let same = at_end counter full in
      inr (omega (arith, same))

-- a reply that is none
pub no_full : {J F S R P : Type 0} {means : disk.Ghosts J} {counts : counted.Ghosts J}
    (core : Core J F S R P means counts) (reply : Reply) → ((counter : ℕ) → reply ≢ Plain (answer.Full counter))
    → HasFullCause core reply
no_full core reply never counter is = absurd (never counter is)
