-- Causes of faults, over the parts of a flush.
use Rattle.std.proofs.Common.{◌≡◌, ◌≢◌, ◌⊎◌, ℕ, ◌+◌, ◌<◌, ◌≤◌, Result, Ok, Err, inl, inr, arith, refl, subst, sym}
use Rattle.std.specs.Prelude.{IfErr}
use Rattle.tsdb_core.specs.Flushes.{IsTakeAnswer}
use Rattle.tsdb_core.specs.declared.commit.Commit.{Commit}
use Rattle.tsdb_core.specs.declared.commit.Commit.TheVariants as commits
use Rattle.tsdb_core.specs.declared.commit.CoreFault.{CoreFault}
use Rattle.tsdb_core.specs.declared.commit.CoreFault.TheVariants as job
use Rattle.tsdb_memory.specs.Store.{MemoryState}
use Rattle.tsdb_base.specs.Causes.{Rose}
use Rattle.tsdb_outside.specs.declared.faults.StoreFault.{StoreFault}
use Rattle.tsdb_outside.specs.declared.faults.StoreFault.TheVariants as file
use Rattle.tsdb_base.specs.declared.answers.Answer.TheVariants as answer
use Rattle.tsdb_serving.specs.Faults.{HasFlushCause, flush_answer, of_core_fault, of_file_fault}
use Rattle.tsdb_serving.specs.declared.fault.FlushFault.{FlushFault}
use Rattle.tsdb_serving.specs.declared.fault.FlushFault.TheVariants.{Device, Memory, Full}
use Rattle.tsdb_base.specs.Limits.{end_of_numbers}

pub rose_later : (a b c : ℕ) → a ≤ b → Rose b c → Rose a c
rose_later a b c less rose = omega (arith, less, rose)

pub rose_on : (a b c : ℕ) → Rose a b → b ≤ c → Rose a c
rose_on a b c rose less = omega (arith, rose, less)

-- the counts have risen before it too
earlier : (journal mid journal_after port port_mid port_after next : ℕ) → journal ≤ mid → port ≤ port_mid
    → (fault : FlushFault) → HasFlushCause mid journal_after port_mid port_after next fault
    → HasFlushCause journal journal_after port port_after next fault
earlier journal mid journal_after port port_mid port_after next less less_port Device (inl rose) =
    inl (rose_later journal mid journal_after less rose)
earlier journal mid journal_after port port_mid port_after next less less_port Device (inr rose) =
    inr (rose_later port port_mid port_after less_port rose)
earlier journal mid journal_after port port_mid port_after next less less_port Memory cause = tt
earlier journal mid journal_after port port_mid port_after next less less_port (Full counter) cause = cause

module _ {T : Type 0} where
  -- the cause of a part's fault is one of the whole
  pub cause_before : (result : Result T FlushFault) (journal mid journal_after port port_mid port_after next : ℕ)
      → journal ≤ mid → port ≤ port_mid → IfErr result (HasFlushCause mid journal_after port_mid port_after next)
      → IfErr result (HasFlushCause journal journal_after port port_after next)
  cause_before (Ok value) journal mid journal_after port port_mid port_after next less less_port cause = tt
  cause_before (Err fault) journal mid journal_after port port_mid port_after next less less_port cause =
      earlier journal mid journal_after port port_mid port_after next less less_port fault cause

-- the counts have risen after it too, and no number was drawn since
still : (journal journal_mid journal_after port port_mid port_after next now : ℕ) → journal_mid ≤ journal_after
    → port_mid ≤ port_after → now ≡ next → (fault : FlushFault)
    → HasFlushCause journal journal_mid port port_mid next fault
    → HasFlushCause journal journal_after port port_after now fault
still journal journal_mid journal_after port port_mid port_after next now less less_port same Device (inl rose) =
    inl (rose_on journal journal_mid journal_after rose less)
still journal journal_mid journal_after port port_mid port_after next now less less_port same Device (inr rose) =
    inr (rose_on port port_mid port_after rose less_port)
still journal journal_mid journal_after port port_mid port_after next now less less_port same Memory cause = tt
still journal journal_mid journal_after port port_mid port_after next now less less_port same (Full counter) cause =
    let end = cause.0 in
    let number = cause.1 in
    (end, omega (arith, number, same))

module _ {T : Type 0} where
  -- the cause of the fault of a first part is one of the whole
  pub cause_since : (result : Result T FlushFault) (journal journal_mid journal_after port port_mid port_after next now : ℕ)
      → journal_mid ≤ journal_after → port_mid ≤ port_after → now ≡ next
      → IfErr result (HasFlushCause journal journal_mid port port_mid next)
      → IfErr result (HasFlushCause journal journal_after port port_after now)
  cause_since (Ok value) journal journal_mid journal_after port port_mid port_after next now less less_port same cause = tt
  cause_since (Err fault) journal journal_mid journal_after port port_mid port_after next now less less_port same cause =
      still journal journal_mid journal_after port port_mid port_after next now less less_port same fault cause

-- a file could not be written
pub file_cause : (journal journal_after port port_after next : ℕ) (fault : StoreFault)
    → (fault ≡ file.Failed → Rose port port_after)
    → HasFlushCause journal journal_after port port_after next (of_file_fault fault)
file_cause journal journal_after port port_after next file.Failed rose = inr (rose refl)
file_cause journal journal_after port port_after next file.Memory rose = tt

-- a record could not be written
pub commit_cause : {T : Type 0} (result : Result T FlushFault) (journal journal_after port port_after next : ℕ)
    → IfErr result (λ fault. (fault ≡ Device) × Rose journal journal_after)
    → IfErr result (HasFlushCause journal journal_after port port_after next)
commit_cause (Ok value) journal journal_after port port_after next cause = tt
commit_cause (Err fault) journal journal_after port port_after next cause =
    subst (HasFlushCause journal journal_after port port_after next) (sym cause.0) (inl cause.1)

-- a job could not be taken
pub core_cause : (journal journal_after port port_after next now : ℕ) (fault : CoreFault)
    → ((counter : ℕ) → fault ≡ job.Full counter → (end_of_numbers < next + 2) × (counter ≡ next)) → now ≡ next
    → HasFlushCause journal journal_after port port_after now (of_core_fault fault)
core_cause journal journal_after port port_after next now job.Memory full same = tt
core_cause journal journal_after port port_after next now (job.Full counter) full same =
    let is = full counter refl in
    let end = is.0 in
    let number = is.1 in
    (omega (arith, end, number), omega (arith, number, same))

-- a pair could not be frozen
pub freeze_cause : (journal journal_after port port_after next : ℕ) (fault : FlushFault)
    → (fault ≡ Device → Rose journal journal_after) → ((counter : ℕ) → fault ≢ Full counter)
    → HasFlushCause journal journal_after port port_after next fault
freeze_cause journal journal_after port port_after next Device rose full = inl (rose refl)
freeze_cause journal journal_after port port_after next Memory rose full = tt
freeze_cause journal journal_after port port_after next (Full counter) rose full = absurd (full counter refl)

-- the answer where too few numbers are left
pub full_is : (upto next : ℕ) (store : MemoryState) (fault : CoreFault) → IsTakeAnswer upto next store (Err fault)
    → (counter : ℕ) → fault ≡ job.Full counter → (end_of_numbers < next + 2) × (counter ≡ next)
full_is upto next store job.Memory answer counter is = absurd cc
full_is upto next store (job.Full number) answer counter is =
    subst (λ n. (end_of_numbers < next + 2) × (n ≡ next)) (number_is number counter is) (answer.1, answer.2)
  where
    number_is : (a b : ℕ) → job.Full a ≡ job.Full b → a ≡ b
    number_is a b same = cc

pub device_cause : (journal journal_after port port_after next : ℕ) (fault : FlushFault)
    → flush_answer fault ≡ answer.Device → HasFlushCause journal journal_after port port_after next fault
    → Rose journal journal_after ⊎ Rose port port_after
device_cause journal journal_after port port_after next Device is cause = cause
device_cause journal journal_after port port_after next Memory is cause = absurd cc
device_cause journal journal_after port port_after next (Full counter) is cause = absurd cc

pub full_cause : (journal journal_after port port_after next : ℕ) (fault : FlushFault)
    → HasFlushCause journal journal_after port port_after next fault → (counter : ℕ) → fault ≡ Full counter
    → end_of_numbers < counter + 2
full_cause journal journal_after port port_after next Device cause counter is = absurd cc
full_cause journal journal_after port port_after next Memory cause counter is = absurd cc
full_cause journal journal_after port port_after next (Full number) cause counter is =
    let end = cause.0 in
    let same : number ≡ counter = cc in
    omega (arith, end, same)

-- a freeze failed
pub freeze_causes : {T : Type 0} (result : Result T FlushFault) (journal journal_after port port_after next : ℕ)
    → IfErr result (λ fault. fault ≡ Device → Rose journal journal_after)
    → IfErr result (λ fault. (counter : ℕ) → fault ≢ Full counter)
    → IfErr result (HasFlushCause journal journal_after port port_after next)
freeze_causes (Ok value) journal journal_after port port_after next rose full = tt
freeze_causes (Err fault) journal journal_after port port_after next rose full =
    freeze_cause journal journal_after port port_after next fault rose full

-- a commit failed
pub result_cause : {T : Type 0} (result : Result T FlushFault) (commit : Commit) (journal journal_after : ℕ)
    → IfErr result (λ fault. (fault ≡ Device) × (commit ≡ commits.Device))
    → (commit ≡ commits.Device → Rose journal journal_after)
    → IfErr result (λ fault. (fault ≡ Device) × Rose journal journal_after)
result_cause (Ok value) commit journal journal_after is rose = tt
result_cause (Err fault) commit journal journal_after is rose = (is.0, rose is.1)
