-- What is known of the output of a job before it is listed, what its end means, and why a compaction fails.
use Rattle.std.proofs.Common.{◌≡◌, ◌≢◌, ◌⊎◌, ℕ, ◌+◌, ◌<◌, ◌≤◌, true, List, Option, None, Some, Result, Ok, Err, inl, inr, arith, zero, suc}
use Rattle.std.proofs.Common.{ap, refl, sym, subst, ◌∙◌, Bool, false, nat_eq}
use Rattle.std.proofs.lemmas.Bool.{false≢true}
use Rattle.std.proofs.lemmas.Bool.Decides.{nat_tests}
use Rattle.std.specs.Option.{option_map}
use Rattle.std.specs.Prelude.{IfErr, IfSome, IsErrOf, IsSome, OnErr, OnOk, is_some}
use Rattle.tsdb_serving.specs.TasksFiles.{file_built}
use Rattle.tsdb_serving.specs.Finishing.{AreRunsOf}
use Rattle.tsdb_serving.specs.InputRuns.{InputRuns}
use Rattle.tsdb_serving.specs.Core.{files_of}
use Rattle.tsdb_serving.specs.Replacements.{EndsFiles, TellsNew}
use Rattle.tsdb_serving.specs.CoreType.{Core}
use Rattle.tsdb_compactions.specs.Outputs.{IsBuiltFor, IsOutputOf}
use Rattle.tsdb_compactions.specs.declared.job.Job.{Job}
use Rattle.tsdb_serving.specs.TasksFiles.{NewFile}
use Rattle.tsdb_compactions.specs.Built.{Built}
use Rattle.tsdb_base.specs.Causes.{Rose}
use Rattle.tsdb_outside.specs.Causes.{HasStoreCause}
use Rattle.tsdb_outside.specs.Files.{NamedFile, Store, Tells}
use Rattle.tsdb_outside.specs.declared.disk.Disk as disk
use Rattle.tsdb_outside.specs.declared.faults.Counted as counted
use Rattle.tsdb_outside.specs.declared.faults.Failed.{Failed}
use Rattle.tsdb_rewriting.specs.Rewriting.{IsEndOf, IsFinished, IsFullAtEnd, IsStartAnswer}
use Rattle.tsdb_serving.specs.Faults.{of_file_fault}
use Rattle.tsdb_serving.specs.declared.fault.FlushFault.{FlushFault}
use Rattle.tsdb_serving.specs.declared.fault.FlushFault.TheVariants as fault
use Rattle.tsdb_outside.specs.declared.faults.StoreFault.{StoreFault}
use Rattle.tsdb_outside.specs.declared.faults.StoreFault.TheVariants as file_fault
use Rattle.tsdb_base.specs.Limits.{end_of_numbers}

pub told_bytes : (bytes : Option (List ℕ)) → is_some bytes ≡ true → IsSome bytes
told_bytes None is = absurd (false≢true is)
told_bytes (Some bytes) is = refl

module _ {F S R P : Type 0} (file : S → NamedFile) where
  -- it has the number of the job
  pub output_numbered : (name : R → NamedFile) (rights : S → ℕ) (job : Job F S R P) (output : Option (Built F S R P))
      → IsOutputOf name file rights job output
      → IfSome (option_map (file_built file) output) (λ one. one.entry.number.0 ≡ job.output.0)
  output_numbered name rights job None is = tt
  output_numbered name rights job (Some built) is = is.file_is.kept.number_is

  pub output_tells : ((sealed : S) → Tells (file sealed)) → (store : Store) → store.tells ≡ true
      → (output : Option (Built F S R P)) → IfSome output (λ built. (file built.sealed).store ≡ store)
      → TellsNew (option_map (file_built file) output)
  output_tells laws store tells None is = tt
  output_tells laws store tells (Some built) is = told_bytes (file built.sealed).bytes
      (sym (laws built.sealed) ∙ ap (λ (s : Store). s.tells) is ∙ tells)

-- an output that is one of the job, where there is one
pub made_of : {F S R P : Type 0} (name : R → NamedFile) (file : S → NamedFile) (rights : S → ℕ) (job : Job F S R P)
    (output : Option (Built F S R P)) → IsOutputOf name file rights job output
    → IfSome output (IsBuiltFor name file rights job)
made_of name file rights job None is = tt
made_of name file rights job (Some built) is = is

pub not_full : (why : StoreFault) (counter : ℕ) → of_file_fault why ≢ fault.Full counter
not_full file_fault.Failed counter is = absurd cc
not_full file_fault.Memory counter is = absurd cc

pub device_failed : (why : StoreFault) → of_file_fault why ≡ fault.Device → why ≡ file_fault.Failed
device_failed file_fault.Failed is = refl
device_failed file_fault.Memory is = absurd cc

device_is_not_full : (counter : ℕ) → fault.Device ≢ fault.Full counter
device_is_not_full counter is = absurd cc

-- ---- what the end of a whole job means

-- it fails at the device alone
pub device_alone : (ended : Result (Unit {0}) Failed) (result : Result (Unit {0}) FlushFault)
    → IfErr result (λ why. (why ≡ fault.Device) × OnOk ended ⊥)
    → IfErr result (λ why. (counter : ℕ) → why ≢ fault.Full counter)
device_alone ended (Ok value) device = tt
device_alone ended (Err why) device = λ counter is. device_is_not_full counter (sym device.0 ∙ is)

pub device_cause : (ended : Result (Unit {0}) Failed) (result : Result (Unit {0}) FlushFault)
    (before after port port_after : ℕ) → IfErr result (λ why. (why ≡ fault.Device) × OnOk ended ⊥)
    → OnErr ended (Rose before after)
    → IfErr result (λ why. why ≡ fault.Device → Rose before after ⊎ Rose port port_after)
device_cause ended (Ok value) before after port port_after device rose = tt
device_cause (Ok good) (Err why) before after port port_after device rose = absurd device.1
device_cause (Err failed) (Err why) before after port port_after device rose = λ is. inl rose

-- a job that could not be run
pub store_cause : {T : Type 0} (result : Result T StoreFault) (why : StoreFault) (before after : ℕ) → result ≡ Err why
    → HasStoreCause before after result → why ≡ file_fault.Failed → Rose before after
store_cause result why before after is cause failed =
    cause.failed (subst (λ r. IsErrOf r file_fault.Failed) (sym (is ∙ ap Err failed)) refl)

below_or_not : (a b : ℕ) → (a < b) ⊎ (b ≤ a)
below_or_not zero zero = inr (omega arith)
below_or_not zero (suc b) = inl (omega arith)
below_or_not (suc a) zero = inr (omega arith)
below_or_not (suc a) (suc b) = by (below_or_not a b)
  where
    by : (a < b) ⊎ (b ≤ a) → (suc a < suc b) ⊎ (suc b ≤ suc a)
    by (inl below) = inl (omega (arith, below))
    by (inr not) = inr (omega (arith, not))

equal_or_not : (a b : ℕ) → (a ≡ b) ⊎ (a ≢ b)
equal_or_not a b = by (nat_eq a b) refl
  where
    equal : nat_eq a b ≡ true → a ≡ b
    equal e = grind (arith, nat_tests, e)

    apart : nat_eq a b ≡ false → a ≢ b
    apart e = grind (arith, nat_tests, e)

    by : (c : Bool) → nat_eq a b ≡ c → (a ≡ b) ⊎ (a ≢ b)
    by true is = inl (equal is)
    by false is = inr (apart is)

-- ---- a start that fails, where order cannot be ruled out

module _ {F S R P : Type 0} (IsPlan : InputRuns → Type 0) (next : ℕ) (Order : Type 0)
    (result : Result (Option (Job F S R P)) FlushFault) (disorder : ¬ Order → result ≡ Err fault.Memory)
    (answer : Order → IsStartAnswer IsPlan next result) where
  no_memory : (why : FlushFault) → result ≡ Err why → why ≢ fault.Memory → result ≡ Err fault.Memory → ⊥
  no_memory why is not other = not cc

  -- no device failed
  pub never_device : (why : FlushFault) → result ≡ Err why → why ≡ fault.Device → ⊥
  never_device fault.Memory is device = absurd cc
  never_device (fault.Full counter) is device = absurd cc
  never_device fault.Device is device = no_memory fault.Device is (λ same. absurd cc)
      (disorder (λ order. subst (IsStartAnswer IsPlan next) is (answer order)))

  -- numbers have ended, and the counter is the next one
  pub full_at_end : (why : FlushFault) → result ≡ Err why → IsFullAtEnd next why
  full_at_end fault.Memory is counter same = absurd cc
  full_at_end fault.Device is counter same = absurd cc
  full_at_end (fault.Full number) is counter same =
      (low (below_or_not end_of_numbers (counter + 2)), at (equal_or_not counter next))
    where
      equal : number ≡ counter
      equal = cc

      sure : ¬ (¬ Order)
      sure not = no_memory (fault.Full number) is (λ other. absurd cc) (disorder not)

      low : (end_of_numbers < counter + 2) ⊎ (counter + 2 ≤ end_of_numbers) → end_of_numbers < counter + 2
      low (inl below) = below
      low (inr not) = absurd (sure (λ order.
          let answered = subst (IsStartAnswer IsPlan next) is (answer order) in
          omega (arith, answered.1, answered.2, equal, not)))

      at : (counter ≡ next) ⊎ (counter ≢ next) → counter ≡ next
      at (inl is_next) = is_next
      at (inr other) = absurd (sure (λ order.
          let answered = subst (IsStartAnswer IsPlan next) is (answer order) in
          other (sym equal ∙ answered.2)))

module _ {J F S R P : Type 0} {means : disk.Ghosts J} {counts : counted.Ghosts J} where
  -- a commit that is done has replaced the files of the job
  pub finished : (old new : Core J F S R P means counts) (job : Job F S R P) (file : Option NewFile)
      → (runs : InputRuns) → AreRunsOf job runs (files_of old)
      → IfSome file (λ one. one.entry.number.0 ≡ job.output.0)
      → EndsFiles job runs file (files_of old) (files_of new) (Ok tt) → IsFinished job old new
  finished old new job file runs stand numbered ends = (
    runs,
    stand,
    record {
      output = option_map (λ one. one.entry) file;
      numbered = number_of file numbered;
      sequence = ends.lists.sequence_is;
      unsequence = ends.lists.unsequence_is;
    },
  )
    where
      number_of : (o : Option NewFile) → IfSome o (λ one. one.entry.number.0 ≡ job.output.0)
          → IfSome (option_map (λ one. one.entry) o) (λ entry. entry.number.0 ≡ job.output.0)
      number_of None is = tt
      number_of (Some one) is = is

  -- the end of a whole job that went well has replaced its files
  pub finished_of : (old new : Core J F S R P means counts) (job : Job F S R P) (ended : Result (Unit {0}) Failed)
      (result : Result (Unit {0}) FlushFault) → IsEndOf true job old new ended → OnOk result (OnErr ended ⊥)
      → OnOk result (IsFinished job old new)
  finished_of old new job ended (Err why) is done = tt
  finished_of old new job (Ok value) (Ok good) is done = is
  finished_of old new job (Err failed) (Ok good) is done = absurd done
