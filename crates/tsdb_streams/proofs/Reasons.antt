-- When a call that reads a file may fail.
use Rattle.std.proofs.Common.{◌≡◌, ℕ, ◌≤◌, List, Result, Ok, Err, refl, arith}
use Rattle.std.specs.Prelude.{IfErr, Option, None, Some}
use Rattle.tsdb_streams.specs.Files.{HasReason, IsCountedFault}
use Rattle.tsdb_base.specs.Causes.{Rose}
use Rattle.tsdb_outside.specs.declared.faults.StoreFault.{StoreFault}
use Rattle.tsdb_outside.specs.declared.faults.StoreFault.TheVariants as store
use Rattle.tsfile_reader.specs.Answers.{HasReadCause, IsNotDamaged}
use Rattle.tsfile_reader.specs.declared.fault.ReadFault.{ReadFault}
use Rattle.tsfile_reader.specs.declared.fault.ReadFault.TheVariants.{Failed, Damaged, Memory}

rose_later : (a b c : ℕ) → Rose a b → b ≤ c → Rose a c
rose_later a b c r l = omega (arith, r, l)

rose_earlier : (a b c : ℕ) → a ≤ b → Rose b c → Rose a c
rose_earlier a b c l r = omega (arith, l, r)

is_none : (told : Option (List ℕ)) → ((bytes : List ℕ) → told ≡ Some bytes → ⊥) → told ≡ None
is_none None none = refl
is_none (Some bytes) none = absurd (none bytes refl)

pub memory_failed : {T : Type 0} (answer : StoreFault) → answer ≡ store.Memory → ◌≡◌ {A = Result T StoreFault} (Err answer) (Err store.Failed) → ⊥
memory_failed answer memory failed = cc

pub ok_failed : {T : Type 0} (x : T) (fault : StoreFault) → ◌≡◌ {A = Result T StoreFault} (Ok x) (Err fault) → ⊥
ok_failed x fault e = cc

-- a read failed, and the fault was counted
pub reason_of : {S T : Type 0} (whole : Type 0) (told : Option (List ℕ)) (a b c : ℕ) (fault : ReadFault) (answer : StoreFault) → HasReadCause {T = S} a b (Err fault) → b ≤ c → IsCountedFault told b c fault answer
    → (whole → (bytes : List ℕ) → told ≡ Some bytes → IsNotDamaged {T = S} (Err fault)) → HasReason {T = T} whole a c (Err answer)
reason_of whole told a b c Failed answer cause later counted sound = record {
  later = omega (arith, cause.later, later);
  failed = λ is all. rose_later a b c (cause.failed refl) later;
}
reason_of whole told a b c (Damaged at) answer cause later counted sound = record {
  later = omega (arith, cause.later, later);
  failed = λ is all. rose_earlier a b c cause.later (counted.1 (is_none told (λ bytes e. sound all bytes e)));
}
reason_of whole told a b c Memory answer cause later counted sound = record {
  later = omega (arith, cause.later, later);
  failed = λ is all. absurd (memory_failed answer counted is);
}

-- no fault
pub reason_ok : {T : Type 0} (whole : Type 0) (a b : ℕ) (x : T) → a ≤ b → HasReason whole a b (Ok x)
reason_ok whole a b x later = record { later = later; failed = λ is. absurd (ok_failed x store.Failed is) }

-- one call went well, and another has its reason
pub reason_then : {T : Type 0} (whole whole_now : Type 0) (a b c : ℕ) (result : Result T StoreFault) → (whole → whole_now) → a ≤ b → HasReason whole_now b c result → HasReason whole a c result
reason_then whole whole_now a b c result stays later reason = record {
  later = omega (arith, later, reason.later);
  failed = λ is all. rose_earlier a b c later (reason.failed is (stays all));
}

-- out of memory needs none
pub reason_memory : {T : Type 0} (whole : Type 0) (a b : ℕ) (fault : StoreFault) → a ≤ b → fault ≡ store.Memory → HasReason {T = T} whole a b (Err fault)
reason_memory whole a b fault later memory = record { later = later; failed = λ is all. absurd (memory_failed fault memory is) }

-- the same fault of a call that returns something else
pub same_reason : {S T : Type 0} (whole : Type 0) (a b : ℕ) (fault : StoreFault) → HasReason {T = S} whole a b (Err fault) → HasReason {T = T} whole a b (Err fault)
same_reason {S} {T} whole a b fault reason = record { later = reason.later; failed = λ is all. reason.failed (failed fault is) all }
  where
    failed : (fault : StoreFault) → ◌≡◌ {A = Result T StoreFault} (Err fault) (Err store.Failed) → ◌≡◌ {A = Result S StoreFault} (Err fault) (Err store.Failed)
    failed fault is = cc

-- a call that reads nothing is at most out of memory
pub memory_alone : {T : Type 0} (whole : Type 0) (a : ℕ) (result : Result T StoreFault) → IfErr result (λ fault. fault ≡ store.Memory) → HasReason whole a a result
memory_alone whole a (Ok x) memory = reason_ok whole a a x (omega arith)
memory_alone whole a (Err fault) memory = reason_memory whole a a fault (omega arith) memory
