-- What follows from how a call ended, and from the counts of faults.
use Rattle.std.proofs.Common.{◌≡◌, ◌∙◌, ℕ, ◌+◌, ◌-◌, ◌^◌, ◌≤◌, min, sym, ap, subst, arith}
use Rattle.std.proofs.lemmas.Result.{err_from_is_err_and}
use Rattle.std.specs.Prelude.{Result, Ok, Err, OnOk, OnErr, IsErrAnd, IsErrOf}
use Rattle.tsdb_base.specs.Causes.{Rose}
use Rattle.tsdb_outside.specs.Causes.{HasCause}
use Rattle.tsdb_outside.specs.declared.faults.StoreFault.{StoreFault}
use Rattle.tsdb_outside.specs.declared.faults.StoreFault.TheVariants.{Failed, Memory}
use Rattle.fs_outside.proofs.DirectoryLemmas.{always_on_err}

pub always_on_ok : {T E : Type 0} {P : Type 0} (r : Result T E) → P → OnOk r P
always_on_ok (Ok x) p = p
always_on_ok (Err e) p = tt

-- an answer of one kind is not one of the other
pub never_err : {T E P : Type 0} (value : T) (error : E) → Ok value ≡ Err error → P
never_err value error is = absurd cc

pub fault_of : {T : Type 0} (fault other : StoreFault) → ◌≡◌ {A = Result T StoreFault} (Err fault) (Err other) → fault ≡ other
fault_of fault other is = cc

pub memory_is_not_failed : {P : Type 0} → Memory ≡ Failed → P
memory_is_not_failed is = absurd cc

-- memory is no cause of a fault
pub no_memory : {T P : Type 0} (r : Result T StoreFault) → IsErrAnd r (λ fault. fault ≡ Memory) → IsErrOf r Failed → P
no_memory {T} r passed is =
    let p = err_from_is_err_and r passed in
    memory_is_not_failed (fault_of {T = T} Memory Failed (sym (p.1 ∙ ap (λ x. Err x) p.2) ∙ is))

-- the cause of a part is a cause of the whole
pub rose_later : (first mid last : ℕ) → first ≤ mid → Rose mid last → Rose first last
rose_later first mid last later rose = omega (arith, later, rose)

pub rose_still : (first mid last : ℕ) → Rose first mid → last ≡ mid → Rose first last
rose_still first mid last rose same = subst (λ (n : ℕ). Rose first n) (sym same) rose

on_err_rose_later : {T E : Type 0} (r : Result T E) (first mid last : ℕ) → first ≤ mid → OnErr r (Rose mid last) → OnErr r (Rose first last)
on_err_rose_later (Ok x) first mid last later rose = tt
on_err_rose_later (Err e) first mid last later rose = rose_later first mid last later rose

pub same_count : (n : ℕ) → n ≤ n
same_count n = omega arith

-- the exit of a `?`
pub cause_passed : {T E : Type 0} (r : Result T E) (first mid last : ℕ) → first ≤ mid → mid ≤ last → Rose mid last → HasCause first last r
cause_passed r first mid last one two rose =
    record { later = omega (arith, one, two); failed = always_on_err r (rose_later first mid last one rose) }

-- the last call
pub cause_then : {T E : Type 0} (r : Result T E) (first mid last : ℕ) → first ≤ mid → HasCause mid last r → HasCause first last r
cause_then r first mid last one cause =
    record { later = omega (arith, one, cause.later); failed = on_err_rose_later r first mid last one cause.failed }

-- the cause of one of two parts is a cause of both
rose_of_first : (first last other : ℕ) → Rose first last → Rose (min (first + other) (2 ^ 64 - 1)) (min (last + other) (2 ^ 64 - 1))
rose_of_first first last other rose = omega (arith, rose)

pub cause_of_first : {T E : Type 0} (r : Result T E) (first last other : ℕ) → HasCause first last r
    → HasCause (min (first + other) (2 ^ 64 - 1)) (min (last + other) (2 ^ 64 - 1)) r
cause_of_first (Ok x) first last other cause = record { later = omega (arith, cause.later); failed = tt }
cause_of_first (Err e) first last other cause =
    record { later = omega (arith, cause.later); failed = rose_of_first first last other cause.failed }

rose_of_second : (first last other : ℕ) → Rose first last → Rose (min (other + first) (2 ^ 64 - 1)) (min (other + last) (2 ^ 64 - 1))
rose_of_second first last other rose = omega (arith, rose)

pub cause_of_second : {T E : Type 0} (r : Result T E) (first last other : ℕ) → HasCause first last r
    → HasCause (min (other + first) (2 ^ 64 - 1)) (min (other + last) (2 ^ 64 - 1)) r
cause_of_second (Ok x) first last other cause = record { later = omega (arith, cause.later); failed = tt }
cause_of_second (Err e) first last other cause =
    record { later = omega (arith, cause.later); failed = rose_of_second first last other cause.failed }

-- a count at the end of its type
pub silent_cause : {T E : Type 0} (r : Result T E) → HasCause (2 ^ 64 - 1) (2 ^ 64 - 1) r
silent_cause r = record { later = omega arith; failed = always_on_err r (omega arith) }
