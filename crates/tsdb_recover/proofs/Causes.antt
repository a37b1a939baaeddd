-- Causes of faults, over the parts of an opening.
use Rattle.std.proofs.Common.{◌≡◌, ◌⊎◌, ℕ, ◌≤◌, Err, Ok, Result, inl, inr, refl, arith}
use Rattle.std.specs.Prelude.{IsErrOf, ⊤}
use Rattle.tsdb_base.specs.Causes.{Rose}
use Rattle.tsdb_recover.specs.Files.{HasFilesCause}
use Rattle.tsdb_recover.specs.declared.fault.OpenFault.{OpenFault}
use Rattle.tsdb_recover.specs.declared.fault.OpenFault.TheVariants as fault

rose_later : (a b c : ℕ) → a ≤ b → Rose b c → Rose a c
rose_later a b c less rose = omega (arith, less, rose)

-- what is no fault, or not that of a device
pub no_failure : {T : Type 0} (a b p q : ℕ) (result : Result T OpenFault) → a ≤ b → p ≤ q
    → (IsErrOf result fault.Failed → ⊥) → HasFilesCause a b p q result
no_failure a b p q result less port_less none = record {
  later = less;
  port_later = port_less;
  failed = λ is. absurd (none is);
}

-- a part behind another
pub cause_then : {T : Type 0} (a b c p q r : ℕ) (result : Result T OpenFault) → a ≤ b → p ≤ q
    → HasFilesCause b c q r result → HasFilesCause a c p r result
cause_then a b c p q r result less port_less cause = record {
  later = omega (arith, less, cause.later);
  port_later = omega (arith, port_less, cause.port_later);
  failed = λ is. by (cause.failed is);
}
  where
    by : Rose b c ⊎ Rose q r → Rose a c ⊎ Rose p r
    by (inl rose) = inl (rose_later a b c less rose)
    by (inr rose) = inr (rose_later p q r port_less rose)

pub none_yet : (a p : ℕ) → HasFilesCause {T = ⊤} a a p p (Ok tt)
none_yet a p = no_failure a a p p (Ok tt) (omega arith) (omega arith) (no_error (Ok tt) refl)
  where
    no_error : (result : Result ⊤ OpenFault) → result ≡ Ok tt → result ≡ Err fault.Failed → ⊥
    no_error result is fails = cc
