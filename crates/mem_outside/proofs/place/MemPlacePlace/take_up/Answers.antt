use Rattle.std.proofs.Common.{◌≡◌, ◌∙◌, Ok, Err, ap, arith, refl}
use Rattle.std.proofs.lemmas.Result.{err_from_is_err_and}
use Rattle.std.specs.Prelude.{IsErrAnd, IsErrOf, OnErr, Result}
use Rattle.tsdb_outside.specs.declared.faults.StoreFault.{StoreFault}
use Rattle.tsdb_outside.specs.declared.faults.StoreFault.TheVariants.{Failed, Memory}
use Rattle.tsdb_outside.proofs.DiskLemmas.{Keeps-same}
use Rattle.mem_outside.specs.Place.{place_state}
use Rattle.mem_outside.proofs.place.MemPlacePlace.take_up.Goals as goal

-- an answer of one kind is not one of the other
memory_is_not_failed : {P : Type 0} → Memory ≡ Failed → P
memory_is_not_failed is = absurd cc

-- the exit of a `?` answers what the part's fault becomes
answers_fault : {T E : Type 0} (result : Result T E) (inner : E) → IsErrAnd result (λ fault. fault ≡ inner) → result ≡ Err inner
answers_fault result inner passed =
    let p = err_from_is_err_and result passed in
    p.1 ∙ ap (λ x. Err x) p.2

fault_is : {T E : Type 0} (result : Result T E) (inner error : E) → IsErrAnd result (λ fault. fault ≡ inner) → IsErrOf result error → inner ≡ error
fault_is result inner error passed is =
    let answers = answers_fault result inner passed in
    cc

-- memory is no cause of a fault
no_memory : {T P : Type 0} (result : Result T StoreFault) → IsErrAnd result (λ fault. fault ≡ Memory) → IsErrOf result Failed → P
no_memory result passed is = memory_is_not_failed (fault_is result Memory Failed passed is)

on_err_too : {T E P : Type 0} (result : Result T E) → P → OnErr result P
on_err_too (Ok value) holds = tt
on_err_too (Err error) holds = holds

pub returns-in_err-to_vec-clause-err : goal.returns-in_err-to_vec-clause-err
returns-in_err-to_vec-clause-err c = on_err_too c.from_residual.result (Keeps-same (place_state c.args.self.now), refl)

pub returns-in_err-to_vec-clause-still_asked : goal.returns-in_err-to_vec-clause-still_asked
returns-in_err-to_vec-clause-still_asked c = on_err_too c.from_residual.result refl

pub returns-in_err-to_vec-clause-same : goal.returns-in_err-to_vec-clause-same
returns-in_err-to_vec-clause-same c = on_err_too c.from_residual.result (refl, refl)

pub returns-in_err-to_vec-clause-cause : goal.returns-in_err-to_vec-clause-cause
returns-in_err-to_vec-clause-cause c = record {
  later = omega arith;
  failed = λ is. no_memory c.from_residual.result c.from_residual.ensures.1 is;
}

pub returns-in_err-to_vec-clause-no_fault : goal.returns-in_err-to_vec-clause-no_fault
returns-in_err-to_vec-clause-no_fault c = λ other. refl

pub returns-in_err-to_vec-clause-unfailing : goal.returns-in_err-to_vec-clause-unfailing
returns-in_err-to_vec-clause-unfailing c = λ there. refl

pub returns-in_err-directory-clause-err : goal.returns-in_err-directory-clause-err
returns-in_err-directory-clause-err c = on_err_too c.from_residual-in_err-directory.result (Keeps-same (place_state c.args.self.now), refl)

pub returns-in_err-directory-clause-still_asked : goal.returns-in_err-directory-clause-still_asked
returns-in_err-directory-clause-still_asked c = on_err_too c.from_residual-in_err-directory.result refl

pub returns-in_err-directory-clause-same : goal.returns-in_err-directory-clause-same
returns-in_err-directory-clause-same c = on_err_too c.from_residual-in_err-directory.result (refl, refl)

pub returns-in_err-directory-clause-cause : goal.returns-in_err-directory-clause-cause
returns-in_err-directory-clause-cause c = record {
  later = omega arith;
  failed = λ is. no_memory c.from_residual-in_err-directory.result c.from_residual-in_err-directory.ensures.1 is;
}

pub returns-in_err-directory-clause-no_fault : goal.returns-in_err-directory-clause-no_fault
returns-in_err-directory-clause-no_fault c = λ other. refl

pub returns-in_err-directory-clause-unfailing : goal.returns-in_err-directory-clause-unfailing
returns-in_err-directory-clause-unfailing c = λ there. refl

pub returns-in_err-asked-clause-err : goal.returns-in_err-asked-clause-err
returns-in_err-asked-clause-err c = on_err_too c.from_residual-in_err-asked.result (Keeps-same (place_state c.args.self.now), refl)

pub returns-in_err-asked-clause-still_asked : goal.returns-in_err-asked-clause-still_asked
returns-in_err-asked-clause-still_asked c = on_err_too c.from_residual-in_err-asked.result refl

pub returns-in_err-asked-clause-same : goal.returns-in_err-asked-clause-same
returns-in_err-asked-clause-same c = on_err_too c.from_residual-in_err-asked.result (refl, refl)

pub returns-in_err-asked-clause-cause : goal.returns-in_err-asked-clause-cause
returns-in_err-asked-clause-cause c = record {
  later = omega arith;
  failed = λ is. no_memory c.from_residual-in_err-asked.result c.from_residual-in_err-asked.ensures.1 is;
}

pub returns-in_err-asked-clause-no_fault : goal.returns-in_err-asked-clause-no_fault
returns-in_err-asked-clause-no_fault c = λ other. refl

pub returns-in_err-asked-clause-unfailing : goal.returns-in_err-asked-clause-unfailing
returns-in_err-asked-clause-unfailing c = λ there. refl
