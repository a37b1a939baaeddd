use Rattle.std.proofs.Common.{rules, ◌≡◌, ◌↔◌, ℕ, List, Some, Ok, Err, ap, map, refl, subst, sym, ◌∙◌}
use Rattle.std.proofs.lemmas.Bool.{false≢true}
use Rattle.std.proofs.lemmas.Result.{err_from_is_err_and}
use Rattle.std.specs.Prelude.{Contains, IsErrAnd, IsErrOf, Result}
use Rattle.tsdb_outside.specs.declared.faults.StoreFault.{StoreFault}
use Rattle.tsdb_outside.specs.declared.faults.StoreFault.TheVariants.{Failed, Memory}
use Rattle.mem_outside.specs.Entry.{entry_files}
use Rattle.tsdb_outside.specs.Files.{plain_numbers}
use Rattle.mem_outside.specs.declared.entry.StoredEntry.{StoredEntry}
use Rattle.mem_outside.proofs.EntryLemmas.{same_numbers}
use Rattle.mem_outside.proofs.files.MemFilesFiles.list.Goals as goal

-- an answer of one kind is not one of the other
never_err : {T E P : Type 0} (value : T) (error : E) → Ok value ≡ Err error → P
never_err value error is = absurd cc

memory_is_not_failed : {P : Type 0} → Memory ≡ Failed → P
memory_is_not_failed is = absurd cc

-- the exit of a `?` answers what the part's fault becomes
answers_fault : {T E : Type 0} (result : Result T E) (inner : E) → IsErrAnd result (λ fault. fault ≡ inner) → result ≡ Err inner
answers_fault result inner passed =
    let p = err_from_is_err_and result passed in
    p.1 ∙ ap (λ x. Err x) p.2

fault_is : {T E : Type 0} (result : Result T E) (inner error : E) → IsErrAnd result (λ fault. fault ≡ inner) → IsErrOf result error → inner ≡ error
fault_is result inner error passed is =
    let answers = answers_fault result inner passed in
    cc

-- memory is no cause of a fault
no_memory : {T P : Type 0} (result : Result T StoreFault) → IsErrAnd result (λ fault. fault ≡ Memory) → IsErrOf result Failed → P
no_memory result passed is = memory_is_not_failed (fault_is result Memory Failed passed is)

-- the answer is Failed exactly where the call was one that fails
fails_here : {T P : Type 0} (result : Result T StoreFault) → IsErrAnd result (λ fault. fault ≡ Failed) → P → (IsErrOf result Failed ↔ P)
fails_here result passed holds = (λ is. holds, λ again. answers_fault result Failed passed)

fails_not : {T P : Type 0} (result : Result T StoreFault) → IsErrAnd result (λ fault. fault ≡ Memory) → (P → ⊥)
    → (IsErrOf result Failed ↔ P)
fails_not result passed never = (λ is. no_memory result passed is, λ holds. absurd (never holds))

ok_fails_not : {T P : Type 0} (value : T) → (P → ⊥) → (IsErrOf (Ok value) Failed ↔ P)
ok_fails_not value never = (λ is. never_err _ _ is, λ holds. absurd (never holds))

pub returns-clause-exact : goal.returns-clause-exact
returns-clause-exact c =
    let collected : c.in_ok-numbers.numbers.items ≡ map (λ (entry : StoredEntry). entry.number) c.args.self.now.at_rest = search rules in
    λ n fits. subst (λ (l : List ℕ). Contains (plain_numbers c.in_ok-list_of_numbers.field-0.items) n ↔ Contains l n)
    (collected ∙ sym (same_numbers c.args.self.now.at_rest)) (c.in_ok-list_of_numbers.ensures.exact n fits)

pub returns-in_err-call-clause-drawn : goal.returns-in_err-call-clause-drawn
returns-in_err-call-clause-drawn c = c.call.ensures.drawn

pub returns-in_err-call-clause-cause : goal.returns-in_err-call-clause-cause
returns-in_err-call-clause-cause c = record {
  later = c.call.ensures.cause.later;
  failed = λ is. c.in_err-call.ensures.cause.failed;
}

pub returns-in_err-call-clause-fails : goal.returns-in_err-call-clause-fails
returns-in_err-call-clause-fails c = fails_here c.from_residual.result c.from_residual.ensures.1 (c.in_err-call.ensures.fails.0 refl)

pub returns-in_err-call-clause-no_fault : goal.returns-in_err-call-clause-no_fault
returns-in_err-call-clause-no_fault c = λ never. absurd (false≢true (c.in_err-call.ensures.never never))

pub returns-in_err-call-clause-same : goal.returns-in_err-call-clause-same
returns-in_err-call-clause-same c = ap (λ (l : List StoredEntry). Some (entry_files l)) c.call.ensures.at_rest

pub returns-in_err-call-clause-record : goal.returns-in_err-call-clause-record
returns-in_err-call-clause-record c = (c.call.ensures.at_rest, c.call.ensures.gone)

pub returns-in_err-call-clause-row : goal.returns-in_err-call-clause-row
returns-in_err-call-clause-row c = c.call.ensures.row

pub returns-in_err-call-clause-same_store : goal.returns-in_err-call-clause-same_store
returns-in_err-call-clause-same_store c = c.call.ensures.same_store

pub returns-in_err-numbers-clause-drawn : goal.returns-in_err-numbers-clause-drawn
returns-in_err-numbers-clause-drawn c = c.call.ensures.drawn

pub returns-in_err-numbers-clause-cause : goal.returns-in_err-numbers-clause-cause
returns-in_err-numbers-clause-cause c = record {
  later = c.call.ensures.cause.later;
  failed = λ is. no_memory c.from_residual-in_err-numbers.result c.from_residual-in_err-numbers.ensures.1 is;
}

pub returns-in_err-numbers-clause-fails : goal.returns-in_err-numbers-clause-fails
returns-in_err-numbers-clause-fails c =
    fails_not c.from_residual-in_err-numbers.result c.from_residual-in_err-numbers.ensures.1
    (λ failing. false≢true (c.in_ok-call.ensures.fails.1 failing))

pub returns-in_err-numbers-clause-no_fault : goal.returns-in_err-numbers-clause-no_fault
returns-in_err-numbers-clause-no_fault c = λ never. c.in_ok-call.ensures.no_fault

pub returns-in_err-numbers-clause-same : goal.returns-in_err-numbers-clause-same
returns-in_err-numbers-clause-same c = ap (λ (l : List StoredEntry). Some (entry_files l)) c.call.ensures.at_rest

pub returns-in_err-numbers-clause-record : goal.returns-in_err-numbers-clause-record
returns-in_err-numbers-clause-record c = (c.call.ensures.at_rest, c.call.ensures.gone)

pub returns-in_err-numbers-clause-row : goal.returns-in_err-numbers-clause-row
returns-in_err-numbers-clause-row c = c.call.ensures.row

pub returns-in_err-numbers-clause-same_store : goal.returns-in_err-numbers-clause-same_store
returns-in_err-numbers-clause-same_store c = c.call.ensures.same_store

pub returns-in_err-list_of_numbers-clause-drawn : goal.returns-in_err-list_of_numbers-clause-drawn
returns-in_err-list_of_numbers-clause-drawn c = c.call.ensures.drawn

pub returns-in_err-list_of_numbers-clause-cause : goal.returns-in_err-list_of_numbers-clause-cause
returns-in_err-list_of_numbers-clause-cause c = record {
  later = c.call.ensures.cause.later;
  failed = λ is. no_memory c.from_residual-in_err-list_of_numbers.result c.from_residual-in_err-list_of_numbers.ensures.1 is;
}

pub returns-in_err-list_of_numbers-clause-fails : goal.returns-in_err-list_of_numbers-clause-fails
returns-in_err-list_of_numbers-clause-fails c =
    fails_not c.from_residual-in_err-list_of_numbers.result c.from_residual-in_err-list_of_numbers.ensures.1
    (λ failing. false≢true (c.in_ok-call.ensures.fails.1 failing))

pub returns-in_err-list_of_numbers-clause-no_fault : goal.returns-in_err-list_of_numbers-clause-no_fault
returns-in_err-list_of_numbers-clause-no_fault c = λ never. c.in_ok-call.ensures.no_fault

pub returns-in_err-list_of_numbers-clause-same : goal.returns-in_err-list_of_numbers-clause-same
returns-in_err-list_of_numbers-clause-same c = ap (λ (l : List StoredEntry). Some (entry_files l)) c.call.ensures.at_rest

pub returns-in_err-list_of_numbers-clause-record : goal.returns-in_err-list_of_numbers-clause-record
returns-in_err-list_of_numbers-clause-record c = (c.call.ensures.at_rest, c.call.ensures.gone)

pub returns-in_err-list_of_numbers-clause-row : goal.returns-in_err-list_of_numbers-clause-row
returns-in_err-list_of_numbers-clause-row c = c.call.ensures.row

pub returns-in_err-list_of_numbers-clause-same_store : goal.returns-in_err-list_of_numbers-clause-same_store
returns-in_err-list_of_numbers-clause-same_store c = c.call.ensures.same_store

pub returns-clause-drawn : goal.returns-clause-drawn
returns-clause-drawn c = c.call.ensures.drawn

pub returns-clause-cause : goal.returns-clause-cause
returns-clause-cause c = record { later = c.call.ensures.cause.later; failed = λ is. never_err _ _ is }

pub returns-clause-fails : goal.returns-clause-fails
returns-clause-fails c = ok_fails_not _ (λ failing. false≢true (c.in_ok-call.ensures.fails.1 failing))

pub returns-clause-no_fault : goal.returns-clause-no_fault
returns-clause-no_fault c = λ never. c.in_ok-call.ensures.no_fault

pub returns-clause-same : goal.returns-clause-same
returns-clause-same c = ap (λ (l : List StoredEntry). Some (entry_files l)) c.call.ensures.at_rest

pub returns-clause-record : goal.returns-clause-record
returns-clause-record c = (c.call.ensures.at_rest, c.call.ensures.gone)

pub returns-clause-row : goal.returns-clause-row
returns-clause-row c = c.call.ensures.row

pub returns-clause-same_store : goal.returns-clause-same_store
returns-clause-same_store c = c.call.ensures.same_store
