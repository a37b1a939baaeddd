use Rattle.std.proofs.Common.{◌≡◌, ◌↔◌, ◌∙◌, List, Some, Ok, Err, ap, refl, subst}
use Rattle.std.proofs.lemmas.Bool.{false≢true}
use Rattle.std.proofs.lemmas.Result.{err_from_is_err_and}
use Rattle.std.specs.Prelude.{Contains, IsErrAnd, IsErrOf, OnErr, Result}
use Rattle.tsdb_outside.specs.declared.faults.StoreFault.{StoreFault}
use Rattle.tsdb_outside.specs.declared.faults.StoreFault.TheVariants.{Failed, Memory}
use Rattle.tsdb_outside.specs.Files.{stored_file_numbers}
use Rattle.mem_outside.specs.declared.entry.StoredEntry.{StoredEntry}
use Rattle.mem_outside.specs.Entry.{entry_files, TakesFileNode}
use Rattle.mem_outside.proofs.EntryLemmas.{none_found}
use Rattle.mem_outside.proofs.files.MemFilesFiles.fetch.Goals as goal

-- an answer of one kind is not one of the other
never_err : {T E P : Type 0} (value : T) (error : E) → Ok value ≡ Err error → P
never_err value error is = absurd cc

memory_is_not_failed : {P : Type 0} → Memory ≡ Failed → P
memory_is_not_failed is = absurd cc

-- the exit of a `?` answers what the part's fault becomes
answers_fault : {T E : Type 0} (result : Result T E) (inner : E) → IsErrAnd result (λ fault. fault ≡ inner) → result ≡ Err inner
answers_fault result inner passed =
    let p = err_from_is_err_and result passed in
    p.1 ∙ ap (λ x. Err x) p.2

fault_is : {T E : Type 0} (result : Result T E) (inner error : E) → IsErrAnd result (λ fault. fault ≡ inner) → IsErrOf result error → inner ≡ error
fault_is result inner error passed is =
    let answers = answers_fault result inner passed in
    cc

-- memory is no cause of a fault
no_memory : {T P : Type 0} (result : Result T StoreFault) → IsErrAnd result (λ fault. fault ≡ Memory) → IsErrOf result Failed → P
no_memory result passed is = memory_is_not_failed (fault_is result Memory Failed passed is)

-- the answer is Failed exactly where the call was one that fails
fails_here : {T P : Type 0} (result : Result T StoreFault) → IsErrAnd result (λ fault. fault ≡ Failed) → P → (IsErrOf result Failed ↔ P)
fails_here result passed holds = (λ is. holds, λ again. answers_fault result Failed passed)

fails_not : {T P : Type 0} (result : Result T StoreFault) → IsErrAnd result (λ fault. fault ≡ Memory) → (P → ⊥)
    → (IsErrOf result Failed ↔ P)
fails_not result passed never = (λ is. no_memory result passed is, λ holds. absurd (never holds))

ok_fails_not : {T P : Type 0} (value : T) → (P → ⊥) → (IsErrOf (Ok value) Failed ↔ P)
ok_fails_not value never = (λ is. never_err _ _ is, λ holds. absurd (never holds))

on_err_too : {T E P : Type 0} (result : Result T E) → P → OnErr result P
on_err_too (Ok value) holds = tt
on_err_too (Err error) holds = holds

pub returns-in-None-clause-none : goal.returns-in-None-clause-none
returns-in-None-clause-none c =
    subst (λ (l : List StoredEntry). Contains (stored_file_numbers (entry_files l)) c.args.number.0 → ⊥) c.call.ensures.at_rest
    (none_found (λ node. TakesFileNode c.args.number.0 node c.call.new.self.at_rest c.take_node.new.entries)
    c.in_ok-node.field-0 c.in-None.is c.in_ok-node.ensures.none)

pub returns-in_err-call-clause-drawn : goal.returns-in_err-call-clause-drawn
returns-in_err-call-clause-drawn c = c.call.ensures.drawn

pub returns-in_err-call-clause-cause : goal.returns-in_err-call-clause-cause
returns-in_err-call-clause-cause c = record {
  later = c.call.ensures.cause.later;
  failed = λ is. c.in_err-call.ensures.cause.failed;
}

pub returns-in_err-call-clause-fails : goal.returns-in_err-call-clause-fails
returns-in_err-call-clause-fails c = fails_here c.from_residual.result c.from_residual.ensures.1 (c.in_err-call.ensures.fails.0 refl)

pub returns-in_err-call-clause-no_fault : goal.returns-in_err-call-clause-no_fault
returns-in_err-call-clause-no_fault c = λ never. absurd (false≢true (c.in_err-call.ensures.never never))

pub returns-in_err-call-clause-gone : goal.returns-in_err-call-clause-gone
returns-in_err-call-clause-gone c = c.call.ensures.gone

pub returns-in_err-call-clause-row : goal.returns-in_err-call-clause-row
returns-in_err-call-clause-row c = c.call.ensures.row

pub returns-in_err-call-clause-same_store : goal.returns-in_err-call-clause-same_store
returns-in_err-call-clause-same_store c = c.call.ensures.same_store

pub returns-in_err-call-clause-err : goal.returns-in_err-call-clause-err
returns-in_err-call-clause-err c = on_err_too c.from_residual.result (ap (λ (l : List StoredEntry). Some (entry_files l)) c.call.ensures.at_rest)

pub returns-in_err-directory-clause-drawn : goal.returns-in_err-directory-clause-drawn
returns-in_err-directory-clause-drawn c = c.call.ensures.drawn

pub returns-in_err-directory-clause-cause : goal.returns-in_err-directory-clause-cause
returns-in_err-directory-clause-cause c = record {
  later = c.call.ensures.cause.later;
  failed = λ is. no_memory c.from_residual-in_err-directory.result c.from_residual-in_err-directory.ensures.1 is;
}

pub returns-in_err-directory-clause-fails : goal.returns-in_err-directory-clause-fails
returns-in_err-directory-clause-fails c =
    fails_not c.from_residual-in_err-directory.result c.from_residual-in_err-directory.ensures.1
    (λ failing. false≢true (c.in_ok-call.ensures.fails.1 failing))

pub returns-in_err-directory-clause-no_fault : goal.returns-in_err-directory-clause-no_fault
returns-in_err-directory-clause-no_fault c = λ never. c.in_ok-call.ensures.no_fault

pub returns-in_err-directory-clause-gone : goal.returns-in_err-directory-clause-gone
returns-in_err-directory-clause-gone c = c.call.ensures.gone

pub returns-in_err-directory-clause-row : goal.returns-in_err-directory-clause-row
returns-in_err-directory-clause-row c = c.call.ensures.row

pub returns-in_err-directory-clause-same_store : goal.returns-in_err-directory-clause-same_store
returns-in_err-directory-clause-same_store c = c.call.ensures.same_store

pub returns-in_err-directory-clause-err : goal.returns-in_err-directory-clause-err
returns-in_err-directory-clause-err c =
    on_err_too c.from_residual-in_err-directory.result (ap (λ (l : List StoredEntry). Some (entry_files l)) c.call.ensures.at_rest)

pub returns-in_err-node-clause-drawn : goal.returns-in_err-node-clause-drawn
returns-in_err-node-clause-drawn c = c.call.ensures.drawn

pub returns-in_err-node-clause-cause : goal.returns-in_err-node-clause-cause
returns-in_err-node-clause-cause c = record {
  later = c.call.ensures.cause.later;
  failed = λ is. no_memory c.from_residual-in_err-node.result c.from_residual-in_err-node.ensures.1 is;
}

pub returns-in_err-node-clause-fails : goal.returns-in_err-node-clause-fails
returns-in_err-node-clause-fails c =
    fails_not c.from_residual-in_err-node.result c.from_residual-in_err-node.ensures.1
    (λ failing. false≢true (c.in_ok-call.ensures.fails.1 failing))

pub returns-in_err-node-clause-no_fault : goal.returns-in_err-node-clause-no_fault
returns-in_err-node-clause-no_fault c = λ never. c.in_ok-call.ensures.no_fault

pub returns-in_err-node-clause-gone : goal.returns-in_err-node-clause-gone
returns-in_err-node-clause-gone c = c.call.ensures.gone

pub returns-in_err-node-clause-row : goal.returns-in_err-node-clause-row
returns-in_err-node-clause-row c = c.call.ensures.row

pub returns-in_err-node-clause-same_store : goal.returns-in_err-node-clause-same_store
returns-in_err-node-clause-same_store c = c.call.ensures.same_store

pub returns-in_err-node-clause-err : goal.returns-in_err-node-clause-err
returns-in_err-node-clause-err c =
    on_err_too c.from_residual-in_err-node.result (ap (λ (l : List StoredEntry). Some (entry_files l)) (c.in_err-node.ensures.err ∙ c.call.ensures.at_rest))

pub returns-in-Some-clause-drawn : goal.returns-in-Some-clause-drawn
returns-in-Some-clause-drawn c = c.call.ensures.drawn

pub returns-in-Some-clause-cause : goal.returns-in-Some-clause-cause
returns-in-Some-clause-cause c = record {
  later = c.call.ensures.cause.later;
  failed = λ is. never_err _ _ is;
}

pub returns-in-Some-clause-fails : goal.returns-in-Some-clause-fails
returns-in-Some-clause-fails c = ok_fails_not _ (λ failing. false≢true (c.in_ok-call.ensures.fails.1 failing))

pub returns-in-Some-clause-no_fault : goal.returns-in-Some-clause-no_fault
returns-in-Some-clause-no_fault c = λ never. c.in_ok-call.ensures.no_fault

pub returns-in-Some-clause-gone : goal.returns-in-Some-clause-gone
returns-in-Some-clause-gone c = c.call.ensures.gone

pub returns-in-Some-clause-row : goal.returns-in-Some-clause-row
returns-in-Some-clause-row c = c.call.ensures.row

pub returns-in-Some-clause-same_store : goal.returns-in-Some-clause-same_store
returns-in-Some-clause-same_store c = c.call.ensures.same_store

pub returns-in-None-clause-drawn : goal.returns-in-None-clause-drawn
returns-in-None-clause-drawn c = c.call.ensures.drawn

pub returns-in-None-clause-cause : goal.returns-in-None-clause-cause
returns-in-None-clause-cause c = record {
  later = c.call.ensures.cause.later;
  failed = λ is. never_err _ _ is;
}

pub returns-in-None-clause-fails : goal.returns-in-None-clause-fails
returns-in-None-clause-fails c = ok_fails_not _ (λ failing. false≢true (c.in_ok-call.ensures.fails.1 failing))

pub returns-in-None-clause-no_fault : goal.returns-in-None-clause-no_fault
returns-in-None-clause-no_fault c = λ never. c.in_ok-call.ensures.no_fault

pub returns-in-None-clause-gone : goal.returns-in-None-clause-gone
returns-in-None-clause-gone c = c.call.ensures.gone

pub returns-in-None-clause-row : goal.returns-in-None-clause-row
returns-in-None-clause-row c = c.call.ensures.row

pub returns-in-None-clause-same_store : goal.returns-in-None-clause-same_store
returns-in-None-clause-same_store c = c.call.ensures.same_store

pub returns-in-None-clause-same : goal.returns-in-None-clause-same
returns-in-None-clause-same c =
    λ none. ap (λ (l : List StoredEntry). Some (entry_files l)) (c.in_ok-node.ensures.same c.in-None.is ∙ c.call.ensures.at_rest)
