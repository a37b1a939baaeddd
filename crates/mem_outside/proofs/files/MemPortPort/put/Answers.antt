use Rattle.std.proofs.Common.{rules, ◌≡◌, ◌∙◌, Ok, Err, ap, refl, None}
use Rattle.std.proofs.lemmas.Bool.{false≢true}
use Rattle.std.proofs.lemmas.Result.{err_from_is_err_and}
use Rattle.std.specs.Prelude.{IsErrAnd, IsErrOf, IsOk, OnOk, Result}
use Rattle.tsdb_outside.specs.declared.faults.StoreFault.{StoreFault}
use Rattle.tsdb_outside.specs.declared.faults.StoreFault.TheVariants.{Failed, Memory}
use Rattle.mem_outside.specs.declared.entry.StoredEntry.{StoredEntry}
use Rattle.mem_outside.specs.Entry.{entry_file}
use Rattle.mem_outside.specs.Files.{port_gone}
use Rattle.mem_outside.proofs.EntryLemmas.{adds_failed}
use Rattle.mem_outside.proofs.files.MemPortPort.put.Goals as goal

-- an answer of one kind is not one of the other
memory_is_not_failed : {P : Type 0} → Memory ≡ Failed → P
memory_is_not_failed is = absurd cc

-- the exit of a `?` answers what the part's fault becomes
answers_fault : {T E : Type 0} (result : Result T E) (inner : E) → IsErrAnd result (λ fault. fault ≡ inner) → result ≡ Err inner
answers_fault result inner passed =
    let p = err_from_is_err_and result passed in
    p.1 ∙ ap (λ x. Err x) p.2

fault_is : {T E : Type 0} (result : Result T E) (inner error : E) → IsErrAnd result (λ fault. fault ≡ inner) → IsErrOf result error → inner ≡ error
fault_is result inner error passed is =
    let answers = answers_fault result inner passed in
    cc

-- memory is no cause of a fault
no_memory : {T P : Type 0} (result : Result T StoreFault) → IsErrAnd result (λ fault. fault ≡ Memory) → IsErrOf result Failed → P
no_memory result passed is = memory_is_not_failed (fault_is result Memory Failed passed is)

ok_holds : {T E P : Type 0} (result : Result T E) → IsOk result → OnOk result P → P
ok_holds (Ok value) ok holds = holds
ok_holds (Err error) ok holds = absurd (false≢true ok)

pub returns-then-is_err-clause-failed : goal.returns-then-is_err-clause-failed
returns-then-is_err-clause-failed c =
    let entry : StoredEntry = record {
      number = c.args.number.0;
      bytes = c.in_ok-bytes.bytes;
      put_at = c.call-answer.new.self.last.place;
      removed_at = None;
    } in
    let file : entry_file entry ≡ record { number = c.args.number.0; bytes = c.args.bytes.now } = search rules in
    λ failed. adds_failed c.args.number.0 c.args.bytes.now c.call-answer.new.self.last.place (port_gone c.args.self.now)
    (port_gone c.call-answer.new.self) c.put_removed.new.gone c.into_node.result entry c.call-answer.ensures.gone
    (c.into_node.ensures.node ∙ c.in_ok-sealed.ensures.node) c.put_removed.ensures file refl

pub returns-in_err-to_vec-clause-cause : goal.returns-in_err-to_vec-clause-cause
returns-in_err-to_vec-clause-cause c = record {
  later = c.call-answer.ensures.cause.later;
  failed = λ is. no_memory c.from_residual.result c.from_residual.ensures.1 is;
}

pub returns-in_err-to_vec-clause-no_fault : goal.returns-in_err-to_vec-clause-no_fault
returns-in_err-to_vec-clause-no_fault c =
    λ never. ok_holds c.call-answer.result (c.call-answer.ensures.never never) c.call-answer.ensures.no_fault

pub returns-in_err-to_vec-clause-no_room : goal.returns-in_err-to_vec-clause-no_room
returns-in_err-to_vec-clause-no_room c = λ is. c.call-answer.ensures.gone

pub returns-in_err-to_vec-clause-failed : goal.returns-in_err-to_vec-clause-failed
returns-in_err-to_vec-clause-failed c = λ is. no_memory c.from_residual.result c.from_residual.ensures.1 is

pub returns-in_err-to_vec-clause-fails : goal.returns-in_err-to_vec-clause-fails
returns-in_err-to_vec-clause-fails c = λ is. no_memory c.from_residual.result c.from_residual.ensures.1 is

pub returns-in_err-to_vec-clause-drawn : goal.returns-in_err-to_vec-clause-drawn
returns-in_err-to_vec-clause-drawn c = c.call-answer.ensures.drawn

pub returns-in_err-to_vec-clause-row : goal.returns-in_err-to_vec-clause-row
returns-in_err-to_vec-clause-row c = c.call-answer.ensures.row

pub returns-in_err-to_vec-clause-same_store : goal.returns-in_err-to_vec-clause-same_store
returns-in_err-to_vec-clause-same_store c = c.call-answer.ensures.same_store

pub returns-in_err-to_vec-clause-bytes_read : goal.returns-in_err-to_vec-clause-bytes_read
returns-in_err-to_vec-clause-bytes_read c = c.call-answer.ensures.bytes_read

pub returns-in_err-bytes-clause-cause : goal.returns-in_err-bytes-clause-cause
returns-in_err-bytes-clause-cause c = record {
  later = c.call-answer.ensures.cause.later;
  failed = λ is. no_memory c.from_residual-in_err-bytes.result c.from_residual-in_err-bytes.ensures.1 is;
}

pub returns-in_err-bytes-clause-no_fault : goal.returns-in_err-bytes-clause-no_fault
returns-in_err-bytes-clause-no_fault c =
    λ never. ok_holds c.call-answer.result (c.call-answer.ensures.never never) c.call-answer.ensures.no_fault

pub returns-in_err-bytes-clause-no_room : goal.returns-in_err-bytes-clause-no_room
returns-in_err-bytes-clause-no_room c = λ is. c.call-answer.ensures.gone

pub returns-in_err-bytes-clause-failed : goal.returns-in_err-bytes-clause-failed
returns-in_err-bytes-clause-failed c = λ is. no_memory c.from_residual-in_err-bytes.result c.from_residual-in_err-bytes.ensures.1 is

pub returns-in_err-bytes-clause-fails : goal.returns-in_err-bytes-clause-fails
returns-in_err-bytes-clause-fails c = λ is. no_memory c.from_residual-in_err-bytes.result c.from_residual-in_err-bytes.ensures.1 is

pub returns-in_err-bytes-clause-drawn : goal.returns-in_err-bytes-clause-drawn
returns-in_err-bytes-clause-drawn c = c.call-answer.ensures.drawn

pub returns-in_err-bytes-clause-row : goal.returns-in_err-bytes-clause-row
returns-in_err-bytes-clause-row c = c.call-answer.ensures.row

pub returns-in_err-bytes-clause-same_store : goal.returns-in_err-bytes-clause-same_store
returns-in_err-bytes-clause-same_store c = c.call-answer.ensures.same_store

pub returns-in_err-bytes-clause-bytes_read : goal.returns-in_err-bytes-clause-bytes_read
returns-in_err-bytes-clause-bytes_read c = c.call-answer.ensures.bytes_read

pub returns-in_err-directory-clause-cause : goal.returns-in_err-directory-clause-cause
returns-in_err-directory-clause-cause c = record {
  later = c.call-answer.ensures.cause.later;
  failed = λ is. no_memory c.from_residual-in_err-directory.result c.from_residual-in_err-directory.ensures.1 is;
}

pub returns-in_err-directory-clause-no_fault : goal.returns-in_err-directory-clause-no_fault
returns-in_err-directory-clause-no_fault c =
    λ never. ok_holds c.call-answer.result (c.call-answer.ensures.never never) c.call-answer.ensures.no_fault

pub returns-in_err-directory-clause-no_room : goal.returns-in_err-directory-clause-no_room
returns-in_err-directory-clause-no_room c = λ is. c.call-answer.ensures.gone

pub returns-in_err-directory-clause-failed : goal.returns-in_err-directory-clause-failed
returns-in_err-directory-clause-failed c =
    λ is. no_memory c.from_residual-in_err-directory.result c.from_residual-in_err-directory.ensures.1 is

pub returns-in_err-directory-clause-fails : goal.returns-in_err-directory-clause-fails
returns-in_err-directory-clause-fails c =
    λ is. no_memory c.from_residual-in_err-directory.result c.from_residual-in_err-directory.ensures.1 is

pub returns-in_err-directory-clause-drawn : goal.returns-in_err-directory-clause-drawn
returns-in_err-directory-clause-drawn c = c.call-answer.ensures.drawn

pub returns-in_err-directory-clause-row : goal.returns-in_err-directory-clause-row
returns-in_err-directory-clause-row c = c.call-answer.ensures.row

pub returns-in_err-directory-clause-same_store : goal.returns-in_err-directory-clause-same_store
returns-in_err-directory-clause-same_store c = c.call-answer.ensures.same_store

pub returns-in_err-directory-clause-bytes_read : goal.returns-in_err-directory-clause-bytes_read
returns-in_err-directory-clause-bytes_read c = c.call-answer.ensures.bytes_read

pub returns-in_err-sealed-clause-cause : goal.returns-in_err-sealed-clause-cause
returns-in_err-sealed-clause-cause c = record {
  later = c.call-answer.ensures.cause.later;
  failed = λ is. no_memory c.from_residual-in_err-sealed.result c.from_residual-in_err-sealed.ensures.1 is;
}

pub returns-in_err-sealed-clause-no_fault : goal.returns-in_err-sealed-clause-no_fault
returns-in_err-sealed-clause-no_fault c =
    λ never. ok_holds c.call-answer.result (c.call-answer.ensures.never never) c.call-answer.ensures.no_fault

pub returns-in_err-sealed-clause-no_room : goal.returns-in_err-sealed-clause-no_room
returns-in_err-sealed-clause-no_room c = λ is. c.call-answer.ensures.gone

pub returns-in_err-sealed-clause-failed : goal.returns-in_err-sealed-clause-failed
returns-in_err-sealed-clause-failed c = λ is. no_memory c.from_residual-in_err-sealed.result c.from_residual-in_err-sealed.ensures.1 is

pub returns-in_err-sealed-clause-fails : goal.returns-in_err-sealed-clause-fails
returns-in_err-sealed-clause-fails c = λ is. no_memory c.from_residual-in_err-sealed.result c.from_residual-in_err-sealed.ensures.1 is

pub returns-in_err-sealed-clause-drawn : goal.returns-in_err-sealed-clause-drawn
returns-in_err-sealed-clause-drawn c = c.call-answer.ensures.drawn

pub returns-in_err-sealed-clause-row : goal.returns-in_err-sealed-clause-row
returns-in_err-sealed-clause-row c = c.call-answer.ensures.row

pub returns-in_err-sealed-clause-same_store : goal.returns-in_err-sealed-clause-same_store
returns-in_err-sealed-clause-same_store c = c.call-answer.ensures.same_store

pub returns-in_err-sealed-clause-bytes_read : goal.returns-in_err-sealed-clause-bytes_read
returns-in_err-sealed-clause-bytes_read c = c.call-answer.ensures.bytes_read

pub returns-then-is_err-clause-drawn : goal.returns-then-is_err-clause-drawn
returns-then-is_err-clause-drawn c = c.call-answer.ensures.drawn

pub returns-then-is_err-clause-row : goal.returns-then-is_err-clause-row
returns-then-is_err-clause-row c = c.call-answer.ensures.row

pub returns-then-is_err-clause-same_store : goal.returns-then-is_err-clause-same_store
returns-then-is_err-clause-same_store c = c.call-answer.ensures.same_store

pub returns-then-is_err-clause-bytes_read : goal.returns-then-is_err-clause-bytes_read
returns-then-is_err-clause-bytes_read c = c.call-answer.ensures.bytes_read

pub returns-then-is_err-clause-no_fault : goal.returns-then-is_err-clause-no_fault
returns-then-is_err-clause-no_fault c =
    λ never. ok_holds c.call-answer.result (c.call-answer.ensures.never never) c.call-answer.ensures.no_fault

pub returns-clause-drawn : goal.returns-clause-drawn
returns-clause-drawn c = c.call-answer.ensures.drawn

pub returns-clause-row : goal.returns-clause-row
returns-clause-row c = c.call-answer.ensures.row

pub returns-clause-same_store : goal.returns-clause-same_store
returns-clause-same_store c = c.call-answer.ensures.same_store

pub returns-clause-bytes_read : goal.returns-clause-bytes_read
returns-clause-bytes_read c = c.call-answer.ensures.bytes_read

pub returns-clause-no_fault : goal.returns-clause-no_fault
returns-clause-no_fault c = λ never. ok_holds c.call-answer.result (c.call-answer.ensures.never never) c.call-answer.ensures.no_fault
