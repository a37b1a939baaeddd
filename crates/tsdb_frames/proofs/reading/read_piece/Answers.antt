use Rattle.std.proofs.Common.{◌≡◌, ℕ, Ok, Err, arith}
use Rattle.std.proofs.lemmas.Result.{err_from_is_err_and}
use Rattle.std.specs.Prelude.{IsErrAnd, IsErrOf, Result}
use Rattle.tsdb_frames.specs.declared.fault.ScanFault.TheVariants.{Failed, Memory, Torn}
use Rattle.tsdb_outside.proofs.DiskLemmas.{Keeps-same}
use Rattle.tsdb_frames.proofs.reading.read_piece.Goals as goal

-- an answer of one kind is not one of the other
never_err : {T E P : Type 0} (value : T) (error : E) → Ok value ≡ Err error → P
never_err value error is = absurd cc

memory_is_not_torn : {P : Type 0} (at : ℕ) → Memory ≡ Torn at → P
memory_is_not_torn at is = absurd cc

memory_is_not_failed : {P : Type 0} → Memory ≡ Failed → P
memory_is_not_failed is = absurd cc

failed_is_not_torn : {P : Type 0} (at : ℕ) → Failed ≡ Torn at → P
failed_is_not_torn at is = absurd cc

-- the fault that a `?` passed on is the part's
passed_on : {T E : Type 0} (result : Result T E) (inner error : E) → IsErrAnd result (λ fault. fault ≡ inner) → IsErrOf result error → inner ≡ error
passed_on result inner error passed is =
    let p = err_from_is_err_and result passed in
    let same = rw (p.1, p.2) at is in
    cc

pub returns-in_err-piece-clause-not_torn : goal.returns-in_err-piece-clause-not_torn
returns-in_err-piece-clause-not_torn g c = λ place is.
    memory_is_not_torn place (passed_on c.from_residual.result Memory (Torn place) c.from_residual.ensures.1 is)

pub returns-in_err-piece-clause-keeps : goal.returns-in_err-piece-clause-keeps
returns-in_err-piece-clause-keeps g c = Keeps-same (g.J.Disk.state c.args.journal.now)

pub returns-in_err-piece-clause-cause : goal.returns-in_err-piece-clause-cause
returns-in_err-piece-clause-cause g c = record {
  later = omega arith;
  failed = λ is. memory_is_not_failed (passed_on c.from_residual.result Memory Failed c.from_residual.ensures.1 is);
}

pub returns-in_err-read_at-clause-not_torn : goal.returns-in_err-read_at-clause-not_torn
returns-in_err-read_at-clause-not_torn g c = λ place is.
    failed_is_not_torn place (passed_on c.from_residual-in_err-read_at.result Failed (Torn place) c.from_residual-in_err-read_at.ensures.1 is)

pub returns-in_err-read_at-clause-keeps : goal.returns-in_err-read_at-clause-keeps
returns-in_err-read_at-clause-keeps g c = c.read_at.ensures.keeps

pub returns-in_err-read_at-clause-cause : goal.returns-in_err-read_at-clause-cause
returns-in_err-read_at-clause-cause g c = record { later = c.read_at.ensures.cause.later; failed = λ is. c.in_err-read_at.ensures.cause.failed }

pub returns-clause-not_torn : goal.returns-clause-not_torn
returns-clause-not_torn g c = λ place is. never_err _ _ is

pub returns-clause-keeps : goal.returns-clause-keeps
returns-clause-keeps g c = c.read_at.ensures.keeps

pub returns-clause-cause : goal.returns-clause-cause
returns-clause-cause g c = record { later = c.read_at.ensures.cause.later; failed = λ is. never_err _ _ is }
