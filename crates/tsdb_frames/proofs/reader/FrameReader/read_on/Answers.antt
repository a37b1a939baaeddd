use Rattle.std.proofs.Common.{◌≡◌, ◌∙◌, ℕ, ◌<◌, ◌≤◌, List, Ok, Err, ap, arith, refl, subst, sym}
use Rattle.std.proofs.lemmas.Result.{err_from_is_err_and}
use Rattle.std.specs.Prelude.{IfSome, IsErrAnd, IsErrOf, Result}
use Rattle.tsdb_outside.specs.Disk.{in_slot}
use Rattle.tsdb_frames.specs.Slots.{IsTornBehind, payloads_of}
use Rattle.tsdb_frames.specs.declared.fault.ScanFault.{ScanFault}
use Rattle.tsdb_frames.specs.declared.fault.ScanFault.TheVariants.{Failed, Torn}
use Rattle.tsdb_frames.proofs.ReaderLemmas.{stays_reading, torn_read}
use Rattle.tsdb_frames.proofs.reader.FrameReader.read_on.Goals as goal

-- an answer of one kind is not one of the other
never_err : {T E P : Type 0} (value : T) (error : E) → Ok value ≡ Err error → P
never_err value error is = absurd cc

torn_is_not_failed : {T P : Type 0} {at : ℕ} → ◌≡◌ {A = Result T ScanFault} (Err (Torn at)) (Err Failed) → P
torn_is_not_failed is = absurd cc

-- the fault that a `?` passed on is the part's
passed_on : {T E : Type 0} (result : Result T E) (inner error : E) → IsErrAnd result (λ fault. fault ≡ inner) → IsErrOf result error → inner ≡ error
passed_on result inner error passed is =
    let p = err_from_is_err_and result passed in
    let same = rw (p.1, p.2) at is in
    cc

pub returns-in_err-fill-clause-torn : goal.returns-in_err-fill-clause-torn
returns-in_err-fill-clause-torn g c = λ at is part.
    let fault = passed_on c.from_residual.result c.in_err-fill.field-0.0 (Torn at) c.from_residual.ensures.1 is in
    absurd (c.in_err-fill.ensures.not_torn at (ap (λ x. Err x) fault))

pub returns-in_err-fill-clause-stays : goal.returns-in_err-fill-clause-stays
returns-in_err-fill-clause-stays g c = stays_reading g.J.Disk.lawful c.args.self.now c.fill.new.self c.fill.ensures.stays

pub returns-in_err-fill-clause-cause : goal.returns-in_err-fill-clause-cause
returns-in_err-fill-clause-cause g c = record {
  later = c.fill.ensures.cause.later;
  failed = λ is.
      let fault = passed_on c.from_residual.result c.in_err-fill.field-0.0 Failed c.from_residual.ensures.1 is in
      c.in_err-fill.ensures.cause.failed (ap (λ x. Err x) fault);
}

pub returns-then-not-branch-clause-torn : goal.returns-then-not-branch-clause-torn
returns-then-not-branch-clause-torn g c = λ at is part journal place frames reading.
    let here : c.fill.new.self.at ≡ at = cc in
    subst (λ (n : ℕ). IfSome (g.J.Disk.state journal).seen (λ image. IsTornBehind (payloads_of frames) n (in_slot place image)))
    (sym c.fill.ensures.stays.at ∙ here)
    (torn_read c.args.self.now part (c.in_ok-fill.ensures.all c.if-not-branch.true) journal place frames reading)

pub returns-then-not-branch-clause-stays : goal.returns-then-not-branch-clause-stays
returns-then-not-branch-clause-stays g c = stays_reading g.J.Disk.lawful c.args.self.now c.fill.new.self c.fill.ensures.stays

pub returns-then-not-branch-clause-cause : goal.returns-then-not-branch-clause-cause
returns-then-not-branch-clause-cause g c = record { later = c.fill.ensures.cause.later; failed = λ is. torn_is_not_failed is }

pub returns-clause-forward : goal.returns-clause-forward
returns-clause-forward g c =
    let within = c.fill.new.self.within in
    omega (arith, c.in_ok-fill.ensures.longer c.if-not-branch.false, within.inside, within.limit)

pub returns-clause-short : goal.returns-clause-short
returns-clause-short g c = c.in_ok-fill.ensures.short c.if-not-branch.false

pub returns-clause-torn : goal.returns-clause-torn
returns-clause-torn g c = λ at is. never_err _ _ is

pub returns-clause-stays : goal.returns-clause-stays
returns-clause-stays g c = stays_reading g.J.Disk.lawful c.args.self.now c.fill.new.self c.fill.ensures.stays

pub returns-clause-cause : goal.returns-clause-cause
returns-clause-cause g c = record { later = c.fill.ensures.cause.later; failed = λ is. never_err _ _ is }
