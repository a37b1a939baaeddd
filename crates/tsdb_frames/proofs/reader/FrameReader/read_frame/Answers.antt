use Rattle.std.proofs.Common.{◌≡◌, ◌∙◌, ℕ, ◌<◌, ◌≤◌, List, None, Some, Ok, Err, ap, arith, refl, subst, sym}
use Rattle.std.proofs.lemmas.Result.{err_from_is_err_and}
use Rattle.std.specs.Prelude.{IsErrAnd, IsErrOf, Result}
use Rattle.tsdb_base.specs.Causes.{Rose}
use Rattle.tsdb_frames.specs.Readers.{IsNext, StaysReading, faults_read, gate_of, unheld_of, unread_of}
use Rattle.tsdb_frames.specs.declared.fault.ScanFault.TheVariants.{Failed, Memory, Torn}
use Rattle.tsdb_frames.specs.declared.reader.Next.{Next}
use Rattle.tsdb_frames.proofs.LogLemmas.{always_on_err}
use Rattle.tsdb_frames.proofs.reader.FrameReader.read_frame.Goals as goal

-- an answer of one kind is not one of the other
never_err : {T E P : Type 0} (value : T) (error : E) → Ok value ≡ Err error → P
never_err value error is = absurd cc

never_none : {A P : Type 0} (value : A) → Some value ≡ None → P
never_none value is = absurd cc

memory_is_not_torn : {P : Type 0} (at : ℕ) → Memory ≡ Torn at → P
memory_is_not_torn at is = absurd cc

memory_is_not_failed : {P : Type 0} → Memory ≡ Failed → P
memory_is_not_failed is = absurd cc

-- the fault that a `?` passed on is the part's
passed_on : {T E : Type 0} (result : Result T E) (inner error : E) → IsErrAnd result (λ fault. fault ≡ inner) → IsErrOf result error → inner ≡ error
passed_on result inner error passed is =
    let p = err_from_is_err_and result passed in
    let same = rw (p.1, p.2) at is in
    cc

-- the cause of a part is a cause of the whole
rose_later : (first mid last : ℕ) → first ≤ mid → Rose mid last → Rose first last
rose_later first mid last later rose = omega (arith, later, rose)

not_before : (first mid last : ℕ) → first ≤ mid → mid ≤ last → first ≤ last
not_before first mid last one two = omega (arith, one, two)

pub returns-in-End-clause-whole : goal.returns-in-End-clause-whole
returns-in-End-clause-whole g c = λ none journal place frames reading.
    let reader = c.loop-frame.self in
    let found = subst (λ (n : Next). IsNext n reader c.next.new.self) c.in-End.is c.in_ok-next.ensures.next in
    found.0 journal place frames (c.loop-frame.invariant.stays journal place frames reading)

pub returns-in-End-clause-ended : goal.returns-in-End-clause-ended
returns-in-End-clause-ended g c = λ none.
    let found = subst (λ (n : Next). IsNext n c.loop-frame.self c.next.new.self) c.in-End.is c.in_ok-next.ensures.next in
    found.1

pub returns-in-End-clause-torn : goal.returns-in-End-clause-torn
returns-in-End-clause-torn g c = λ at is. never_err _ _ is

pub returns-in-End-clause-cause : goal.returns-in-End-clause-cause
returns-in-End-clause-cause g c = record {
  later = omega (arith, c.loop-frame.invariant.later, c.next.ensures.faults);
  failed = λ is. never_err _ _ is;
}

pub returns-in-Whole-clause-frame : goal.returns-in-Whole-clause-frame
returns-in-Whole-clause-frame g c = λ journal place frames reading.
    let found = subst (λ (n : Next). IsNext n c.loop-frame.self c.next.new.self) c.in-Whole.is c.in_ok-next.ensures.next in
    found.0 journal place frames (c.loop-frame.invariant.stays journal place frames reading)

pub returns-in-Whole-clause-forward : goal.returns-in-Whole-clause-forward
returns-in-Whole-clause-forward g c =
    let found = subst (λ (n : Next). IsNext n c.loop-frame.self c.next.new.self) c.in-Whole.is c.in_ok-next.ensures.next in
    omega (arith, c.loop-frame.invariant.gate, found.1)

pub returns-in-Whole-clause-whole : goal.returns-in-Whole-clause-whole
returns-in-Whole-clause-whole g c = λ none. never_none _ none

pub returns-in-Whole-clause-ended : goal.returns-in-Whole-clause-ended
returns-in-Whole-clause-ended g c = λ none. never_none _ none

pub returns-in-Whole-clause-torn : goal.returns-in-Whole-clause-torn
returns-in-Whole-clause-torn g c = λ at is. never_err _ _ is

pub returns-in-Whole-clause-cause : goal.returns-in-Whole-clause-cause
returns-in-Whole-clause-cause g c = record {
  later = omega (arith, c.loop-frame.invariant.later, c.next.ensures.faults);
  failed = λ is. never_err _ _ is;
}

pub returns-in_err-next-clause-torn : goal.returns-in_err-next-clause-torn
returns-in_err-next-clause-torn g c = λ at is.
    let fault = passed_on c.from_residual.result c.in_err-next.field-0.0 (Torn at) c.from_residual.ensures.1 is in
    memory_is_not_torn at (sym c.in_err-next.ensures.memory ∙ fault)

pub returns-in_err-next-clause-stays : goal.returns-in_err-next-clause-stays
returns-in_err-next-clause-stays g c =
    always_on_err c.from_residual.result
    (subst (λ reader. StaysReading c.args.self.now reader) (sym c.in_err-next.ensures.same) c.loop-frame.invariant.stays)

pub returns-in_err-next-clause-cause : goal.returns-in_err-next-clause-cause
returns-in_err-next-clause-cause g c = record {
  later = omega (arith, c.loop-frame.invariant.later, c.next.ensures.faults);
  failed = λ is.
      let fault = passed_on c.from_residual.result c.in_err-next.field-0.0 Failed c.from_residual.ensures.1 is in
      memory_is_not_failed (sym c.in_err-next.ensures.memory ∙ fault);
}

pub returns-in_err-read_on-clause-torn : goal.returns-in_err-read_on-clause-torn
returns-in_err-read_on-clause-torn g c = λ at is journal place frames reading.
    let fault = passed_on c.from_residual-in_err-read_on.result c.in_err-read_on.field-0.0 (Torn at) c.from_residual-in_err-read_on.ensures.1 is in
    let found = subst (λ (n : Next). IsNext n c.loop-frame.self c.next.new.self) c.in-Part.is c.in_ok-next.ensures.next in
    let here = subst (λ reader. StaysReading c.args.self.now reader) (sym found.0) c.loop-frame.invariant.stays in
    c.in_err-read_on.ensures.torn at (ap (λ x. Err x) fault) found.1 journal place frames (here journal place frames reading)

pub returns-in_err-read_on-clause-stays : goal.returns-in_err-read_on-clause-stays
returns-in_err-read_on-clause-stays g c =
    let found = subst (λ (n : Next). IsNext n c.loop-frame.self c.next.new.self) c.in-Part.is c.in_ok-next.ensures.next in
    let here = subst (λ reader. StaysReading c.args.self.now reader) (sym found.0) c.loop-frame.invariant.stays in
    always_on_err c.from_residual-in_err-read_on.result (λ journal place frames reading.
    c.read_on.ensures.stays journal place frames (here journal place frames reading))

pub returns-in_err-read_on-clause-cause : goal.returns-in_err-read_on-clause-cause
returns-in_err-read_on-clause-cause g c =
    let later : faults_read c.args.self.now ≤ faults_read c.next.new.self =
    omega (arith, c.loop-frame.invariant.later, c.next.ensures.faults) in
    record {
      later = not_before _ _ _ later c.read_on.ensures.cause.later;
      failed = λ is.
          let fault = passed_on c.from_residual-in_err-read_on.result c.in_err-read_on.field-0.0 Failed c.from_residual-in_err-read_on.ensures.1 is in
          rose_later _ _ _ later (c.in_err-read_on.ensures.cause.failed (ap (λ x. Err x) fault));
    }

pub loop-frame-init : goal.loop-frame-init
loop-frame-init g c = record { stays = λ journal place frames reading. reading; gate = refl; later = omega arith }

pub loop-frame-preserved : goal.loop-frame-preserved
loop-frame-preserved g c =
    let found = subst (λ (n : Next). IsNext n c.loop-frame.self c.next.new.self) c.in-Part.is c.in_ok-next.ensures.next in
    let here = subst (λ reader. StaysReading c.args.self.now reader) (sym found.0) c.loop-frame.invariant.stays in
    record {
      stays = λ journal place frames reading. c.read_on.ensures.stays journal place frames (here journal place frames reading);
      gate = c.read_on.ensures.gate ∙ ap (λ reader. gate_of reader) found.0 ∙ c.loop-frame.invariant.gate;
      later = omega (arith, c.loop-frame.invariant.later, c.next.ensures.faults, c.read_on.ensures.cause.later);
    }

pub loop-frame-smaller : goal.loop-frame-smaller
loop-frame-smaller g c =
    let found = subst (λ (n : Next). IsNext n c.loop-frame.self c.next.new.self) c.in-Part.is c.in_ok-next.ensures.next in
    let same = ap (λ reader. unheld_of reader) found.0 in
    omega (arith, same, c.in_ok-read_on.ensures.forward)
