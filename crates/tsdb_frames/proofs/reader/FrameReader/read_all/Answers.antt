use Rattle.std.proofs.Common.{◌≡◌, ℕ, ◌<◌, ◌≤◌, List, [], ◌∷◌, ◌++◌, Some, Ok, Err, ap, arith, subst, sym}
use Rattle.std.proofs.lemmas.Result.{err_from_is_err_and}
use Rattle.std.specs.Prelude.{IfSome, IsErrAnd, IsErrOf, Result}
use Rattle.std.specs.declared.option.Option.{Option}
use Rattle.tsdb_base.specs.Causes.{Rose}
use Rattle.tsdb_frames.specs.Readers.{IsReading, ReadsOne, unread_of}
use Rattle.tsdb_frames.specs.Slots.{payloads_of}
use Rattle.tsdb_frames.specs.declared.fault.ScanFault.TheVariants.{Failed, Memory, Torn}
use Rattle.tsdb_frames.specs.declared.record.Frame.{Frame}
use Rattle.tsdb_frames.proofs.LogLemmas.{always_on_err}
use Rattle.tsdb_frames.proofs.ScanLemmas.{torn_slot}
use Rattle.tsdb_frames.proofs.reader.FrameReader.read_all.Goals as goal

-- an answer of one kind is not one of the other
never_err : {T E P : Type 0} (value : T) (error : E) → Ok value ≡ Err error → P
never_err value error is = absurd cc

-- what holds of what an option has
of_some : (next : Option Frame) (frame : Frame) (P : Frame → Type 0) → next ≡ Some frame → IfSome next P → P frame
of_some next frame P is has = subst (λ (o : Option Frame). IfSome o P) is has

with_one : (before now : List Frame) (P : List Frame → Type 0) → now ≡ before → P before → P now
with_one before now P is has = subst P (sym is) has

memory_is_not_torn : {P : Type 0} (at : ℕ) → Memory ≡ Torn at → P
memory_is_not_torn at is = absurd cc

memory_is_not_failed : {P : Type 0} → Memory ≡ Failed → P
memory_is_not_failed is = absurd cc

-- the fault that a `?` passed on is the part's
passed_on : {T E : Type 0} (result : Result T E) (inner error : E) → IsErrAnd result (λ fault. fault ≡ inner) → IsErrOf result error → inner ≡ error
passed_on result inner error passed is =
    let p = err_from_is_err_and result passed in
    let same = rw (p.1, p.2) at is in
    cc

-- the cause of a part is a cause of the whole
rose_later : (first mid last : ℕ) → first ≤ mid → Rose mid last → Rose first last
rose_later first mid last later rose = omega (arith, later, rose)

not_before : (first mid last : ℕ) → first ≤ mid → mid ≤ last → first ≤ last
not_before first mid last one two = omega (arith, one, two)

pub returns-in_err-frame-clause-torn : goal.returns-in_err-frame-clause-torn
returns-in_err-frame-clause-torn g c = λ at is journal place reading.
    let fault = passed_on c.from_residual.result c.in_err-frame.field-0.0 (Torn at) c.from_residual.ensures.1 is in
    let frames = c.loop-frames.frames.items in
    torn_slot place (payloads_of frames) at (g.J.Disk.state journal).seen
    (c.in_err-frame.ensures.torn at (ap (λ x. Err x) fault) journal place frames (c.loop-frames.invariant.reading journal place reading))

pub loop-frames-init : goal.loop-frames-init
loop-frames-init g c = record {
  reading = λ journal place reading.
      subst (λ (l : List Frame). IsReading journal place c.args.self.now l) (sym c.new-frames.ensures.items) reading;
  later = omega arith;
}

pub loop-frames-preserved : goal.loop-frames-preserved
loop-frames-preserved g c = record {
  reading = λ journal place reading.
      let reader = c.loop-frames.self in
      let frames = c.loop-frames.frames.items in
      let one = of_some c.in_ok-frame.field-0 c.in-Some.frame (ReadsOne reader c.read_frame.new.self) c.in-Some.is c.in_ok-frame.ensures.frame in
      with_one (frames ++ c.in-Some.frame ∷ []) c.push.new.self.items (IsReading journal place c.read_frame.new.self) c.in_ok-push.ensures.items
      (one journal place frames (c.loop-frames.invariant.reading journal place reading));
  later = not_before _ _ _ c.loop-frames.invariant.later c.read_frame.ensures.cause.later;
}

pub loop-frames-smaller : goal.loop-frames-smaller
loop-frames-smaller g c =
    of_some c.in_ok-frame.field-0 c.in-Some.frame (λ frame. unread_of c.read_frame.new.self < unread_of c.loop-frames.self) c.in-Some.is
    c.in_ok-frame.ensures.forward

pub returns-in_err-frame-clause-keeps : goal.returns-in_err-frame-clause-keeps
returns-in_err-frame-clause-keeps g c = always_on_err c.from_residual.result (λ journal place reading.
    (c.in_err-frame.ensures.stays journal place c.loop-frames.frames.items (c.loop-frames.invariant.reading journal place reading)).keeps)

pub returns-in_err-frame-clause-cause : goal.returns-in_err-frame-clause-cause
returns-in_err-frame-clause-cause g c = record {
  later = not_before _ _ _ c.loop-frames.invariant.later c.read_frame.ensures.cause.later;
  failed = λ is.
      let fault = passed_on c.from_residual.result c.in_err-frame.field-0.0 Failed c.from_residual.ensures.1 is in
      rose_later _ _ _ c.loop-frames.invariant.later (c.in_err-frame.ensures.cause.failed (ap (λ x. Err x) fault));
}

pub returns-in_err-push-clause-torn : goal.returns-in_err-push-clause-torn
returns-in_err-push-clause-torn g c = λ at is.
    memory_is_not_torn at (passed_on c.from_residual-in_err-push.result Memory (Torn at) c.from_residual-in_err-push.ensures.1 is)

pub returns-in_err-push-clause-keeps : goal.returns-in_err-push-clause-keeps
returns-in_err-push-clause-keeps g c = always_on_err c.from_residual-in_err-push.result (λ journal place reading.
    let reader = c.loop-frames.self in
    let one = of_some c.in_ok-frame.field-0 c.in-Some.frame (ReadsOne reader c.read_frame.new.self) c.in-Some.is c.in_ok-frame.ensures.frame in
    (one journal place c.loop-frames.frames.items (c.loop-frames.invariant.reading journal place reading)).keeps)

pub returns-in_err-push-clause-cause : goal.returns-in_err-push-clause-cause
returns-in_err-push-clause-cause g c = record {
  later = not_before _ _ _ c.loop-frames.invariant.later c.read_frame.ensures.cause.later;
  failed = λ is.
      memory_is_not_failed (passed_on c.from_residual-in_err-push.result Memory Failed c.from_residual-in_err-push.ensures.1 is);
}

pub returns-clause-whole : goal.returns-clause-whole
returns-clause-whole g c = λ journal place reading.
    c.in_ok-frame.ensures.whole c.in_default.is journal place c.loop-frames.frames.items (c.loop-frames.invariant.reading journal place reading)

pub returns-clause-ended : goal.returns-clause-ended
returns-clause-ended g c = c.in_ok-frame.ensures.ended c.in_default.is

pub returns-clause-torn : goal.returns-clause-torn
returns-clause-torn g c = λ at is. never_err _ _ is

pub returns-clause-cause : goal.returns-clause-cause
returns-clause-cause g c = record {
  later = not_before _ _ _ c.loop-frames.invariant.later c.read_frame.ensures.cause.later;
  failed = λ is. never_err _ _ is;
}
