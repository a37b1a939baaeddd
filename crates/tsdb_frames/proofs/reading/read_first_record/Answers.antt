use Rattle.std.proofs.Common.{◌≡◌, ℕ, ◌≤◌, Ok, Err, ap, sym, arith}
use Rattle.std.proofs.lemmas.Result.{err_from_is_err_and}
use Rattle.std.specs.Prelude.{IsErrAnd, IsErrOf, Result}
use Rattle.tsdb_base.specs.Causes.{Rose}
use Rattle.tsdb_frames.specs.declared.fault.ScanFault.{ScanFault}
use Rattle.tsdb_frames.specs.declared.fault.ScanFault.TheVariants.{Failed, Torn}
use Rattle.tsdb_frames.proofs.FirstLemmas.{broken_seen, empty_seen, keeps_on, shut_seen, whole_seen}
use Rattle.tsdb_frames.proofs.reading.read_first_record.Goals as goal

-- an answer of one kind is not one of the other
never_err : {T E P : Type 0} (value : T) (error : E) → Ok value ≡ Err error → P
never_err value error is = absurd cc

torn_is_not_failed : {T P : Type 0} {at : ℕ} → ◌≡◌ {A = Result T ScanFault} (Err (Torn at)) (Err Failed) → P
torn_is_not_failed is = absurd cc

torn_at : {T : Type 0} {at place : ℕ} → ◌≡◌ {A = Result T ScanFault} (Err (Torn at)) (Err (Torn place)) → at ≡ place
torn_at is = cc

-- the fault that a `?` passed on is the part's
passed_on : {T E : Type 0} (result : Result T E) (inner error : E) → IsErrAnd result (λ fault. fault ≡ inner) → IsErrOf result error → inner ≡ error
passed_on result inner error passed is =
    let p = err_from_is_err_and result passed in
    let same = rw (p.1, p.2) at is in
    cc

-- the cause of a part is a cause of the whole
rose_later : (first mid last : ℕ) → first ≤ mid → Rose mid last → Rose first last
rose_later first mid last later rose = omega (arith, later, rose)

not_before : (first mid last : ℕ) → first ≤ mid → mid ≤ last → first ≤ last
not_before first mid last one two = omega (arith, one, two)

pub loop-frame-init : goal.loop-frame-init
loop-frame-init g c = record {
  some = omega (arith, c.if-length-eq0.false, c.min-size.ensures);
  most = omega (arith, c.min-size.ensures);
  keeps = c.length.ensures.keeps;
  later = c.length.ensures.cause.later;
}

pub loop-frame-preserved : goal.loop-frame-preserved
loop-frame-preserved g c = record {
  some = omega (arith, c.loop-frame.invariant.some, c.if-length-eq0.false, c.min-size-in-loop-frame.ensures);
  most = omega (arith, c.min-size-in-loop-frame.ensures);
  keeps = keeps_on (g.J.Disk.state c.args.journal.now) (g.J.Disk.state c.loop-frame.journal) (g.J.Disk.state c.read_start.new.journal)
      (g.J.Disk.lawful c.args.journal.now) c.loop-frame.invariant.keeps c.read_start.ensures.keeps;
  later = not_before _ _ _ c.loop-frame.invariant.later c.read_start.ensures.cause.later;
}

pub loop-frame-smaller : goal.loop-frame-smaller
loop-frame-smaller g c = omega (arith, c.loop-frame.invariant.some, c.if-size-length.false, c.min-size-in-loop-frame.ensures)

pub returns-in-Shut-clause-first : goal.returns-in-Shut-clause-first
returns-in-Shut-clause-first g c =
    shut_seen c.args.slot (g.J.Disk.state c.args.journal.now).seen (g.J.Disk.state c.loop-frame.journal).seen c.loop-frame.invariant.keeps.seen
    c.loop-frame.size c.in_ok-read_start.field-0 c.in-Shut.is c.in_ok-read_start.ensures.begins

pub returns-in-Whole-clause-first : goal.returns-in-Whole-clause-first
returns-in-Whole-clause-first g c =
    whole_seen c.args.slot (g.J.Disk.state c.args.journal.now).seen (g.J.Disk.state c.loop-frame.journal).seen c.loop-frame.invariant.keeps.seen
    c.loop-frame.size c.in_ok-read_start.field-0 c.in-Whole.frame c.in-Whole.is c.in_ok-read_start.ensures.begins

pub returns-then-size-length-clause-torn : goal.returns-then-size-length-clause-torn
returns-then-size-length-clause-torn g c at is =
    let places = torn_at is in (
      sym places,
      broken_seen c.args.slot (g.J.Disk.state c.args.journal.now).seen (g.J.Disk.state c.loop-frame.journal).seen c.loop-frame.invariant.keeps.seen
          c.loop-frame.size c.in_ok-read_start.field-0 c.in_ok-length.length c.if-size-length.true c.in_ok-length.ensures.length c.in-Broken.is
          c.in_ok-read_start.ensures.begins,
    )

pub returns-then-length-eq0-clause-torn : goal.returns-then-length-eq0-clause-torn
returns-then-length-eq0-clause-torn g c at is =
    let places = torn_at is in (
      sym places,
      empty_seen c.args.slot (g.J.Disk.state c.args.journal.now).seen c.in_ok-length.length c.if-length-eq0.true c.in_ok-length.ensures.length,
    )

pub returns-in_err-length-clause-keeps : goal.returns-in_err-length-clause-keeps
returns-in_err-length-clause-keeps g c = c.length.ensures.keeps

pub returns-in_err-length-clause-cause : goal.returns-in_err-length-clause-cause
returns-in_err-length-clause-cause g c = record { later = c.length.ensures.cause.later; failed = λ is. c.in_err-length.ensures.cause.failed }

pub returns-then-length-eq0-clause-keeps : goal.returns-then-length-eq0-clause-keeps
returns-then-length-eq0-clause-keeps g c = c.length.ensures.keeps

pub returns-then-length-eq0-clause-cause : goal.returns-then-length-eq0-clause-cause
returns-then-length-eq0-clause-cause g c = record { later = c.length.ensures.cause.later; failed = λ is. torn_is_not_failed is }

pub returns-in_err-read_start-clause-torn : goal.returns-in_err-read_start-clause-torn
returns-in_err-read_start-clause-torn g c at is =
    let passed = c.from_residual-in_err-read_start in
    let fault = passed_on passed.result c.in_err-read_start.field-0.0 (Torn at) passed.ensures.1 is in
    absurd (c.in_err-read_start.ensures.not_torn at (ap (λ x. Err x) fault))

pub returns-in_err-read_start-clause-keeps : goal.returns-in_err-read_start-clause-keeps
returns-in_err-read_start-clause-keeps g c =
    keeps_on (g.J.Disk.state c.args.journal.now) (g.J.Disk.state c.loop-frame.journal) (g.J.Disk.state c.read_start.new.journal)
    (g.J.Disk.lawful c.args.journal.now) c.loop-frame.invariant.keeps c.read_start.ensures.keeps

pub returns-in_err-read_start-clause-cause : goal.returns-in_err-read_start-clause-cause
returns-in_err-read_start-clause-cause g c = record {
  later = not_before _ _ _ c.loop-frame.invariant.later c.read_start.ensures.cause.later;
  failed = λ is.
      let passed = c.from_residual-in_err-read_start in
      let fault = passed_on passed.result c.in_err-read_start.field-0.0 Failed passed.ensures.1 is in
      rose_later _ _ _ c.loop-frame.invariant.later (c.in_err-read_start.ensures.cause.failed (ap (λ x. Err x) fault));
}

pub returns-in-Shut-clause-torn : goal.returns-in-Shut-clause-torn
returns-in-Shut-clause-torn g c at is = never_err _ _ is

pub returns-in-Shut-clause-keeps : goal.returns-in-Shut-clause-keeps
returns-in-Shut-clause-keeps g c =
    keeps_on (g.J.Disk.state c.args.journal.now) (g.J.Disk.state c.loop-frame.journal) (g.J.Disk.state c.read_start.new.journal)
    (g.J.Disk.lawful c.args.journal.now) c.loop-frame.invariant.keeps c.read_start.ensures.keeps

pub returns-in-Shut-clause-cause : goal.returns-in-Shut-clause-cause
returns-in-Shut-clause-cause g c = record {
  later = not_before _ _ _ c.loop-frame.invariant.later c.read_start.ensures.cause.later;
  failed = λ is. never_err _ _ is;
}

pub returns-in-Whole-clause-torn : goal.returns-in-Whole-clause-torn
returns-in-Whole-clause-torn g c at is = never_err _ _ is

pub returns-in-Whole-clause-keeps : goal.returns-in-Whole-clause-keeps
returns-in-Whole-clause-keeps g c =
    keeps_on (g.J.Disk.state c.args.journal.now) (g.J.Disk.state c.loop-frame.journal) (g.J.Disk.state c.read_start.new.journal)
    (g.J.Disk.lawful c.args.journal.now) c.loop-frame.invariant.keeps c.read_start.ensures.keeps

pub returns-in-Whole-clause-cause : goal.returns-in-Whole-clause-cause
returns-in-Whole-clause-cause g c = record {
  later = not_before _ _ _ c.loop-frame.invariant.later c.read_start.ensures.cause.later;
  failed = λ is. never_err _ _ is;
}

pub returns-then-size-length-clause-keeps : goal.returns-then-size-length-clause-keeps
returns-then-size-length-clause-keeps g c =
    keeps_on (g.J.Disk.state c.args.journal.now) (g.J.Disk.state c.loop-frame.journal) (g.J.Disk.state c.read_start.new.journal)
    (g.J.Disk.lawful c.args.journal.now) c.loop-frame.invariant.keeps c.read_start.ensures.keeps

pub returns-then-size-length-clause-cause : goal.returns-then-size-length-clause-cause
returns-then-size-length-clause-cause g c = record {
  later = not_before _ _ _ c.loop-frame.invariant.later c.read_start.ensures.cause.later;
  failed = λ is. torn_is_not_failed is;
}
