use Rattle.std.proofs.Common.{◌≡◌, ◌∙◌, ℕ, ◌+◌, ◌*◌, ◌-◌, ◌^◌, ◌<◌, ◌≤◌, [], Err, ap, arith, rules, subst, sym}
use Rattle.std.proofs.lemmas.Result.{err_from_is_err_and}
use Rattle.std.specs.Result.{IsErrOf}
use Rattle.tsdb_base.specs.Causes.{Rose}
use Rattle.tsdb_frames.specs.Readers.{IsNext, IsReading, unheld_of, unread_of}
use Rattle.tsdb_frames.specs.declared.fault.ScanFault.{ScanFault}
use Rattle.tsdb_frames.specs.declared.fault.ScanFault.TheVariants as scan
use Rattle.tsdb_frames.specs.declared.reader.Next.{Next}
use Rattle.tsdb_outside.specs.declared.disk.Slot.TheVariants.{A}
use Rattle.tsdb_recover.specs.Replaying.{of_scan}
use Rattle.tsdb_recover.specs.declared.fault.OpenFault.TheVariants.{Damaged, Failed}
use Rattle.tsdb_recover.specs.declared.fault.Part.{Part}
use Rattle.tsdb_recover.proofs.FileLemmas.{always_on_err}
use Rattle.tsdb_recover.proofs.LogLemmas.{frame_damaged, none_read, replays_on}
use Rattle.tsdb_recover.proofs.log.replay.Goals as goal

-- one frame more is read, or more of the piece
smaller_frame : (u v x y : ℕ) → u < v → x ≤ 2 ^ 63 → u * 2 ^ 64 + x < v * 2 ^ 64 + y
smaller_frame u v x y less few = omega (arith, less, few)

smaller_part : (u v x y : ℕ) → u ≡ v → x < y → u * 2 ^ 64 + x < v * 2 ^ 64 + y
smaller_part u v x y same less = omega (arith, same, less)

-- memory that ran out is no other fault
no_damage : {P : Type 0} (fault : ScanFault) (part : Part) (at : ℕ) → fault ≡ scan.Memory → of_scan fault ≡ Damaged part at → P
no_damage fault part at memory is = let same : of_scan scan.Memory ≡ Damaged part at = ap of_scan (sym memory) ∙ is in absurd cc

no_failure : {P : Type 0} (fault : ScanFault) → fault ≡ scan.Memory → of_scan fault ≡ Failed → P
no_failure fault memory is = let same : of_scan scan.Memory ≡ Failed = ap of_scan (sym memory) ∙ is in absurd cc

rose_later : (first mid last : ℕ) → first ≤ mid → Rose mid last → Rose first last
rose_later first mid last later rose = omega (arith, later, rose)

pub loop-frame-init : goal.loop-frame-init
loop-frame-init g c = record {
  replaying = λ journal unread. record { frames = []; reading = unread; read = none_read _ (search rules) };
  later = omega arith;
}

pub loop-frame-preserved-in-Ok-Whole : goal.loop-frame-preserved-in-Ok-Whole
loop-frame-preserved-in-Ok-Whole g c =
    let l = c.loop-frame in
    let reads = subst (λ (n : Next). IsNext n l.reader c.next.new.self) c.in-Ok-Whole.field-0-is c.in-Ok-Whole.ensures.next in
    record {
      replaying = λ journal unread.
          let so_far = l.invariant.replaying journal unread in
          replays_on c.next.new.self c.in-Ok-Whole.frame journal l.opening c.redo.new.opening l.reader so_far
          (reads.0 journal A so_far.frames so_far.reading) c.in_ok-redo-in-Ok-Whole.ensures.redone;
      later = omega (arith, l.invariant.later, c.next.ensures.faults);
    }

pub loop-frame-smaller-in-Ok-Whole : goal.loop-frame-smaller-in-Ok-Whole
loop-frame-smaller-in-Ok-Whole g c =
    let l = c.loop-frame in
    let new = c.next.new.self in
    let reads = subst (λ (n : Next). IsNext n l.reader c.next.new.self) c.in-Ok-Whole.field-0-is c.in-Ok-Whole.ensures.next in
    smaller_frame (unread_of new) (unread_of l.reader) (unheld_of new) (unheld_of l.reader) reads.1 (omega arith)

pub loop-frame-preserved : goal.loop-frame-preserved
loop-frame-preserved g c =
    let l = c.loop-frame in
    let part = subst (λ (n : Next). IsNext n l.reader c.next.new.self) c.in-Ok-Part.field-0-is c.in-Ok-Part.ensures.next in
    record {
      replaying = λ journal unread.
          let so_far = l.invariant.replaying journal unread in
          let here = subst (λ reader. IsReading journal A reader so_far.frames) (sym part.0) so_far.reading in
          record { frames = so_far.frames; reading = c.read_on.ensures.stays journal A so_far.frames here; read = so_far.read };
      later = omega (arith, l.invariant.later, c.next.ensures.faults, c.read_on.ensures.later);
    }

pub loop-frame-smaller : goal.loop-frame-smaller
loop-frame-smaller g c =
    let l = c.loop-frame in
    let new = c.read_on.new.reader in
    let part = subst (λ (n : Next). IsNext n l.reader c.next.new.self) c.in-Ok-Part.field-0-is c.in-Ok-Part.ensures.next in
    let held = ap (λ reader. unheld_of reader) part.0 in
    smaller_part (unread_of new) (unread_of l.reader) (unheld_of new) (unheld_of l.reader)
    (ap (λ n. 2 ^ 63 - n) c.read_on.ensures.gate ∙ ap (λ reader. unread_of reader) part.0)
    (omega (arith, held, c.in_ok-read_on.ensures.forward))

pub returns-in-Ok-End-clause-read : goal.returns-in-Ok-End-clause-read
returns-in-Ok-End-clause-read g c = λ journal unread.
    let l = c.loop-frame in
    let so_far = l.invariant.replaying journal unread in
    let ends = subst (λ (n : Next). IsNext n l.reader c.next.new.self) c.in-Ok-End.field-0-is c.in-Ok-End.ensures.next in
    record { frames = so_far.frames; whole = ends.0 journal A so_far.frames so_far.reading; read = so_far.read }

pub returns-in-Ok-End-clause-ended : goal.returns-in-Ok-End-clause-ended
returns-in-Ok-End-clause-ended g c =
    let ends = subst (λ (n : Next). IsNext n c.loop-frame.reader c.next.new.self) c.in-Ok-End.field-0-is c.in-Ok-End.ensures.next in
    ends.1

pub returns-in_err-redo-in-Ok-Whole-clause-damaged : goal.returns-in_err-redo-in-Ok-Whole-clause-damaged
returns-in_err-redo-in-Ok-Whole-clause-damaged g c = λ part at is.
    let l = c.loop-frame in
    let p = err_from_is_err_and c.from_residual.result c.from_residual.ensures.1 in
    let passed_on = rw (p.1, p.2) at is in
    let fault : c.in_err-redo-in-Ok-Whole.field-0.0 ≡ Damaged part at = cc in
    let found = c.in_err-redo-in-Ok-Whole.ensures.damaged part at (ap (λ x. Err x) fault) in
    let reads = subst (λ (n : Next). IsNext n l.reader c.next.new.self) c.in-Ok-Whole.field-0-is c.in-Ok-Whole.ensures.next in (
      found.0,
      λ journal unread.
          let so_far = l.invariant.replaying journal unread in
          frame_damaged c.next.new.self c.in-Ok-Whole.frame at journal l.opening l.reader found.1 so_far
          (reads.0 journal A so_far.frames so_far.reading) found.2,
    )

pub returns-in_err-redo-in-Ok-Whole-clause-keeps : goal.returns-in_err-redo-in-Ok-Whole-clause-keeps
returns-in_err-redo-in-Ok-Whole-clause-keeps g c =
    let l = c.loop-frame in
    let reads = subst (λ (n : Next). IsNext n l.reader c.next.new.self) c.in-Ok-Whole.field-0-is c.in-Ok-Whole.ensures.next in
    always_on_err c.from_residual.result (λ journal unread.
    let so_far = l.invariant.replaying journal unread in
    (reads.0 journal A so_far.frames so_far.reading).keeps)

pub returns-in_err-read_on-clause-damaged : goal.returns-in_err-read_on-clause-damaged
returns-in_err-read_on-clause-damaged g c = λ at_part at is.
    let l = c.loop-frame in
    let p = err_from_is_err_and c.from_residual-in_err-read_on.result c.from_residual-in_err-read_on.ensures.1 in
    let passed_on = rw (p.1, p.2) at is in
    let fault : c.in_err-read_on.field-0.0 ≡ Damaged at_part at = cc in
    let found = c.in_err-read_on.ensures.damaged at_part at (ap (λ x. Err x) fault) in
    let part = subst (λ (n : Next). IsNext n l.reader c.next.new.self) c.in-Ok-Part.field-0-is c.in-Ok-Part.ensures.next in (
      found.0,
      λ journal unread.
          let so_far = l.invariant.replaying journal unread in
          let here = subst (λ reader. IsReading journal A reader so_far.frames) (sym part.0) so_far.reading in
          found.1 part.1 journal so_far.frames l.opening here so_far.read,
    )

pub returns-in_err-read_on-clause-keeps : goal.returns-in_err-read_on-clause-keeps
returns-in_err-read_on-clause-keeps g c =
    let l = c.loop-frame in
    let part = subst (λ (n : Next). IsNext n l.reader c.next.new.self) c.in-Ok-Part.field-0-is c.in-Ok-Part.ensures.next in
    always_on_err c.from_residual-in_err-read_on.result (λ journal unread.
    let so_far = l.invariant.replaying journal unread in
    let here = subst (λ reader. IsReading journal A reader so_far.frames) (sym part.0) so_far.reading in
    (c.read_on.ensures.stays journal A so_far.frames here).keeps)

pub returns-in_err-read_on-clause-later : goal.returns-in_err-read_on-clause-later
returns-in_err-read_on-clause-later g c =
    omega (arith, c.loop-frame.invariant.later, c.next.ensures.faults, c.read_on.ensures.later)

pub returns-in_err-read_on-clause-failed : goal.returns-in_err-read_on-clause-failed
returns-in_err-read_on-clause-failed g c = λ is.
    let p = err_from_is_err_and c.from_residual-in_err-read_on.result c.from_residual-in_err-read_on.ensures.1 in
    let passed_on = rw (p.1, p.2) at is in
    let fault : c.in_err-read_on.field-0.0 ≡ Failed = cc in
    rose_later _ _ _ (omega (arith, c.loop-frame.invariant.later, c.next.ensures.faults))
    (c.in_err-read_on.ensures.failed (ap (λ x. Err x) fault))

pub returns-in-Err-clause-damaged : goal.returns-in-Err-clause-damaged
returns-in-Err-clause-damaged g c = λ part at is.
    let answered : c.log_fault.result ≡ Damaged part at = cc in
    no_damage c.in-Err.fault part at c.in-Err.ensures.memory (sym c.log_fault.ensures ∙ answered)

pub returns-in-Err-clause-keeps : goal.returns-in-Err-clause-keeps
returns-in-Err-clause-keeps g c = λ journal unread.
    let l = c.loop-frame in
    let so_far = l.invariant.replaying journal unread in
    let here = subst (λ reader. IsReading journal A reader so_far.frames) (sym c.in-Err.ensures.same) so_far.reading in
    here.keeps

pub returns-in-Err-clause-failed : goal.returns-in-Err-clause-failed
returns-in-Err-clause-failed g c = λ is.
    let answered : c.log_fault.result ≡ Failed = cc in
    no_failure c.in-Err.fault c.in-Err.ensures.memory (sym c.log_fault.ensures ∙ answered)
