use Rattle.std.proofs.Common.{◌≡◌, ◌≢◌, ℕ, true, List, [], ◌∷◌, ◌++◌, length, Some, Err, inl, inr, ⊎_elim, ◌∙◌, ap, arith, refl, length-append}
use Rattle.tsdb_outside.specs.Disk.{DiskState, Image, IsLawful, in_slot}
use Rattle.tsdb_outside.specs.Moments.{LeavesFirstThen, LeavesOnly}
use Rattle.tsdb_outside.specs.declared.disk.Slot.{Slot}
use Rattle.tsdb_frames.specs.Asides.{is_doubted}
use Rattle.tsdb_frames.specs.Frames.{disk_of}
use Rattle.tsdb_frames.specs.Log.{HasRecordsOrOneMore, IsFrame, first_bytes, payload_of}
use Rattle.tsdb_frames.specs.Slots.{HasRecords, open_records, with_length}
use Rattle.tsdb_frames.proofs.CallLemmas.{either_same, keeps_aside_on, moved_moments}
use Rattle.tsdb_frames.proofs.MomentLemmas.{leaves_on, weaker}
use Rattle.tsdb_frames.proofs.StepLemmas.{cause_of_fault}
use Rattle.tsdb_frames.proofs.Counted.{counted_later, counted_risen}
use Rattle.tsdb_frames.proofs.frames.Frames.add.Goals as goal

-- the bytes of the first frame, once one more is written
first_added : (acknowledged : List (List ℕ)) (framed : List ℕ) (gate first now : ℕ) → IsFrame framed → gate ≡ length (open_records acknowledged)
    → first ≡ first_bytes acknowledged → (gate ≡ 0 → now ≡ length framed) → (gate ≢ 0 → now ≡ first)
    → now ≡ first_bytes (acknowledged ++ payload_of framed ∷ [])
first_added [] framed gate first now frame place is here later = here place ∙ ap length frame.bytes
first_added (payload ∷ payloads) framed gate first now frame place is here later =
    later (λ none. absurd (omega (arith, none, place, length-append (1 ∷ with_length payload) (open_records payloads)))) ∙ is

-- what has P has Q
then_only : (old new : DiskState) (P Q : Image → Type 0) → ((image : Image) → P image → Q image) → LeavesFirstThen old new P Q → LeavesOnly old new Q
then_only old new P Q wider (inl leaves) = weaker old new P Q wider leaves
then_only old new P Q wider (inr turns) = record {
  passes = turns.passes;
  each = λ image left. ⊎_elim (wider image) (turns.from_then image) (turns.until image left);
}

-- a lengthening, and then the steps of a record
grown_then_added : (first mid last : DiskState) (slot place : Slot) (acknowledged : List (List ℕ)) (payload : List ℕ) → IsLawful last → slot ≡ place
    → LeavesOnly first mid (λ image. HasRecords acknowledged (in_slot place image))
    → LeavesFirstThen mid last (λ image. HasRecords acknowledged (in_slot slot image))
    (λ image. HasRecordsOrOneMore acknowledged (Some payload) (in_slot slot image))
    → LeavesOnly first last (λ image. HasRecordsOrOneMore acknowledged (Some payload) (in_slot place image))
grown_then_added first mid last slot place acknowledged payload laws same growing adding =
    leaves_on first mid last laws (λ image. HasRecordsOrOneMore acknowledged (Some payload) (in_slot place image))
    (weaker first mid (λ image. HasRecords acknowledged (in_slot place image))
    (λ image. HasRecordsOrOneMore acknowledged (Some payload) (in_slot place image)) (λ image has. inl has) growing)
    (moved_moments mid last slot place same (HasRecordsOrOneMore acknowledged (Some payload))
    (then_only mid last (λ image. HasRecords acknowledged (in_slot slot image))
    (λ image. HasRecordsOrOneMore acknowledged (Some payload) (in_slot slot image)) (λ image has. inl has) adding))

pub write_record-requires-clause-frame : goal.write_record-requires-clause-frame
write_record-requires-clause-frame g c κs lives = c.requires

pub write_record-requires-clause-gate : goal.write_record-requires-clause-gate
write_record-requires-clause-gate g c κs lives = λ image is.
    let within = c.grow.new.self.within in
    omega (arith, within.inside, within.long image is)

pub write_record-requires-clause-limit : goal.write_record-requires-clause-limit
write_record-requires-clause-limit g c κs lives = omega (arith, c.grow.new.self.within.inside, c.grow.new.self.within.limit)

pub invariant_of-self : goal.invariant_of-self
invariant_of-self g c =
    let within = c.grow.new.self.within in
    record {
      within = record {
        inside = omega (arith, c.max-self.ensures);
        long = λ image is.
            omega (
              arith,
              c.max-self.ensures,
              c.write_record.ensures.no_shorter c.grow.new.self.end within.long image is,
              c.in-Ok.ensures.long image is,
            );
        limit = omega (arith, c.max-self.ensures, within.limit, c.in-Ok.ensures.limit);
      };
      counted = counted_later c.grow.new.self.doubt c.grow.new.self.aside (g.J.Counted.faults c.grow.new.self.journal)
          (g.J.Counted.faults c.write_record.new.journal) c.grow.new.self.counted c.write_record.ensures.cause.later;
    }

pub invariant_of-self-in-Err-Closed : goal.invariant_of-self-in-Err-Closed
invariant_of-self-in-Err-Closed g c =
    let within = c.grow.new.self.within in
    record {
      within = record {
        inside = within.inside;
        long = c.write_record.ensures.no_shorter c.grow.new.self.end within.long;
        limit = within.limit;
      };
      counted = counted_later c.grow.new.self.doubt c.grow.new.self.aside (g.J.Counted.faults c.grow.new.self.journal)
          (g.J.Counted.faults c.write_record.new.journal) c.grow.new.self.counted c.write_record.ensures.cause.later;
    }

pub invariant_of-self-in-Err-Doubted : goal.invariant_of-self-in-Err-Doubted
invariant_of-self-in-Err-Doubted g c =
    let within = c.grow.new.self.within in
    record {
      within = record {
        inside = within.inside;
        long = c.write_record.ensures.no_shorter c.grow.new.self.end within.long;
        limit = within.limit;
      };
      counted = counted_risen true c.grow.new.self.aside (g.J.Counted.faults c.grow.new.self.journal)
          (g.J.Counted.faults c.write_record.new.journal) c.in-Err-Doubted.ensures.cause.failed;
    }

pub returns-in-Ok-clause-added : goal.returns-in-Ok-clause-added
returns-in-Ok-clause-added g c acknowledged log =
    let grown = c.grow.ensures.lengthens.log acknowledged log in
    record {
      stands = c.in-Ok.ensures.added acknowledged grown.stands;
      doubt = grown.doubt;
      first = first_added acknowledged c.args.framed.now c.grow.new.self.gate c.grow.new.self.first c.first_after-self.result c.requires
          grown.stands.place grown.first c.first_after-self.ensures.first c.first_after-self.ensures.later;
    }

pub returns-in-Ok-clause-no_doubt : goal.returns-in-Ok-clause-no_doubt
returns-in-Ok-clause-no_doubt g c none =
    either_same _ _ _ _ c.grow.ensures.lengthens.doubt (ap is_doubted c.grow.ensures.lengthens.aside.aside) ∙ none

pub returns-in-Ok-clause-moments : goal.returns-in-Ok-clause-moments
returns-in-Ok-clause-moments g c acknowledged log =
    let grown = c.grow.ensures.lengthens in
    grown_then_added (disk_of c.args.self.now) (disk_of c.grow.new.self) (g.J.Disk.state c.write_record.new.journal) c.grow.new.self.slot
    c.args.self.now.slot acknowledged (payload_of c.args.framed.now) (g.J.Disk.lawful c.write_record.new.journal) grown.aside.slot
    (grown.moments acknowledged log) (c.write_record.ensures.moments acknowledged (grown.log acknowledged log).stands)

pub returns-in-Ok-clause-aside : goal.returns-in-Ok-clause-aside
returns-in-Ok-clause-aside g c =
    keeps_aside_on c.args.self.now c.grow.new.self _ (g.J.Disk.lawful c.grow.new.self.journal) (g.J.Disk.lawful c.write_record.new.journal)
    c.grow.ensures.lengthens.aside (record { slot = refl; aside = refl; leaves = c.write_record.ensures.elsewhere })

pub returns-in-Ok-clause-cause : goal.returns-in-Ok-clause-cause
returns-in-Ok-clause-cause g c = record {
  later = omega (arith, c.grow.ensures.later, c.write_record.ensures.cause.later);
  failed = tt;
}

pub returns-in-Err-Closed-clause-failed : goal.returns-in-Err-Closed-clause-failed
returns-in-Err-Closed-clause-failed g c acknowledged log =
    let grown = c.grow.ensures.lengthens.log acknowledged log in
    inl (record {
      stands = c.write_record.ensures.closed (c.in-Err-Closed.is ∙ ap (λ x. Err x) c.in-Err-Closed.field-0-is) acknowledged grown.stands;
      doubt = grown.doubt;
      first = grown.first;
    })

pub returns-in-Err-Closed-clause-moments : goal.returns-in-Err-Closed-clause-moments
returns-in-Err-Closed-clause-moments g c acknowledged log =
    let grown = c.grow.ensures.lengthens in
    grown_then_added (disk_of c.args.self.now) (disk_of c.grow.new.self) (g.J.Disk.state c.write_record.new.journal) c.grow.new.self.slot
    c.args.self.now.slot acknowledged (payload_of c.args.framed.now) (g.J.Disk.lawful c.write_record.new.journal) grown.aside.slot
    (grown.moments acknowledged log) (c.write_record.ensures.moments acknowledged (grown.log acknowledged log).stands)

pub returns-in-Err-Closed-clause-aside : goal.returns-in-Err-Closed-clause-aside
returns-in-Err-Closed-clause-aside g c =
    keeps_aside_on c.args.self.now c.grow.new.self _ (g.J.Disk.lawful c.grow.new.self.journal) (g.J.Disk.lawful c.write_record.new.journal)
    c.grow.ensures.lengthens.aside (record { slot = refl; aside = refl; leaves = c.write_record.ensures.elsewhere })

pub returns-in-Err-Closed-clause-cause : goal.returns-in-Err-Closed-clause-cause
returns-in-Err-Closed-clause-cause g c =
    cause_of_fault _ _ _ _ c.grow.ensures.later c.write_record.ensures.cause.later c.in-Err-Closed.ensures.cause.failed

pub returns-in-Err-Doubted-clause-failed : goal.returns-in-Err-Doubted-clause-failed
returns-in-Err-Doubted-clause-failed g c acknowledged log =
    let grown = c.grow.ensures.lengthens.log acknowledged log in
    inr (record {
      stands = c.write_record.ensures.doubted (c.in-Err-Doubted.is ∙ ap (λ x. Err x) c.in-Err-Doubted.field-0-is) acknowledged grown.stands;
      doubt = refl;
      first = grown.first;
    })

pub returns-in-Err-Doubted-clause-moments : goal.returns-in-Err-Doubted-clause-moments
returns-in-Err-Doubted-clause-moments g c acknowledged log =
    let grown = c.grow.ensures.lengthens in
    grown_then_added (disk_of c.args.self.now) (disk_of c.grow.new.self) (g.J.Disk.state c.write_record.new.journal) c.grow.new.self.slot
    c.args.self.now.slot acknowledged (payload_of c.args.framed.now) (g.J.Disk.lawful c.write_record.new.journal) grown.aside.slot
    (grown.moments acknowledged log) (c.write_record.ensures.moments acknowledged (grown.log acknowledged log).stands)

pub returns-in-Err-Doubted-clause-aside : goal.returns-in-Err-Doubted-clause-aside
returns-in-Err-Doubted-clause-aside g c =
    keeps_aside_on c.args.self.now c.grow.new.self _ (g.J.Disk.lawful c.grow.new.self.journal) (g.J.Disk.lawful c.write_record.new.journal)
    c.grow.ensures.lengthens.aside (record { slot = refl; aside = refl; leaves = c.write_record.ensures.elsewhere })

pub returns-in-Err-Doubted-clause-cause : goal.returns-in-Err-Doubted-clause-cause
returns-in-Err-Doubted-clause-cause g c =
    cause_of_fault _ _ _ _ c.grow.ensures.later c.write_record.ensures.cause.later c.in-Err-Doubted.ensures.cause.failed
