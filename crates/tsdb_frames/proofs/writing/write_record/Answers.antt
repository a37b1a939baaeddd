use Rattle.std.proofs.Common.{◌≡◌, ◌+◌, Ok, Err, arith, inl, length}
use Rattle.std.specs.Prelude.{Result}
use Rattle.tsdb_outside.specs.Moments.{other}
use Rattle.tsdb_frames.specs.Log.{payload_of}
use Rattle.tsdb_frames.specs.declared.writing.Unopened.{Unopened}
use Rattle.tsdb_frames.specs.declared.writing.Unopened.TheVariants.{Closed, Doubted}
use Rattle.tsdb_frames.proofs.AsideLemmas.{leaves_slot_on, write_leaves}
use Rattle.tsdb_frames.proofs.LogLemmas.{added_moments, behind_done, behind_fails, gate_fails, gate_opens_framed, staging_moments}
use Rattle.tsdb_frames.proofs.StepLemmas.{end_stays}
use Rattle.tsdb_frames.proofs.writing.write_record.Goals as goal

-- an answer of one kind is not one of the other
never_err : {T E P : Type 0} (value : T) (error : E) → Ok value ≡ Err error → P
never_err value error is = absurd cc

closed_is_not_doubted : {T P : Type 0} → ◌≡◌ {A = Result T Unopened} (Err Closed) (Err Doubted) → P
closed_is_not_doubted is = absurd cc

doubted_is_not_closed : {T P : Type 0} → ◌≡◌ {A = Result T Unopened} (Err Doubted) (Err Closed) → P
doubted_is_not_closed is = absurd cc

pub returns-in_default-clause-closed : goal.returns-in_default-clause-closed
returns-in_default-clause-closed g c = λ is acknowledged log.
    behind_fails (g.J.Disk.state c.args.journal.now) (g.J.Disk.state c.write_and_sync.new.journal) c.args.slot c.args.gate acknowledged
    (length c.args.framed.now) c.write_and_sync.ensures.torn log c.write_and_sync.ensures.left

pub returns-in_default-clause-moments : goal.returns-in_default-clause-moments
returns-in_default-clause-moments g c acknowledged log =
    inl (staging_moments (g.J.Disk.state c.args.journal.now) (g.J.Disk.state c.write_and_sync.new.journal) c.args.slot c.args.gate acknowledged
    (length c.args.framed.now) log c.write_and_sync.ensures.moments)

pub returns-in_default-write_and_sync-clause-doubted : goal.returns-in_default-write_and_sync-clause-doubted
returns-in_default-write_and_sync-clause-doubted g c = λ is acknowledged log.
    let old = g.J.Disk.state c.args.journal.now in
    let staged = g.J.Disk.state c.write_and_sync.new.journal in
    let last = g.J.Disk.state c.write_and_sync-2.new.journal in
    let staged_log = behind_done old staged c.args.slot c.args.gate acknowledged (length c.args.framed.now) c.write_and_sync.ensures.torn
    c.args.framed.now c.requires.frame log c.in-Ok.ensures.written in
    gate_fails staged last c.args.slot c.args.gate acknowledged c.write_and_sync-2.ensures.torn (payload_of c.args.framed.now) staged_log
    c.write_and_sync-2.ensures.left

pub returns-in_default-write_and_sync-clause-moments : goal.returns-in_default-write_and_sync-clause-moments
returns-in_default-write_and_sync-clause-moments g c acknowledged log =
    let old = g.J.Disk.state c.args.journal.now in
    let staged = g.J.Disk.state c.write_and_sync.new.journal in
    let last = g.J.Disk.state c.write_and_sync-2.new.journal in
    let staged_log = behind_done old staged c.args.slot c.args.gate acknowledged (length c.args.framed.now) c.write_and_sync.ensures.torn
    c.args.framed.now c.requires.frame log c.in-Ok.ensures.written in
    added_moments old staged last c.args.slot c.args.gate c.args.framed.now acknowledged (g.J.Disk.lawful c.write_and_sync-2.new.journal) log staged_log
    c.write_and_sync.ensures.moments c.write_and_sync-2.ensures.moments

pub returns-clause-added : goal.returns-clause-added
returns-clause-added g c acknowledged log =
    let old = g.J.Disk.state c.args.journal.now in
    let staged = g.J.Disk.state c.write_and_sync.new.journal in
    let last = g.J.Disk.state c.write_and_sync-2.new.journal in
    let staged_log = behind_done old staged c.args.slot c.args.gate acknowledged (length c.args.framed.now) c.write_and_sync.ensures.torn
    c.args.framed.now c.requires.frame log c.in-Ok.ensures.written in
    gate_opens_framed staged last c.args.slot c.args.gate c.args.framed.now c.requires.frame acknowledged c.write_and_sync-2.ensures.torn staged_log
    c.in-Ok-write_and_sync.ensures.written

pub returns-clause-moments : goal.returns-clause-moments
returns-clause-moments g c acknowledged log =
    let old = g.J.Disk.state c.args.journal.now in
    let staged = g.J.Disk.state c.write_and_sync.new.journal in
    let last = g.J.Disk.state c.write_and_sync-2.new.journal in
    let staged_log = behind_done old staged c.args.slot c.args.gate acknowledged (length c.args.framed.now) c.write_and_sync.ensures.torn
    c.args.framed.now c.requires.frame log c.in-Ok.ensures.written in
    added_moments old staged last c.args.slot c.args.gate c.args.framed.now acknowledged (g.J.Disk.lawful c.write_and_sync-2.new.journal) log staged_log
    c.write_and_sync.ensures.moments c.write_and_sync-2.ensures.moments

pub write_and_sync-requires-after_bounds : goal.write_and_sync-requires-after_bounds
write_and_sync-requires-after_bounds g c κs lives = λ image is. omega (arith, c.requires.gate image is)

pub write_and_sync-requires-2-after_bounds : goal.write_and_sync-requires-2-after_bounds
write_and_sync-requires-2-after_bounds g c κs lives =
    end_stays c.args.slot c.args.gate (c.args.gate + 1) (length c.args.framed.now) (g.J.Disk.state c.args.journal.now).seen
    (g.J.Disk.state c.write_and_sync.new.journal).seen c.write_and_sync.ensures.torn (λ image is. omega (arith, c.requires.gate image is))

pub returns-in_default-clause-doubted : goal.returns-in_default-clause-doubted
returns-in_default-clause-doubted g c = λ is. closed_is_not_doubted is

pub returns-in_default-clause-elsewhere : goal.returns-in_default-clause-elsewhere
returns-in_default-clause-elsewhere g c =
    write_leaves c.args.slot (c.args.gate + 1) (length c.args.framed.now) (g.J.Disk.state c.args.journal.now)
    (g.J.Disk.state c.write_and_sync.new.journal) c.write_and_sync.ensures.torn c.write_and_sync.ensures.moments

pub returns-in_default-clause-no_shorter : goal.returns-in_default-clause-no_shorter
returns-in_default-clause-no_shorter g c = λ end there.
    end_stays c.args.slot end (c.args.gate + 1) (length c.args.framed.now) (g.J.Disk.state c.args.journal.now).seen
    (g.J.Disk.state c.write_and_sync.new.journal).seen c.write_and_sync.ensures.torn there

pub returns-in_default-clause-cause : goal.returns-in_default-clause-cause
returns-in_default-clause-cause g c = record {
  later = c.write_and_sync.ensures.cause.later;
  failed = c.in_default.ensures.cause.failed;
}

pub returns-in_default-write_and_sync-clause-closed : goal.returns-in_default-write_and_sync-clause-closed
returns-in_default-write_and_sync-clause-closed g c = λ is. doubted_is_not_closed is

pub returns-in_default-write_and_sync-clause-elsewhere : goal.returns-in_default-write_and_sync-clause-elsewhere
returns-in_default-write_and_sync-clause-elsewhere g c =
    let old = g.J.Disk.state c.args.journal.now in
    let staged = g.J.Disk.state c.write_and_sync.new.journal in
    let last = g.J.Disk.state c.write_and_sync-2.new.journal in
    leaves_slot_on (other c.args.slot) old staged last (g.J.Disk.lawful c.write_and_sync.new.journal) (g.J.Disk.lawful c.write_and_sync-2.new.journal)
    (write_leaves c.args.slot (c.args.gate + 1) (length c.args.framed.now) old staged c.write_and_sync.ensures.torn c.write_and_sync.ensures.moments)
    (write_leaves c.args.slot c.args.gate 1 staged last c.write_and_sync-2.ensures.torn c.write_and_sync-2.ensures.moments)

pub returns-in_default-write_and_sync-clause-no_shorter : goal.returns-in_default-write_and_sync-clause-no_shorter
returns-in_default-write_and_sync-clause-no_shorter g c = λ end there.
    let staged = (g.J.Disk.state c.write_and_sync.new.journal).seen in
    end_stays c.args.slot end c.args.gate 1 staged (g.J.Disk.state c.write_and_sync-2.new.journal).seen c.write_and_sync-2.ensures.torn
    (end_stays c.args.slot end (c.args.gate + 1) (length c.args.framed.now) (g.J.Disk.state c.args.journal.now).seen staged
    c.write_and_sync.ensures.torn there)

pub returns-in_default-write_and_sync-clause-cause : goal.returns-in_default-write_and_sync-clause-cause
returns-in_default-write_and_sync-clause-cause g c = record {
  later = omega (arith, c.write_and_sync.ensures.cause.later, c.write_and_sync-2.ensures.cause.later);
  failed = omega (arith, c.write_and_sync.ensures.cause.later, c.in_default-write_and_sync.ensures.cause.failed);
}

pub returns-clause-closed : goal.returns-clause-closed
returns-clause-closed g c = λ is. never_err _ _ is

pub returns-clause-doubted : goal.returns-clause-doubted
returns-clause-doubted g c = λ is. never_err _ _ is

pub returns-clause-elsewhere : goal.returns-clause-elsewhere
returns-clause-elsewhere g c =
    let old = g.J.Disk.state c.args.journal.now in
    let staged = g.J.Disk.state c.write_and_sync.new.journal in
    let last = g.J.Disk.state c.write_and_sync-2.new.journal in
    leaves_slot_on (other c.args.slot) old staged last (g.J.Disk.lawful c.write_and_sync.new.journal) (g.J.Disk.lawful c.write_and_sync-2.new.journal)
    (write_leaves c.args.slot (c.args.gate + 1) (length c.args.framed.now) old staged c.write_and_sync.ensures.torn c.write_and_sync.ensures.moments)
    (write_leaves c.args.slot c.args.gate 1 staged last c.write_and_sync-2.ensures.torn c.write_and_sync-2.ensures.moments)

pub returns-clause-long : goal.returns-clause-long
returns-clause-long g c =
    end_stays c.args.slot (c.args.gate + 1 + length c.args.framed.now) c.args.gate 1 (g.J.Disk.state c.write_and_sync.new.journal).seen
    (g.J.Disk.state c.write_and_sync-2.new.journal).seen c.write_and_sync-2.ensures.torn c.in-Ok.ensures.long

pub returns-clause-no_shorter : goal.returns-clause-no_shorter
returns-clause-no_shorter g c = λ end there.
    let staged = (g.J.Disk.state c.write_and_sync.new.journal).seen in
    end_stays c.args.slot end c.args.gate 1 staged (g.J.Disk.state c.write_and_sync-2.new.journal).seen c.write_and_sync-2.ensures.torn
    (end_stays c.args.slot end (c.args.gate + 1) (length c.args.framed.now) (g.J.Disk.state c.args.journal.now).seen staged
    c.write_and_sync.ensures.torn there)

pub returns-clause-limit : goal.returns-clause-limit
returns-clause-limit g c = c.in-Ok.ensures.limit

pub returns-clause-cause : goal.returns-clause-cause
returns-clause-cause g c = record {
  later = omega (arith, c.write_and_sync.ensures.cause.later, c.write_and_sync-2.ensures.cause.later);
  failed = tt;
}
