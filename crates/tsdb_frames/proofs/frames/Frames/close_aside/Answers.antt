use Rattle.std.proofs.Common.{refl, subst, sym, arith, length, ◌≤◌}
use Rattle.std.specs.Option.{ForSome}
use Rattle.tsdb_outside.specs.Disk.{in_slot}
use Rattle.tsdb_outside.specs.Moments.{other}
use Rattle.tsdb_outside.specs.declared.disk.Slot.{Slot}
use Rattle.tsdb_frames.specs.Asides.{HasRecordsOrNone, IsAsideOn}
use Rattle.tsdb_frames.specs.declared.aside.Aside.{Aside}
use Rattle.tsdb_frames.proofs.AsideLemmas.{inside_on, keeps_leaves, leaves_slot_on, looked_closed, looked_moments, looked_on, looked_open, tells_on}
use Rattle.tsdb_frames.proofs.LogLemmas.{always_on_err}
use Rattle.tsdb_frames.proofs.MomentLemmas.{leaves_on}
use Rattle.tsdb_frames.proofs.Counted.{counted_later}
use Rattle.tsdb_frames.proofs.frames.Frames.close_aside.Goals as goal

pub returns-in_err-closed-clause-log : goal.returns-in_err-closed-clause-log
returns-in_err-closed-clause-log g c = record {
  slot = refl;
  gate = refl;
  doubt = refl;
  first = refl;
  leaves = keeps_leaves c.args.self.now.slot (g.J.Disk.state c.args.self.now.journal) (g.J.Disk.state c.is_closed.new.journal)
      (g.J.Disk.lawful c.args.self.now.journal) (g.J.Disk.lawful c.is_closed.new.journal) c.is_closed.ensures.keeps;
}

pub returns-in_err-closed-clause-failed : goal.returns-in_err-closed-clause-failed
returns-in_err-closed-clause-failed g c = always_on_err c.from_residual.result (λ records aside.
    let self = c.args.self.now in
    let old = g.J.Disk.state self.journal in
    let new = g.J.Disk.state c.is_closed.new.journal in
    record {
      told = tells_on self.slot old new (keeps_leaves self.slot old new (g.J.Disk.lawful self.journal) (g.J.Disk.lawful c.is_closed.new.journal)
          c.is_closed.ensures.keeps) aside.told;
      stands = looked_on old new self.slot c.other_slot.result c.other_slot.ensures (g.J.Disk.lawful self.journal)
          (g.J.Disk.lawful c.is_closed.new.journal) c.is_closed.ensures.keeps self.aside records aside.stands;
    })

pub returns-in_err-closed-clause-moments : goal.returns-in_err-closed-clause-moments
returns-in_err-closed-clause-moments g c records aside =
    let self = c.args.self.now in
    looked_moments (g.J.Disk.state self.journal) (g.J.Disk.state c.is_closed.new.journal) self.slot c.other_slot.result c.other_slot.ensures
    (g.J.Disk.lawful self.journal) (g.J.Disk.lawful c.is_closed.new.journal) c.is_closed.ensures.keeps self.aside records aside.stands

pub returns-then-closed-clause-log : goal.returns-then-closed-clause-log
returns-then-closed-clause-log g c = record {
  slot = refl;
  gate = refl;
  doubt = refl;
  first = refl;
  leaves = keeps_leaves c.args.self.now.slot (g.J.Disk.state c.args.self.now.journal) (g.J.Disk.state c.is_closed.new.journal)
      (g.J.Disk.lawful c.args.self.now.journal) (g.J.Disk.lawful c.is_closed.new.journal) c.is_closed.ensures.keeps;
}

pub returns-then-closed-clause-closed : goal.returns-then-closed-clause-closed
returns-then-closed-clause-closed g c records aside =
    let self = c.args.self.now in
    let old = g.J.Disk.state self.journal in
    let new = g.J.Disk.state c.is_closed.new.journal in
    record {
      told = tells_on self.slot old new (keeps_leaves self.slot old new (g.J.Disk.lawful self.journal) (g.J.Disk.lawful c.is_closed.new.journal)
          c.is_closed.ensures.keeps) aside.told;
      state = refl;
      closed = looked_closed old new self.slot c.other_slot.result c.other_slot.ensures (g.J.Disk.lawful self.journal)
          (g.J.Disk.lawful c.is_closed.new.journal) c.is_closed.ensures.keeps self.aside records
          (c.in_ok-closed.ensures.closed c.if-closed.true aside.told records) aside.stands;
    }

pub returns-then-closed-clause-length : goal.returns-then-closed-clause-length
returns-then-closed-clause-length g c =
    subst (λ (p : Slot). ForSome (g.J.Disk.state c.is_closed.new.journal).seen (λ image. c.in_ok-closed.length ≤ length (in_slot p image)))
    c.other_slot.ensures c.in_ok-closed.ensures.length

pub returns-then-closed-clause-moments : goal.returns-then-closed-clause-moments
returns-then-closed-clause-moments g c records aside =
    let self = c.args.self.now in
    looked_moments (g.J.Disk.state self.journal) (g.J.Disk.state c.is_closed.new.journal) self.slot c.other_slot.result c.other_slot.ensures
    (g.J.Disk.lawful self.journal) (g.J.Disk.lawful c.is_closed.new.journal) c.is_closed.ensures.keeps self.aside records aside.stands

pub returns-in_err-write_closed-clause-log : goal.returns-in_err-write_closed-clause-log
returns-in_err-write_closed-clause-log g c =
    let self = c.args.self.now in
    let old = g.J.Disk.state self.journal in
    let mid = g.J.Disk.state c.is_closed.new.journal in
    let new = g.J.Disk.state c.write_closed.new.self.journal in
    record {
      slot = c.write_closed.ensures.log.slot;
      gate = c.write_closed.ensures.log.gate;
      doubt = c.write_closed.ensures.log.doubt;
      first = c.write_closed.ensures.log.first;
      leaves = leaves_slot_on self.slot old mid new (g.J.Disk.lawful c.is_closed.new.journal) (g.J.Disk.lawful c.write_closed.new.self.journal)
          (keeps_leaves self.slot old mid (g.J.Disk.lawful self.journal) (g.J.Disk.lawful c.is_closed.new.journal) c.is_closed.ensures.keeps)
          c.write_closed.ensures.log.leaves;
    }

pub returns-in_err-write_closed-clause-failed : goal.returns-in_err-write_closed-clause-failed
returns-in_err-write_closed-clause-failed g c = always_on_err c.from_residual-in_err-write_closed.result (λ records aside.
    let self = c.args.self.now in
    let old = g.J.Disk.state self.journal in
    let mid = g.J.Disk.state c.is_closed.new.journal in
    let new = g.J.Disk.state c.write_closed.new.self.journal in
    let unsettled = looked_open old mid self.slot c.other_slot.result c.other_slot.ensures (g.J.Disk.lawful self.journal)
    (g.J.Disk.lawful c.is_closed.new.journal) c.is_closed.ensures.keeps self.aside records
    (c.in_ok-closed.ensures.not_closed c.if-closed.false aside.told records) aside.stands in
    record {
      told = tells_on self.slot mid new c.write_closed.ensures.log.leaves
          (tells_on self.slot old mid (keeps_leaves self.slot old mid (g.J.Disk.lawful self.journal) (g.J.Disk.lawful c.is_closed.new.journal)
          c.is_closed.ensures.keeps) aside.told);
      stands = subst (λ (a : Aside). IsAsideOn new (other c.write_closed.new.self.slot) a records) (sym c.in_err-write_closed.ensures.same)
          (c.in_err-write_closed.ensures.failed records unsettled);
    })

pub returns-in_err-write_closed-clause-moments : goal.returns-in_err-write_closed-clause-moments
returns-in_err-write_closed-clause-moments g c records aside =
    let self = c.args.self.now in
    let old = g.J.Disk.state self.journal in
    let mid = g.J.Disk.state c.is_closed.new.journal in
    let new = g.J.Disk.state c.write_closed.new.self.journal in
    leaves_on old mid new (g.J.Disk.lawful c.write_closed.new.self.journal) (λ image. HasRecordsOrNone records (in_slot (other self.slot) image))
    (looked_moments old mid self.slot c.other_slot.result c.other_slot.ensures (g.J.Disk.lawful self.journal)
    (g.J.Disk.lawful c.is_closed.new.journal) c.is_closed.ensures.keeps self.aside records aside.stands)
    (c.write_closed.ensures.moments records
    (looked_open old mid self.slot c.other_slot.result c.other_slot.ensures (g.J.Disk.lawful self.journal)
    (g.J.Disk.lawful c.is_closed.new.journal) c.is_closed.ensures.keeps self.aside records
    (c.in_ok-closed.ensures.not_closed c.if-closed.false aside.told records) aside.stands))

pub returns-clause-log : goal.returns-clause-log
returns-clause-log g c =
    let self = c.args.self.now in
    let old = g.J.Disk.state self.journal in
    let mid = g.J.Disk.state c.is_closed.new.journal in
    let new = g.J.Disk.state c.write_closed.new.self.journal in
    record {
      slot = c.write_closed.ensures.log.slot;
      gate = c.write_closed.ensures.log.gate;
      doubt = c.write_closed.ensures.log.doubt;
      first = c.write_closed.ensures.log.first;
      leaves = leaves_slot_on self.slot old mid new (g.J.Disk.lawful c.is_closed.new.journal) (g.J.Disk.lawful c.write_closed.new.self.journal)
          (keeps_leaves self.slot old mid (g.J.Disk.lawful self.journal) (g.J.Disk.lawful c.is_closed.new.journal) c.is_closed.ensures.keeps)
          c.write_closed.ensures.log.leaves;
    }

pub returns-clause-closed : goal.returns-clause-closed
returns-clause-closed g c = λ records aside.
    let self = c.args.self.now in
    let old = g.J.Disk.state self.journal in
    let mid = g.J.Disk.state c.is_closed.new.journal in
    c.in_ok-write_closed.ensures.closed (tells_on self.slot old mid
    (keeps_leaves self.slot old mid (g.J.Disk.lawful self.journal) (g.J.Disk.lawful c.is_closed.new.journal) c.is_closed.ensures.keeps) aside.told)

pub returns-clause-length : goal.returns-clause-length
returns-clause-length g c = λ image is.
    let before = subst (λ (p : Slot). ForSome (g.J.Disk.state c.is_closed.new.journal).seen (λ old. c.in_ok-closed.length ≤ length (in_slot p old)))
    c.other_slot.ensures c.in_ok-closed.ensures.length in
    omega (arith, c.max.ensures, c.in_ok-write_closed.ensures.there image is, c.write_closed.ensures.length c.in_ok-closed.length before image is)

pub returns-clause-moments : goal.returns-clause-moments
returns-clause-moments g c records aside =
    let self = c.args.self.now in
    let old = g.J.Disk.state self.journal in
    let mid = g.J.Disk.state c.is_closed.new.journal in
    let new = g.J.Disk.state c.write_closed.new.self.journal in
    leaves_on old mid new (g.J.Disk.lawful c.write_closed.new.self.journal) (λ image. HasRecordsOrNone records (in_slot (other self.slot) image))
    (looked_moments old mid self.slot c.other_slot.result c.other_slot.ensures (g.J.Disk.lawful self.journal)
    (g.J.Disk.lawful c.is_closed.new.journal) c.is_closed.ensures.keeps self.aside records aside.stands)
    (c.write_closed.ensures.moments records
    (looked_open old mid self.slot c.other_slot.result c.other_slot.ensures (g.J.Disk.lawful self.journal)
    (g.J.Disk.lawful c.is_closed.new.journal) c.is_closed.ensures.keeps self.aside records
    (c.in_ok-closed.ensures.not_closed c.if-closed.false aside.told records) aside.stands))

pub invariant_of-self : goal.invariant_of-self
invariant_of-self g c = record {
  within = inside_on c.args.self.now.slot c.args.self.now.gate c.args.self.now.end (g.J.Disk.state c.args.self.now.journal) (g.J.Disk.state c.is_closed.new.journal)
      (keeps_leaves c.args.self.now.slot (g.J.Disk.state c.args.self.now.journal) (g.J.Disk.state c.is_closed.new.journal)
      (g.J.Disk.lawful c.args.self.now.journal) (g.J.Disk.lawful c.is_closed.new.journal) c.is_closed.ensures.keeps) c.args.self.now.within;
  counted = counted_later c.args.self.now.doubt c.args.self.now.aside (g.J.Counted.faults c.args.self.now.journal)
      (g.J.Counted.faults c.is_closed.new.journal) c.args.self.now.counted c.is_closed.ensures.cause.later;
}
