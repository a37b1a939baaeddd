use Rattle.std.proofs.Common.{refl, subst, length, ◌≤◌}
use Rattle.tsdb_frames.specs.declared.aside.Aside.TheVariants.{Closed}
use Rattle.std.specs.Option.{ForSome}
use Rattle.tsdb_outside.specs.Disk.{in_slot}
use Rattle.tsdb_outside.specs.declared.disk.Slot.{Slot}
use Rattle.tsdb_frames.proofs.AsideLemmas.{closing_closes_at, closing_fails_at, closing_moments_at, inside_on, tells_on, write_at_other}
use Rattle.tsdb_frames.proofs.LogLemmas.{always_on_err}
use Rattle.tsdb_frames.proofs.Counted.{counted_aside, counted_later}
use Rattle.tsdb_frames.proofs.frames.Frames.write_closed.Goals as goal

pub returns-in_err-write_and_sync-clause-log : goal.returns-in_err-write_and_sync-clause-log
returns-in_err-write_and_sync-clause-log g c = record {
  slot = refl;
  gate = refl;
  doubt = refl;
  first = refl;
  leaves = write_at_other c.args.self.now.slot c.other_slot.result 0 1 (g.J.Disk.state c.args.self.now.journal)
      (g.J.Disk.state c.write_and_sync.new.journal) c.other_slot.ensures c.write_and_sync.ensures.torn c.write_and_sync.ensures.moments;
}

pub returns-in_err-write_and_sync-clause-failed : goal.returns-in_err-write_and_sync-clause-failed
returns-in_err-write_and_sync-clause-failed g c = always_on_err c.from_residual.result (λ records stands.
    closing_fails_at (g.J.Disk.state c.args.self.now.journal) (g.J.Disk.state c.write_and_sync.new.journal) c.args.self.now.slot c.other_slot.result
    c.other_slot.ensures records c.write_and_sync.ensures.left stands)

pub returns-in_err-write_and_sync-clause-moments : goal.returns-in_err-write_and_sync-clause-moments
returns-in_err-write_and_sync-clause-moments g c records stands =
    closing_moments_at (g.J.Disk.state c.args.self.now.journal) (g.J.Disk.state c.write_and_sync.new.journal) c.args.self.now.slot c.other_slot.result
    c.other_slot.ensures records c.write_and_sync.ensures.moments stands

pub returns-clause-log : goal.returns-clause-log
returns-clause-log g c = record {
  slot = refl;
  gate = refl;
  doubt = refl;
  first = refl;
  leaves = write_at_other c.args.self.now.slot c.other_slot.result 0 1 (g.J.Disk.state c.args.self.now.journal)
      (g.J.Disk.state c.write_and_sync.new.journal) c.other_slot.ensures c.write_and_sync.ensures.torn c.write_and_sync.ensures.moments;
}

pub returns-clause-closed : goal.returns-clause-closed
returns-clause-closed g c told =
    let old = g.J.Disk.state c.args.self.now.journal in
    let new = g.J.Disk.state c.write_and_sync.new.journal in
    record {
      told = tells_on c.args.self.now.slot old new
          (write_at_other c.args.self.now.slot c.other_slot.result 0 1 old new c.other_slot.ensures c.write_and_sync.ensures.torn
          c.write_and_sync.ensures.moments) told;
      state = refl;
      closed = closing_closes_at old new c.args.self.now.slot c.other_slot.result c.other_slot.ensures told c.in_ok-write_and_sync.ensures.written;
    }

pub returns-clause-there : goal.returns-clause-there
returns-clause-there g c =
    subst (λ (p : Slot). ForSome (g.J.Disk.state c.write_and_sync.new.journal).seen (λ image. 1 ≤ length (in_slot p image))) c.other_slot.ensures
    c.in_ok-write_and_sync.ensures.long

pub returns-clause-moments : goal.returns-clause-moments
returns-clause-moments g c records stands =
    closing_moments_at (g.J.Disk.state c.args.self.now.journal) (g.J.Disk.state c.write_and_sync.new.journal) c.args.self.now.slot c.other_slot.result
    c.other_slot.ensures records c.write_and_sync.ensures.moments stands

pub invariant_of-self : goal.invariant_of-self
invariant_of-self g c = record {
  within = inside_on c.args.self.now.slot c.args.self.now.gate c.args.self.now.end (g.J.Disk.state c.args.self.now.journal) (g.J.Disk.state c.write_and_sync.new.journal)
      (write_at_other c.args.self.now.slot c.other_slot.result 0 1 (g.J.Disk.state c.args.self.now.journal)
      (g.J.Disk.state c.write_and_sync.new.journal) c.other_slot.ensures c.write_and_sync.ensures.torn c.write_and_sync.ensures.moments)
      c.args.self.now.within;
  counted = counted_later c.args.self.now.doubt c.args.self.now.aside (g.J.Counted.faults c.args.self.now.journal)
      (g.J.Counted.faults c.write_and_sync.new.journal) c.args.self.now.counted c.write_and_sync.ensures.cause.later;
}

pub invariant_of-self-2 : goal.invariant_of-self-2
invariant_of-self-2 g c = record {
  within = inside_on c.args.self.now.slot c.args.self.now.gate c.args.self.now.end (g.J.Disk.state c.args.self.now.journal) (g.J.Disk.state c.write_and_sync.new.journal)
      (write_at_other c.args.self.now.slot c.other_slot.result 0 1 (g.J.Disk.state c.args.self.now.journal)
      (g.J.Disk.state c.write_and_sync.new.journal) c.other_slot.ensures c.write_and_sync.ensures.torn c.write_and_sync.ensures.moments)
      c.args.self.now.within;
  counted = counted_aside c.args.self.now.doubt c.args.self.now.aside Closed (g.J.Counted.faults c.args.self.now.journal)
      (g.J.Counted.faults c.write_and_sync.new.journal) refl c.args.self.now.counted c.write_and_sync.ensures.cause.later;
}
