use Rattle.std.proofs.Common.{refl}
use Rattle.tsdb_frames.proofs.LogLemmas.{always_on_err, settle_fails, settle_closes, settle_moments}
use Rattle.tsdb_outside.specs.Moments.{other}
use Rattle.tsdb_frames.proofs.AsideLemmas.{idle_leaves, write_leaves}
use Rattle.tsdb_frames.proofs.StepLemmas.{end_stays}
use Rattle.tsdb_frames.proofs.Counted.{counted_closed, counted_later}
use Rattle.tsdb_frames.proofs.frames.Frames.settle_gate.Goals as goal

pub returns-in_err-write_and_sync-clause-failed : goal.returns-in_err-write_and_sync-clause-failed
returns-in_err-write_and_sync-clause-failed g c = always_on_err c.from_residual.result (λ acknowledged in_doubt log. record {
  stands = settle_fails (g.J.Disk.state c.args.self.now.journal) (g.J.Disk.state c.write_and_sync.new.journal) c.args.self.now.slot c.args.self.now.gate
      acknowledged in_doubt c.args.self.now.doubt c.if-self.true log.doubt c.write_and_sync.ensures.torn log.stands c.write_and_sync.ensures.left;
  doubt = log.doubt;
  first = log.first;
})

pub returns-in_err-write_and_sync-clause-moments : goal.returns-in_err-write_and_sync-clause-moments
returns-in_err-write_and_sync-clause-moments g c acknowledged in_doubt log =
    settle_moments (g.J.Disk.state c.args.self.now.journal) (g.J.Disk.state c.write_and_sync.new.journal) c.args.self.now.slot c.args.self.now.gate
    acknowledged in_doubt c.args.self.now.doubt c.if-self.true log.doubt log.stands c.write_and_sync.ensures.moments

pub returns-in_ok-write_and_sync-clause-settled : goal.returns-in_ok-write_and_sync-clause-settled
returns-in_ok-write_and_sync-clause-settled g c acknowledged in_doubt log = record {
  stands = settle_closes (g.J.Disk.state c.args.self.now.journal) (g.J.Disk.state c.write_and_sync.new.journal) c.args.self.now.slot c.args.self.now.gate
      acknowledged in_doubt c.args.self.now.doubt c.if-self.true log.doubt c.write_and_sync.ensures.torn log.stands c.in_ok-write_and_sync.ensures.written;
  doubt = refl;
  first = log.first;
}

pub returns-in_ok-write_and_sync-clause-moments : goal.returns-in_ok-write_and_sync-clause-moments
returns-in_ok-write_and_sync-clause-moments g c acknowledged in_doubt log =
    settle_moments (g.J.Disk.state c.args.self.now.journal) (g.J.Disk.state c.write_and_sync.new.journal) c.args.self.now.slot c.args.self.now.gate
    acknowledged in_doubt c.args.self.now.doubt c.if-self.true log.doubt log.stands c.write_and_sync.ensures.moments

pub returns-in_err-write_and_sync-clause-aside : goal.returns-in_err-write_and_sync-clause-aside
returns-in_err-write_and_sync-clause-aside g c = record {
  slot = refl;
  aside = refl;
  leaves = write_leaves c.args.self.now.slot c.args.self.now.gate 1 (g.J.Disk.state c.args.self.now.journal) (g.J.Disk.state c.write_and_sync.new.journal)
      c.write_and_sync.ensures.torn c.write_and_sync.ensures.moments;
}

pub returns-in_ok-write_and_sync-clause-aside : goal.returns-in_ok-write_and_sync-clause-aside
returns-in_ok-write_and_sync-clause-aside g c = record {
  slot = refl;
  aside = refl;
  leaves = write_leaves c.args.self.now.slot c.args.self.now.gate 1 (g.J.Disk.state c.args.self.now.journal) (g.J.Disk.state c.write_and_sync.new.journal)
      c.write_and_sync.ensures.torn c.write_and_sync.ensures.moments;
}

pub returns-else-self-clause-aside : goal.returns-else-self-clause-aside
returns-else-self-clause-aside g c = record {
  slot = refl;
  aside = refl;
  leaves = idle_leaves (other c.args.self.now.slot) (g.J.Disk.state c.args.self.now.journal) (g.J.Disk.lawful c.args.self.now.journal);
}

pub invariant_of-self : goal.invariant_of-self
invariant_of-self g c = record {
  within = record {
    inside = c.args.self.now.within.inside;
    long = end_stays c.args.self.now.slot c.args.self.now.end c.args.self.now.gate 1 (g.J.Disk.state c.args.self.now.journal).seen
        (g.J.Disk.state c.write_and_sync.new.journal).seen c.write_and_sync.ensures.torn c.args.self.now.within.long;
    limit = c.args.self.now.within.limit;
  };
  counted = counted_later c.args.self.now.doubt c.args.self.now.aside (g.J.Counted.faults c.args.self.now.journal)
      (g.J.Counted.faults c.write_and_sync.new.journal) c.args.self.now.counted c.write_and_sync.ensures.cause.later;
}

pub invariant_of-self-then-self : goal.invariant_of-self-then-self
invariant_of-self-then-self g c = record {
  within = record {
    inside = c.args.self.now.within.inside;
    long = end_stays c.args.self.now.slot c.args.self.now.end c.args.self.now.gate 1 (g.J.Disk.state c.args.self.now.journal).seen
        (g.J.Disk.state c.write_and_sync.new.journal).seen c.write_and_sync.ensures.torn c.args.self.now.within.long;
    limit = c.args.self.now.within.limit;
  };
  counted = counted_closed c.args.self.now.doubt c.args.self.now.aside (g.J.Counted.faults c.args.self.now.journal)
      (g.J.Counted.faults c.write_and_sync.new.journal) c.args.self.now.counted c.write_and_sync.ensures.cause.later;
}
