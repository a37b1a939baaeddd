use Rattle.std.proofs.Common.{length, refl, arith}
use Rattle.tsdb_frames.proofs.CallLemmas.{write_lengthens}
use Rattle.tsdb_frames.proofs.StepLemmas.{end_stays, reaches}
use Rattle.tsdb_frames.proofs.Counted.{counted_later}
use Rattle.tsdb_frames.proofs.frames.Frames.write_zeros.Goals as goal

pub returns-in_err-write_at-clause-lengthens : goal.returns-in_err-write_at-clause-lengthens
returns-in_err-write_at-clause-lengthens g c =
    write_lengthens c.args.self.now _ (g.J.Disk.lawful c.args.self.now.journal) (g.J.Disk.lawful c.write_at.new.self) refl refl refl refl refl
    (length c.zeros_behind-zeros.result.now) c.write_at.ensures.writes

pub returns-clause-lengthens : goal.returns-clause-lengthens
returns-clause-lengthens g c =
    write_lengthens c.args.self.now _ (g.J.Disk.lawful c.args.self.now.journal) (g.J.Disk.lawful c.write_at.new.self) refl refl refl refl refl
    (length c.zeros_behind-zeros.result.now) c.write_at.ensures.writes

pub invariant_of-self : goal.invariant_of-self
invariant_of-self g c =
    let self = c.args.self.now in
    record {
      within = record {
        inside = self.within.inside;
        long = end_stays self.slot self.end self.end (length c.zeros_behind-zeros.result.now) (g.J.Disk.state self.journal).seen
            (g.J.Disk.state c.write_at.new.self).seen c.write_at.ensures.writes.torn self.within.long;
        limit = self.within.limit;
      };
      counted = counted_later self.doubt self.aside (g.J.Counted.faults self.journal)
          (g.J.Counted.faults c.write_at.new.self) self.counted c.write_at.ensures.cause.later;
    }

pub invariant_of-self-2 : goal.invariant_of-self-2
invariant_of-self-2 g c =
    let self = c.args.self.now in
    record {
      within = record {
        inside = omega (arith, self.within.inside);
        long = reaches self.slot self.end c.zeros_behind-zeros.result.now (g.J.Disk.state self.journal).seen (g.J.Disk.state c.write_at.new.self).seen
            c.in_ok-write_at.ensures.bytes self.within.long;
        limit = c.in_ok-write_at.ensures.limit;
      };
      counted = counted_later self.doubt self.aside (g.J.Counted.faults self.journal)
          (g.J.Counted.faults c.write_at.new.self) self.counted c.write_at.ensures.cause.later;
    }
