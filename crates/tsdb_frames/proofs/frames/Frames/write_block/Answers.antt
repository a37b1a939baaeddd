use Rattle.std.proofs.Common.{arith}
use Rattle.tsdb_frames.proofs.CallLemmas.{lengthens_idle, lengthens_on}
use Rattle.tsdb_frames.proofs.StepLemmas.{cause_of_fault}
use Rattle.tsdb_frames.proofs.frames.Frames.write_block.Goals as goal

pub loop-init : goal.loop-init
loop-init g c = record {
  lengthens = lengthens_idle c.args.self.now (g.J.Disk.lawful c.args.self.now.journal);
  later = omega arith;
}

pub loop-preserved : goal.loop-preserved
loop-preserved g c = record {
  lengthens = lengthens_on c.args.self.now c.loop.self c.write_zeros.new.self (g.J.Disk.lawful c.loop.self.journal)
      (g.J.Disk.lawful c.write_zeros.new.self.journal) c.loop.invariant.lengthens c.write_zeros.ensures.lengthens;
  later = omega (arith, c.loop.invariant.later, c.write_zeros.ensures.cause.later);
}

pub returns-in_err-write_zeros-clause-lengthens : goal.returns-in_err-write_zeros-clause-lengthens
returns-in_err-write_zeros-clause-lengthens g c =
    lengthens_on c.args.self.now c.loop.self c.write_zeros.new.self (g.J.Disk.lawful c.loop.self.journal)
    (g.J.Disk.lawful c.write_zeros.new.self.journal) c.loop.invariant.lengthens c.write_zeros.ensures.lengthens

pub returns-in_err-write_zeros-clause-cause : goal.returns-in_err-write_zeros-clause-cause
returns-in_err-write_zeros-clause-cause g c =
    cause_of_fault _ _ _ c.from_residual.result c.loop.invariant.later c.write_zeros.ensures.cause.later c.in_err-write_zeros.ensures.cause.failed

pub returns-clause-lengthens : goal.returns-clause-lengthens
returns-clause-lengthens g c = c.loop.invariant.lengthens

pub returns-clause-cause : goal.returns-clause-cause
returns-clause-cause g c = record { later = c.loop.invariant.later; failed = tt }
