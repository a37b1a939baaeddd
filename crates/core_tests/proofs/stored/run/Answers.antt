use Rattle.std.proofs.Common.{inl, subst}
use Rattle.tsdb_core.specs.declared.commit.Commit.TheVariants.{Gone}
use Rattle.tsdb_tasks.specs.Files.{AreDone, AreDoneSoFar}
use Rattle.core_tests.proofs.Ready.{ended}
use Rattle.core_tests.proofs.stored.run.Goals as goal

pub end-requires-clause-done : goal.end-requires-clause-done
end-requires-clause-done g c = λ lifetimes lives.
    subst (λ store. AreDone g.F.Sealed.SealedFile.file g.F.Sealed.SealedFile.rights store c.args.job c.in-Ok.files)
    c.requires.port (record { sequence = c.in-Ok.ensures.sequence; unsequence = c.in-Ok.ensures.unsequence })

pub abandon_flush-requires-clause-done : goal.abandon_flush-requires-clause-done
abandon_flush-requires-clause-done g c = λ lifetimes lives.
    subst (λ store. AreDoneSoFar g.F.Sealed.SealedFile.file g.F.Sealed.SealedFile.rights store c.args.job
    c.in-Err.field-0.files)
    c.requires.port (record { sequence = c.in-Err.ensures.put; unsequence = inl c.in-Err.ensures.not_put })

pub returns-in-Ok-clause-ready : goal.returns-in-Ok-clause-ready
returns-in-Ok-clause-ready g c = ended g.F.Sealed.SealedFile.file (g.F.Port.Port.store c.args.port.now)
    c.args.core.now c.end.new.core c.args.job c.in-Ok.files c.end.ensures.0 c.end.ensures.1

pub returns-in-Err-clause-ready : goal.returns-in-Err-clause-ready
returns-in-Err-clause-ready g c = ended g.F.Sealed.SealedFile.file (g.F.Port.Port.store c.args.port.now)
    c.args.core.now c.abandon_flush.new.self c.args.job c.in-Err.field-0.files Gone c.abandon_flush.ensures.ends
