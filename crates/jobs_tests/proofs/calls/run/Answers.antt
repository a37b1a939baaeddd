use Rattle.std.proofs.Common.{inl, subst}
use Rattle.tsdb_core.proofs.Out.{flush_leaves}
use Rattle.tsdb_core.specs.declared.commit.Commit.TheVariants.{Gone}
use Rattle.tsdb_tasks.specs.Files.{AreDone, AreDoneSoFar, new_files}
use Rattle.jobs_tests.proofs.Out.{flush_is_out}
use Rattle.jobs_tests.proofs.calls.run.Goals as goal

pub run_flush-requires-after_bounds : goal.run_flush-requires-after_bounds
run_flush-requires-after_bounds g c κs within = c.requires.0

pub commit-requires-clause-out : goal.commit-requires-clause-out
commit-requires-clause-out g c = λ lifetimes lives. flush_is_out (g.F.Port.Port.store c.args.port.now) c.args.core.now c.args.job c.requires

pub commit-requires-clause-done : goal.commit-requires-clause-done
commit-requires-clause-done g c = λ lifetimes lives.
    subst (λ store. AreDone g.F.Sealed.SealedFile.file g.F.Sealed.SealedFile.rights store c.args.job c.in-Ok.files)
    c.requires.2.of_store (record { sequence = c.in-Ok.ensures.sequence; unsequence = c.in-Ok.ensures.unsequence })

pub abandon_flush-requires-clause-out : goal.abandon_flush-requires-clause-out
abandon_flush-requires-clause-out g c = λ lifetimes lives. flush_is_out (g.F.Port.Port.store c.args.port.now) c.args.core.now c.args.job
    c.requires

pub abandon_flush-requires-clause-done : goal.abandon_flush-requires-clause-done
abandon_flush-requires-clause-done g c = λ lifetimes lives.
    subst (λ store. AreDoneSoFar g.F.Sealed.SealedFile.file g.F.Sealed.SealedFile.rights store c.args.job
    c.in-Err.field-0.files)
    c.requires.2.of_store (record { sequence = c.in-Err.ensures.put; unsequence = inl c.in-Err.ensures.not_put })

pub returns-in-Ok-clause-hands : goal.returns-in-Ok-clause-hands
returns-in-Ok-clause-hands g c = flush_leaves c.args.core.now c.commit.new.core c.args.job
    (new_files g.F.Sealed.SealedFile.file c.in-Ok.files) c.commit.result c.commit.ensures
    (g.F.Port.Port.store c.args.port.now)

pub returns-in-Err-clause-hands : goal.returns-in-Err-clause-hands
returns-in-Err-clause-hands g c = flush_leaves c.args.core.now c.abandon_flush.new.self c.args.job
    (new_files g.F.Sealed.SealedFile.file c.in-Err.field-0.files) Gone c.abandon_flush.ensures.ends
    (g.F.Port.Port.store c.args.port.now)
