use Rattle.std.proofs.Common.{ap, subst, sym, ◌∙◌}
use Rattle.tsdb_core.specs.Files.{AreDone, AreDoneSoFar}
use Rattle.tsdb_memory.specs.LogState.{memory_of}
use Rattle.tsdb_serving.proofs.Causes.{rose_on}
use Rattle.tsdb_serving.proofs.Swept.{ends_swept, no_less_swept}
use Rattle.tsdb_serving.specs.Flushing.{TakesFlushBack, faults_under}
use Rattle.tsdb_serving.proofs.flushing.end_flush.Goals as goal

pub commit_or_give_up-commit-requires-clause-so_far : goal.commit_or_give_up-commit-requires-clause-so_far
commit_or_give_up-commit-requires-clause-so_far g c = λ lifetimes lives.
    subst (λ store. AreDoneSoFar g.F.Sealed.SealedFile.file g.F.Sealed.SealedFile.rights store c.args.job c.args.files)
    c.requires.store c.requires.so_far

pub commit_or_give_up-commit-requires-clause-done : goal.commit_or_give_up-commit-requires-clause-done
commit_or_give_up-commit-requires-clause-done g c = λ lifetimes lives whole.
    subst (λ store. AreDone g.F.Sealed.SealedFile.file g.F.Sealed.SealedFile.rights store c.args.job c.args.files)
    c.requires.store (c.requires.done whole)

pub sweep-requires-clause-store : goal.sweep-requires-clause-store
sweep-requires-clause-store g c = λ lifetimes lives. c.requires.store
    ∙ sym c.commit_or_give_up-commit.ensures.same_store

pub returns-clause-left : goal.returns-clause-left
returns-clause-left g c = λ is. ap (λ logged. (memory_of logged).frozen) c.sweep.ensures.listed.logged
    ∙ c.commit_or_give_up-commit.ensures.left is

pub returns-clause-stays : goal.returns-clause-stays
returns-clause-stays g c = λ not. ap memory_of c.sweep.ensures.listed.logged
    ∙ c.commit_or_give_up-commit.ensures.stays not

pub returns-clause-ends : goal.returns-clause-ends
returns-clause-ends g c = ends_swept g.F.Right.ReadRight.file (g.F.Port.Port.store c.args.port.now) c.args.job
    c.args.core.now c.commit_or_give_up-commit.new.core c.sweep.new.core c.sweep.ensures.listed c.sweep.ensures.keeps_all
    (subst (λ store. TakesFlushBack g.F.Right.ReadRight.file store c.args.job c.args.core.now c.commit_or_give_up-commit.new.core)
    (sym c.requires.store) c.commit_or_give_up-commit.ensures.ends)

pub returns-clause-cause : goal.returns-clause-cause
returns-clause-cause g c = λ is. rose_on (faults_under c.args.core.now) (faults_under c.commit_or_give_up-commit.new.core)
    (faults_under c.sweep.new.core) (c.commit_or_give_up-commit.ensures.cause is)
    (no_less_swept c.commit_or_give_up-commit.new.core c.sweep.new.core c.sweep.ensures.listed)
