use Rattle.std.proofs.Common.{ap, refl, subst, sym}
use Rattle.tsdb_core.proofs.OutputsBuilt.{of_job, of_job_done}
use Rattle.tsdb_core.specs.Core.{store_of}
use Rattle.tsdb_core.specs.Files.{new_files}
use Rattle.tsdb_core.specs.declared.commit.Commit.TheVariants.{Gone}
use Rattle.tsdb_memory.specs.LogState.{memory_of}
use Rattle.tsdb_serving.proofs.Flushes.{abandon_ends, commit_ends, commit_stays}
use Rattle.tsdb_serving.proofs.Jobs.{tell_bytes}
use Rattle.tsdb_serving.specs.Flushing.{IsEndAnswer}
use Rattle.tsdb_serving.proofs.flushing.commit_or_give_up.Goals as goal

pub commit_flush-requires-clause-done : goal.commit_flush-requires-clause-done
commit_flush-requires-clause-done g c = λ lifetimes lives. c.requires.done c.if-whole.true

pub abandon_flush-requires-clause-done : goal.abandon_flush-requires-clause-done
abandon_flush-requires-clause-done g c = λ lifetimes lives. c.requires.so_far

pub returns-then-whole-clause-answer : goal.returns-then-whole-clause-answer
returns-then-whole-clause-answer g c = subst (λ whole. IsEndAnswer whole c.args.core.now c.args.job
    c.commit_flush.result) (sym c.if-whole.true) c.commit_flush.ensures.answer

pub returns-then-whole-clause-left : goal.returns-then-whole-clause-left
returns-then-whole-clause-left g c = c.commit_flush.ensures.left

pub returns-then-whole-clause-stays : goal.returns-then-whole-clause-stays
returns-then-whole-clause-stays g c = commit_stays c.args.core.now c.commit_flush.new.self c.args.job
    (new_files g.F.Sealed.SealedFile.file c.args.files) c.commit_flush.result c.commit_flush.ensures

pub returns-then-whole-clause-cause : goal.returns-then-whole-clause-cause
returns-then-whole-clause-cause g c = c.commit_flush.ensures.cause

pub returns-then-whole-clause-ends : goal.returns-then-whole-clause-ends
returns-then-whole-clause-ends g c =
    let file = g.F.Sealed.SealedFile.file in
    let rights = g.F.Sealed.SealedFile.rights in
    let store = store_of c.args.core.now in
    commit_ends g.J.Disk.lawful g.F.Right.ReadRight.file store c.args.core.now c.commit_flush.new.self c.args.job
    (new_files file c.args.files) store
    (of_job_done file rights store c.args.job c.args.files (c.requires.done c.if-whole.true))
    (λ told. tell_bytes file rights store c.args.job c.args.files c.requires.so_far told g.F.Sealed.SealedFile.tells)
    c.commit_flush.result c.commit_flush.ensures

pub returns-then-whole-clause-same_store : goal.returns-then-whole-clause-same_store
returns-then-whole-clause-same_store g c = c.commit_flush.ensures.ends.store

pub returns-clause-answer : goal.returns-clause-answer
returns-clause-answer g c = subst (λ whole. IsEndAnswer whole c.args.core.now c.args.job Gone)
    (sym c.if-whole.false) refl

pub returns-clause-left : goal.returns-clause-left
returns-clause-left g c = λ is. absurd cc

pub returns-clause-stays : goal.returns-clause-stays
returns-clause-stays g c = λ not. ap memory_of c.abandon_flush.ensures.logged

pub returns-clause-cause : goal.returns-clause-cause
returns-clause-cause g c = λ is. absurd cc

pub returns-clause-ends : goal.returns-clause-ends
returns-clause-ends g c =
    let file = g.F.Sealed.SealedFile.file in
    let rights = g.F.Sealed.SealedFile.rights in
    let store = store_of c.args.core.now in
    abandon_ends g.J.Disk.lawful g.F.Right.ReadRight.file store c.args.core.now c.abandon_flush.new.self c.args.job
    (new_files file c.args.files) store (of_job file rights store c.args.job c.args.files c.requires.so_far)
    (λ told. tell_bytes file rights store c.args.job c.args.files c.requires.so_far told g.F.Sealed.SealedFile.tells)
    c.abandon_flush.ensures

pub returns-clause-same_store : goal.returns-clause-same_store
returns-clause-same_store g c = c.abandon_flush.ensures.ends.store
