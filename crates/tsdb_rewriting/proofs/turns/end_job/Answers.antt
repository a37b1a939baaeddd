use Rattle.std.proofs.Common.{subst, sym, ◌∙◌}
use Rattle.tsdb_rewriting.proofs.Ended.{answer_swept, frozen_swept, job_swept, rose_swept}
use Rattle.tsdb_rewriting.specs.Rewriting.{IsOutputOfStore}
use Rattle.tsdb_rewriting.proofs.turns.end_job.Goals as goal

pub commit_or_give_up-ended-requires-clause-in_store : goal.commit_or_give_up-ended-requires-clause-in_store
commit_or_give_up-ended-requires-clause-in_store g c = λ lifetimes lives.
    subst (λ store. IsOutputOfStore g.F.Sealed.SealedFile.file store c.args.output) c.requires.store c.requires.in_store

pub sweep-requires-clause-store : goal.sweep-requires-clause-store
sweep-requires-clause-store g c = λ lifetimes lives.
    c.requires.store ∙ sym c.commit_or_give_up-ended.ensures.same_store

pub returns-clause-answer : goal.returns-clause-answer
returns-clause-answer g c = answer_swept c.args.job c.args.core.now c.commit_or_give_up-ended.new.core c.sweep.new.core
    c.sweep.ensures.listed c.args.whole c.commit_or_give_up-ended.result c.commit_or_give_up-ended.ensures.answer

pub returns-clause-frozen : goal.returns-clause-frozen
returns-clause-frozen g c = frozen_swept c.args.job c.args.core.now c.commit_or_give_up-ended.new.core c.sweep.new.core
    c.sweep.ensures.listed c.commit_or_give_up-ended.ensures.frozen

pub returns-clause-ends : goal.returns-clause-ends
returns-clause-ends g c =
    let store = g.F.Port.Port.store c.args.port.now in
    job_swept c.args.job c.args.core.now c.commit_or_give_up-ended.new.core c.sweep.new.core c.sweep.ensures.listed
    g.F.Right.ReadRight.file store c.sweep.ensures.keeps_all (c.commit_or_give_up-ended.ensures.ends store c.requires.store)

pub returns-clause-cause : goal.returns-clause-cause
returns-clause-cause g c = rose_swept c.args.job c.args.core.now c.commit_or_give_up-ended.new.core c.sweep.new.core
    c.sweep.ensures.listed c.commit_or_give_up-ended.result c.commit_or_give_up-ended.ensures.cause
