use Rattle.std.proofs.Common.{ap, subst, sym}
use Rattle.tsdb_tasks.specs.Files.{AreDoneSoFar, new_files}
use Rattle.tsdb_core.proofs.OutputsBuilt.{all_there, of_job_done, so_far}
use Rattle.tsdb_core.proofs.Commits.{committed_from, still_out}
use Rattle.tsdb_core.specs.Core.{store_of}
use Rattle.tsdb_core.proofs.engine.Core.commit_flush.Goals as goal

pub returns : goal.returns
returns g c = committed_from c.args.self.now c.log_flush-commit.new.self c.args.job c.log_flush-commit.result
    c.log_flush-commit.ensures.rest c.log_flush-commit.ensures.logged c.end_flush.new.self
    (new_files g.F.Sealed.SealedFile.file c.args.files) (store_of c.args.self.now)
    (of_job_done g.F.Sealed.SealedFile.file g.F.Sealed.SealedFile.rights (store_of c.args.self.now) c.args.job
    c.args.files c.requires.done)
    (all_there g.F.Sealed.SealedFile.file g.F.Sealed.SealedFile.rights (store_of c.args.self.now) c.args.job
    c.args.files c.requires.done)
    c.end_flush.ensures.rest c.log_flush-commit.ensures.answer c.end_flush.ensures.ends

pub end_flush-requires-clause-out : goal.end_flush-requires-clause-out
end_flush-requires-clause-out g c = λ lifetimes lives. still_out c.args.self.now c.log_flush-commit.new.self c.args.job
    c.log_flush-commit.result c.log_flush-commit.ensures.rest c.log_flush-commit.ensures.logged c.requires.out

pub end_flush-requires-clause-done : goal.end_flush-requires-clause-done
end_flush-requires-clause-done g c = λ lifetimes lives.
    subst (λ store. AreDoneSoFar g.F.Sealed.SealedFile.file g.F.Sealed.SealedFile.rights store c.args.job c.args.files)
    (sym (ap store_of c.log_flush-commit.ensures.rest))
    (so_far g.F.Sealed.SealedFile.file g.F.Sealed.SealedFile.rights (store_of c.args.self.now) c.args.job c.args.files
    c.requires.done)
