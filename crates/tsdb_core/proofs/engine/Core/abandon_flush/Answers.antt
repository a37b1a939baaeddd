use Rattle.tsdb_tasks.specs.Files.{new_files}
use Rattle.tsdb_core.proofs.OutputsBuilt.{of_job}
use Rattle.tsdb_core.proofs.Commits.{abandoned_from}
use Rattle.tsdb_core.specs.Core.{store_of}
use Rattle.tsdb_core.proofs.engine.Core.abandon_flush.Goals as goal

pub returns : goal.returns
returns g c = abandoned_from c.args.self.now c.end_flush.new.self c.args.job
    (new_files g.F.Sealed.SealedFile.file c.args.files) (store_of c.args.self.now)
    (of_job g.F.Sealed.SealedFile.file g.F.Sealed.SealedFile.rights (store_of c.args.self.now) c.args.job c.args.files
    c.requires.done)
    c.end_flush.ensures.rest c.end_flush.ensures.ends

pub end_flush-requires-clause-out : goal.end_flush-requires-clause-out
end_flush-requires-clause-out g c = λ lifetimes lives. c.requires.out

pub end_flush-requires-clause-done : goal.end_flush-requires-clause-done
end_flush-requires-clause-done g c = λ lifetimes lives. c.requires.done
