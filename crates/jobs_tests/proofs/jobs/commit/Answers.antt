use Rattle.std.specs.Option.{option_map}
use Rattle.tsdb_tasks.specs.Files.{file_built}
use Rattle.jobs_tests.proofs.Out.{job_ended}
use Rattle.jobs_tests.proofs.jobs.commit.Goals as goal

pub returns-else-is_cross : goal.returns-else-is_cross
returns-else-is_cross g c store = job_ended g.F.Right.ReadRight.file store c.args.core.now c.commit_inner.new.self
    c.args.job
    (option_map (file_built g.F.Sealed.SealedFile.file) c.args.output) c.commit_inner.ensures.ends c.requires.out

pub returns-then-is_cross : goal.returns-then-is_cross
returns-then-is_cross g c store = job_ended g.F.Right.ReadRight.file store c.args.core.now c.commit_cross.new.self
    c.args.job
    (option_map (file_built g.F.Sealed.SealedFile.file) c.args.output) c.commit_cross.ensures.ends c.requires.out
