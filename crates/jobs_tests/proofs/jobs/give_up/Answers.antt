use Rattle.std.specs.Option.{option_map}
use Rattle.tsdb_tasks.specs.Files.{file_built}
use Rattle.jobs_tests.proofs.Out.{job_ended}
use Rattle.jobs_tests.proofs.jobs.give_up.Goals as goal

pub returns : goal.returns
returns g c = λ store. job_ended g.F.Right.ReadRight.file store c.args.core.now c.abandon.new.self c.args.job
    (option_map (file_built g.F.Sealed.SealedFile.file) c.args.output) c.abandon.ensures.ends c.requires.out
