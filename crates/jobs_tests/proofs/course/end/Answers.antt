use Rattle.jobs_tests.proofs.Out.{numbered}
use Rattle.jobs_tests.proofs.course.end.Goals as goal

pub commit-requires-clause-out : goal.commit-requires-clause-out
commit-requires-clause-out g c = λ lifetimes lives. c.requires.out

pub commit-requires-clause-output : goal.commit-requires-clause-output
commit-requires-clause-output g c = λ lifetimes lives. c.requires.output

pub give_up-requires-clause-out : goal.give_up-requires-clause-out
give_up-requires-clause-out g c = λ lifetimes lives. c.requires.out

pub give_up-requires-clause-output : goal.give_up-requires-clause-output
give_up-requires-clause-output g c = λ lifetimes lives. numbered g.F.Sealed.SealedFile.file g.F.Right.ReadRight.file g.F.Sealed.SealedFile.rights
    c.args.job c.args.output
    c.requires.output

pub returns-then-commits : goal.returns-then-commits
returns-then-commits g c = c.commit.ensures

pub returns : goal.returns
returns g c = c.give_up.ensures
