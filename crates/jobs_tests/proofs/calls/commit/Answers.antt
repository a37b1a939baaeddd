use Rattle.jobs_tests.proofs.calls.commit.Goals as goal

pub returns : goal.returns
returns g c = c.commit_flush.ensures.ends
