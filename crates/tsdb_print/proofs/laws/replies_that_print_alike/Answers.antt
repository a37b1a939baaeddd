use Rattle.tsdb_print.proofs.Replies as replies
use Rattle.tsdb_print.proofs.laws.replies_that_print_alike.Goals as goal

pub returns-clause-apart : goal.returns-clause-apart
returns-clause-apart c = λ command a b state other well allowed also ra rb same. replies.apart command a b state other well allowed also ra rb same

pub returns-clause-alike : goal.returns-clause-alike
returns-clause-alike c = λ command a b same. replies.alike command a b same
