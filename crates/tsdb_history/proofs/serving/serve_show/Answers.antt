use Rattle.std.proofs.Common.{subst}
use Rattle.tsdb_querying.specs.Listings.{TellsStore}
use Rattle.tsdb_history.proofs.Replies.{not_shown}
use Rattle.tsdb_history.proofs.serving.serve_show.Goals as goal

pub returns-in-Err-clause-answers : goal.returns-in-Err-clause-answers
returns-in-Err-clause-answers g c = not_shown g.J.Disk.lawful c.args.core.now

pub returns-in-Ok-clause-listed : goal.returns-in-Ok-clause-listed
returns-in-Ok-clause-listed g c = λ listing is.
    subst (TellsStore c.args.core.now) (let same = is in cc) c.in-Ok.ensures.tells

pub returns-in-Err-clause-listed : goal.returns-in-Err-clause-listed
returns-in-Err-clause-listed g c = λ listing is. absurd (let same = is in cc)
