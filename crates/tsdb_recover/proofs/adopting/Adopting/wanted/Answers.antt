use Rattle.tsdb_recover.proofs.Adopted.{not_kept_yet}
use Rattle.tsdb_recover.specs.Adopting.{adopting_files}
use Rattle.tsdb_recover.proofs.adopting.Adopting.wanted.Goals as goal

pub returns-in-Some-clause-free : goal.returns-in-Some-clause-free
returns-in-Some-clause-free g c = λ recorded is.
    not_kept_yet (adopting_files c.args.self.now) is.items recorded _ c.next.ensures.kept is.replayed is.first
    (c.in-Some.ensures.file recorded is.opening)
