use Rattle.tsdb_fileset.proofs.PlaceFacts.{other_number}
use Rattle.tsdb_fileset.proofs.places.free_place.Goals as goal

pub returns-clause-others : goal.returns-clause-others
returns-clause-others g c = λ other apart.
    c.remove.ensures.updates.2 other (other_number c.args.number.0 other apart)
