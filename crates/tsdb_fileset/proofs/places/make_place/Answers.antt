use Rattle.std.proofs.Common.{sym, ◌∙◌}
use Rattle.tsdb_fileset.proofs.PlaceFacts.{place_made}
use Rattle.tsdb_fileset.proofs.places.make_place.Goals as goal

pub returns-in-Ok-None-clause-keeps : goal.returns-in-Ok-None-clause-keeps
returns-in-Ok-None-clause-keeps g c =
    place_made c.in-Some.number.0 _ _ (sym c.in-Ok-None.ensures.old ∙ c.in-Ok-None.field-0-is)
    c.in-Ok-None.ensures.updates.0
