use Rattle.std.proofs.Common.{Option, Some, refl, subst}
use Rattle.std.specs.Prelude.{IsSome}
use Rattle.tsdb_fileset.specs.Places.{KeptFile}
use Rattle.tsdb_fileset.proofs.PlaceFacts.{other_number}
use Rattle.tsdb_fileset.proofs.rights.share_at.Goals as goal

pub returns-in_err-share-in-Some-place-clause-others : goal.returns-in_err-share-in-Some-place-clause-others
returns-in_err-share-in-Some-place-clause-others g c = λ other apart.
    let Found : Option (Option KeptFile) → Type 0 = λ place. IsSome place in
    let updates = (c.get_mut.follows.holds (Some c.share.new.self)).3 (subst Found c.in-Some.ensures.value refl) in
    updates.2 other (other_number c.args.number.0 other apart)

pub returns-in_ok-share-in-Some-place-clause-others : goal.returns-in_ok-share-in-Some-place-clause-others
returns-in_ok-share-in-Some-place-clause-others g c = λ other apart.
    let Found : Option (Option KeptFile) → Type 0 = λ place. IsSome place in
    let updates = (c.get_mut.follows.holds (Some c.share.new.self)).3 (subst Found c.in-Some.ensures.value refl) in
    updates.2 other (other_number c.args.number.0 other apart)

pub returns-in-None-clause-others : goal.returns-in-None-clause-others
returns-in-None-clause-others g c = λ other apart.
    let Found : Option (Option KeptFile) → Type 0 = λ place. IsSome place in
    let updates = (c.get_mut.follows.holds c.in-Some.place.now).3 (subst Found c.in-Some.ensures.value refl) in
    updates.2 other (other_number c.args.number.0 other apart)
