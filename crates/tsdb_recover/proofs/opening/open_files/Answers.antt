use Rattle.std.proofs.Common.{Err, ap}
use Rattle.tsdb_recover.proofs.Recovered.{has_damage, has_opened}
use Rattle.tsdb_recover.proofs.Left.{has_kept, has_left}
use Rattle.tsdb_recover.proofs.opening.open_files.Goals as goal

pub take_up-requires-clause-some : goal.take_up-requires-clause-some
take_up-requires-clause-some g c κs within =
    let some = c.requires.some in
    (some.1, c.new-adopting.ensures.begins some.0 some.1 some.2.shown some.2.replayed)

pub end-requires-clause-no_rights : goal.end-requires-clause-no_rights
end-requires-clause-no_rights g c κs within =
    let some = c.requires.some in
    let adopting = c.new-adopting.ensures.begins some.0 some.1 some.2.shown some.2.replayed in
    (c.take_up.ensures.takes.goes_on.adopting some.1 adopting).first.unread

pub returns-in-Ok-clause-opened : goal.returns-in-Ok-clause-opened
returns-in-Ok-clause-opened g c =
    has_opened c.new-adopting.result c.args.opening c.new-adopting.ensures.begins c.take_up.new.adopting c.finish.result
    c.args.log (g.F.Files.at_rest c.args.files.now) (g.F.Files.at_rest c.take_up.new.files) c.in-Ok.stored
    c.in-Ok.ensures.takes c.finish.ensures.kept
    c.finish.ensures.seen c.finish.ensures.next

pub returns-in-Err-clause-damaged : goal.returns-in-Err-clause-damaged
returns-in-Err-clause-damaged g c =
    has_damage c.new-adopting.result c.args.opening c.new-adopting.ensures.begins (g.F.Files.at_rest c.args.files.now)
    c.in-Err.fault (λ part at is. c.in-Err.ensures.takes.damaged part at (ap (λ fault. Err fault) is))

pub returns-in-Err-clause-left : goal.returns-in-Err-clause-left
returns-in-Err-clause-left g c =
    has_left c.new-adopting.result c.take_up.new.adopting c.args.opening c.new-adopting.ensures.begins
    (g.F.Files.at_rest c.args.files.now) (g.F.Files.at_rest c.take_up.new.files) (g.F.Files.at_rest c.end.new.files)
    c.in-Err.fault c.new-adopting.ensures.files c.in-Err.ensures.takes
    c.end.ensures.at_rest c.end.ensures.rising c.end.ensures.kept

pub returns-in-Err-clause-damaged_keeps : goal.returns-in-Err-clause-damaged_keeps
returns-in-Err-clause-damaged_keeps g c =
    has_kept c.new-adopting.result c.take_up.new.adopting c.args.opening c.new-adopting.ensures.begins
    (g.F.Files.at_rest c.args.files.now) (g.F.Files.at_rest c.take_up.new.files) (g.F.Files.at_rest c.end.new.files)
    c.in-Err.fault c.new-adopting.ensures.files c.in-Err.ensures.takes
    c.end.ensures.at_rest c.end.ensures.rising c.end.ensures.kept
