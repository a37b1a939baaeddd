use Rattle.tsdb_recover.specs.declared.fault.OpenFault.TheVariants.{Memory}
use Rattle.tsdb_recover.proofs.Opened.{is_refused, nothing_left}
use Rattle.tsdb_recover.proofs.Steps.{goes_nowhere}
use Rattle.tsdb_recover.proofs.opening.take_up.Goals as goal

pub returns-in-Err-clause-takes : goal.returns-in-Err-clause-takes
returns-in-Err-clause-takes g c =
    let old = c.args.adopting.now in
    let rest = g.F.Files.at_rest c.args.files.now in
    let now = g.F.Files.at_rest c.port.new.self in
    is_refused old old rest now Memory c.requires.none (goes_nowhere old) (λ part at is. absurd cc)
    (nothing_left old rest now c.port.ensures.same)
