use Rattle.std.proofs.Common.{subst}
use Rattle.tsdb_recover.specs.Adopting.{adopting_files}
use Rattle.tsdb_outside.specs.Files.{plain_numbers}
use Rattle.tsdb_recover.specs.declared.fault.OpenFault.TheVariants.{Failed, Memory}
use Rattle.tsdb_recover.proofs.Opened.{is_refused, is_taken_up, nothing_left}
use Rattle.tsdb_recover.proofs.Steps.{goes_nowhere}
use Rattle.tsdb_recover.specs.Taking.{AreGoneIn, HasTakenMore, IsGreatestNumber}
use Rattle.tsdb_recover.proofs.opening.take_up_through.Goals as goal

pub returns-in-Ok-take_listed-clause-takes : goal.returns-in-Ok-take_listed-clause-takes
returns-in-Ok-take_listed-clause-takes g c =
    let old = c.args.adopting.now in
    let new = c.take_listed.new.adopting in
    let now = g.F.Files.at_rest c.take_listed.new.files in
    let taken = c.in-Ok-take_listed.ensures.taken in
    is_taken_up old new (g.F.Files.at_rest c.args.files.now) taken.0 now
    (plain_numbers c.in-Ok.numbers.items) c.greatest_of-last.result c.requires.none
    c.in-Ok-take_listed.ensures.goes_on c.in-Ok-take_listed.ensures.all
    (subst (λ rest. HasTakenMore old new rest taken.0) c.in-Ok.ensures.same taken.1)
    (subst (λ list. AreGoneIn (plain_numbers list) (adopting_files new) taken.0 now) c.deref-in-Ok.ensures.value taken.2)
    c.in-Ok.ensures.exact c.in-Ok.ensures.numbers
    (subst (λ list. IsGreatestNumber c.greatest_of-last.result (plain_numbers list)) c.deref.ensures.value
    c.greatest_of-last.ensures)

pub returns-in-Err-Failed-clause-takes : goal.returns-in-Err-Failed-clause-takes
returns-in-Err-Failed-clause-takes g c =
    let old = c.args.adopting.now in
    let rest = g.F.Files.at_rest c.args.files.now in
    let now = g.F.Files.at_rest c.list.new.self in
    is_refused old old rest now Failed c.requires.none (goes_nowhere old) (λ part at is. absurd cc)
    (nothing_left old rest now c.list.ensures.same)

pub returns-clause-takes : goal.returns-clause-takes
returns-clause-takes g c =
    let old = c.args.adopting.now in
    let rest = g.F.Files.at_rest c.args.files.now in
    let now = g.F.Files.at_rest c.list.new.self in
    is_refused old old rest now Memory c.requires.none (goes_nowhere old) (λ part at is. absurd cc)
    (nothing_left old rest now c.list.ensures.same)
