use Rattle.std.proofs.Common.{refl}
use Rattle.std.proofs.lemmas.Bool.{false≢true}
use Rattle.tsdb_redo.proofs.Standing.{not_standing, standing}
use Rattle.tsdb_redo.proofs.replacing.stand_at.Goals as goal

pub returns-in-Some : goal.returns-in-Some
returns-in-Some c =
    let are = standing c.args.files.now c.in-Some.part.now c.args.numbers.now c.args.born c.args.place
    c.in-Some.ensures.some.0 c.in-Some.ensures.some.1 in
    (λ yes. are.0 (c.are_inputs.ensures.0 yes), λ old. c.are_inputs.ensures.1 (are.1 old))

pub returns-in-None : goal.returns-in-None
returns-in-None c = (
  λ yes. absurd (false≢true yes),
  λ old. absurd (not_standing c.args.files.now c.args.numbers.now c.args.born.0 c.args.place (c.in-None.ensures.none refl) old),
)
