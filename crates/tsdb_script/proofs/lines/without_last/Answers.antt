use Rattle.std.proofs.Common.{sym, ap, ◌∙◌, cond, ◌++◌, ◌∷◌, []}
use Rattle.std.proofs.lemmas.Bool.{eq-eqb, ne_eqb}
use Rattle.tsdb_script.specs.Reading.{without_last}
use Rattle.tsdb_script.proofs.LinesLemmas.{without_last-push}
use Rattle.tsdb_script.proofs.lines.without_last.Goals as goal

pub returns-then-byte-last : goal.returns-then-byte-last
returns-then-byte-last c =
    let front = c.in-Some.front.now in
    let byte = c.in-Some.byte.now in
    sym (ap (without_last c.args.last) c.in-Some.ensures.cases.0 ∙ without_last-push c.args.last byte front
    ∙ ap (λ t. cond t front (front ++ byte ∷ [])) (eq-eqb byte c.args.last c.if-byte-last.true))

pub returns-else-byte-last : goal.returns-else-byte-last
returns-else-byte-last c =
    let front = c.in-Some.front.now in
    let byte = c.in-Some.byte.now in
    c.in-Some.ensures.cases.0 ∙ sym (ap (without_last c.args.last) c.in-Some.ensures.cases.0 ∙ without_last-push c.args.last byte front
    ∙ ap (λ t. cond t front (front ++ byte ∷ [])) (ne_eqb byte c.args.last c.if-byte-last.false))
