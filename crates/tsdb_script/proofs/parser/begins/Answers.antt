use Rattle.std.proofs.lemmas.Grind.{common_steps}
use Rattle.std.proofs.Common.{◌≡◌, ◌∷◌, true, drop, rules, arith}
use Rattle.tsdb_script.specs.Parse.{is_keyword_place, stands_at}
use Rattle.tsdb_script.proofs.PartLemmas.{begins_next}
use Rattle.tsdb_script.proofs.parser.begins.Goals as goal

pub loop-place-preserved : goal.loop-place-preserved
loop-place-preserved c =
    let place = c.in-Some.place.now in
    let row : c.loop-place.row.now ≡ place ∷ c.in-Some.behind.now = search rules in
    let key : is_keyword_place place ≡ true = search rules in
    let stands : stands_at place (drop c.loop-place.at c.args.tokens.now.items) ≡ true = search rules in
    begins_next c.loop-place.at c.args.tokens.now.items c.loop-place.row.now c.in-Some.behind.now place _ row key stands c.loop-place.invariant

pub returns-then-at-len : goal.returns-then-at-len
returns-then-at-len c = grind (arith, common_steps)

pub returns : goal.returns
returns c = grind (arith, common_steps)
