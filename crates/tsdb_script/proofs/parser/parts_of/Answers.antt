use Rattle.std.proofs.lemmas.Grind.{common_steps}
use Rattle.std.proofs.Common.{◌≡◌, ◌∷◌, Some, rules, arith}
use Rattle.tsdb_script.specs.Parse.{part_at}
use Rattle.tsdb_script.proofs.PartLemmas.{read_part}
use Rattle.tsdb_script.proofs.parser.parts_of.Goals as goal

pub loop-place-preserved-in_ok-push_back : goal.loop-place-preserved-in_ok-push_back
loop-place-preserved-in_ok-push_back c =
    let place = c.in-Some.place.now in
    let row : c.loop-place.row.now ≡ place ∷ c.in-Some.behind.now = search rules in
    let found : part_at place c.loop-place.tokens.items ≡ Some (Some c.in-Some-2.part, c.part.new.tokens.items) = search rules in
    rw c.in_ok-push_back.ensures.items
    (read_part c.loop-place.row.now c.in-Some.behind.now place c.loop-place.tokens.items c.loop-place.parts.items _ row c.loop-place.invariant c.part.new.tokens.items c.in-Some-2.part found)

pub returns : goal.returns
returns c = grind (arith, common_steps)
