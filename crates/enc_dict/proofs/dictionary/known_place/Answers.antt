use Rattle.std.proofs.Common.{◌≡◌, ◌<◌, ◌∙◌, length, get_or, arith, rules}
use Rattle.std.proofs.lemmas.Grind.{common_steps}
use Rattle.enc_dict.proofs.Lent.{lent_at}
use Rattle.enc_dict.proofs.dictionary.known_place.Goals as goal

pub returns-in_default-3 : goal.returns-in_default-3
returns-in_default-3 c = grind (arith, common_steps)

pub returns-in-Some-Some : goal.returns-in-Some-Some
returns-in-Some-Some c =
    let value = c.in-Some-Some.value.now in
    let within : c.args.index < length c.args.values.now = search rules in
    let at : value ≡ get_or c.args.values.now c.args.index value = search rules in
    let same : value.now ≡ c.args.text.now = search rules in
    record {
      index = c.args.index;
      within = search rules;
      value_is = lent_at c.args.values.now c.args.index value c.args.text.now within at ∙ same;
      place_is = search rules;
    }
