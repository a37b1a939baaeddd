use Rattle.std.proofs.Common.{◌≡◌, ◌+◌, take, ◌++◌, ◌∷◌, [], ◌∙◌, arith}
use Rattle.std.proofs.lemmas.Grind.{common_steps}
use Rattle.std.proofs.lemmas.Option.{IfSome_then}
use Rattle.enc_dict.specs.Spelling.{first_uses, lent}
use Rattle.enc_dict.proofs.DictionaryLaws.{empty_dictionary, known_is_place}
use Rattle.enc_dict.proofs.Lent.{length-lent, lent_more}
use Rattle.enc_dict.proofs.FirstUses.{first_uses_push, numbered_none, numbered_push}
use Rattle.enc_dict.proofs.encode.uses_of.Goals as goal

pub loop-text-init : goal.loop-text-init
loop-text-init c = record {
  numbered = rw (c.new-texts.ensures.items, c.in_ok-places.ensures.items) numbered_none;
  dictionary = empty_dictionary c.new-dictionary.result c.new-dictionary.ensures.empty c.new-dictionary.ensures.len;
}

pub loop-text-preserved : goal.loop-text-preserved
loop-text-preserved c =
    let l = c.loop-text in
    let values = lent c.args.values.now in
    let t = c.text-item.result.now in
    let xs = take l.text-index values in
    let more : take (l.text-index + 1) values ≡ xs ++ t ∷ [] = lent_more c.args.values.now l.text-index c.text-item.result c.loop-text-test.true c.text-item.is in
    let known = IfSome_then c.known_place-known.result c.known_place-known.ensures
    (λ place is. known_is_place values l.text-index c.deref.result.now t place (omega (arith, length-lent c.args.values.now, c.loop-text-test.true)) (c.deref.ensures.value ∙ l.invariant.numbered.places_are) is) in
    let enters = c.in_ok-place.ensures (first_uses xs) l.invariant.dictionary known in
    record {
      numbered = rw more (numbered_push t c.in_ok-place.place c.in_ok-place.is_new l.texts.items c.put_first_use.new.into.items l.places.items c.push.new.self.items xs l.invariant.numbered enters.place_is enters.new_is
          c.in_ok-put_first_use.ensures c.in_ok-push.ensures.items);
      dictionary = rw (more, first_uses_push xs t) enters.dictionary_is;
    }

pub returns-clause-different : goal.returns-clause-different
returns-clause-different c = grind (arith, common_steps, length-lent c.args.values.now)

pub returns-clause-texts : goal.returns-clause-texts
returns-clause-texts c = grind (arith, common_steps, length-lent c.args.values.now)

pub returns-clause-places : goal.returns-clause-places
returns-clause-places c = grind (arith, common_steps, length-lent c.args.values.now)
