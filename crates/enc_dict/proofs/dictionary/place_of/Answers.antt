use Rattle.std.proofs.Common.{◌≡◌, None, Some, rules, arith, sym, ◌∙◌}
use Rattle.enc_dict.proofs.DictionaryLaws.{enters_new, enters_again, some_place, place_missing}
use Rattle.enc_dict.proofs.dictionary.place_of.Goals as goal

pub returns-in_default-2 : goal.returns-in_default-2
returns-in_default-2 c = λ texts is known.
    let text = c.args.text.now in
    let none : c.in_ok-place.field-0 ≡ None = search rules in
    let size = rw none at c.in_ok-place.ensures.len in
    enters_new texts text c.len-behind.result c.args.dictionary.now c.insert.new.self is (place_missing texts text (sym (is.places text) ∙ sym c.in_ok-place.ensures.old ∙ none)) c.len-behind.ensures.len size
    c.in_ok-place.ensures.updates

pub returns : goal.returns
returns c = λ texts is known.
    let text = c.args.text.now in
    let place = c.in-Some-2.place in
    let some : c.in_ok-place.field-0 ≡ Some place = c.in-Some-2.is in
    let first = rw some at c.in_ok-place.ensures.len in
    let found = c.in_ok-insert.ensures.old ∙ c.in_ok-place.ensures.updates.1 in
    let second = rw found at c.in_ok-insert.ensures.len in
    enters_again texts text c.len-behind.result place c.args.dictionary.now c.insert.new.self c.insert-2.new.self is (some_place texts text place (sym (is.places text) ∙ sym c.in_ok-place.ensures.old ∙ some)) (omega (arith, second, first))
    c.in_ok-place.ensures.updates c.in_ok-insert.ensures.updates
