use Rattle.std.proofs.Common.{◌≡◌, ◌+◌, ◌<◌, [], ◌∷◌, ◌++◌, length, take, get_or, ap, ◌∙◌, refl, rules, arith}
use Rattle.std.proofs.lemmas.Grind.{common_steps}
use Rattle.std.proofs.lemmas.List.{take_more}
use Rattle.enc_dict.specs.Spelling.{first_uses, lent}
use Rattle.enc_dict.proofs.Different.{AllDiffer, using_none, using_old, using_new, all_differ, no_skip, used_all, texts_differ}
use Rattle.enc_dict.proofs.decode.texts_at.Goals as goal
use Rattle.enc_dict.proofs.decode.texts_at.Goals.{then-place-used-2, else-place-used-2}

pub returns-then-uses-texts-clause-bad : goal.returns-then-uses-texts-clause-bad
returns-then-uses-texts-clause-bad c = λ is_bad values is.
    let same = texts_differ c.args.texts.now c.args.places.now values is in
    let lent_is = ap lent c.deref.ensures.value ∙ c.in_ok-lent.ensures in
    absurd (omega (arith, c.if-uses-texts.true, c.in_ok-uses.ensures.different ∙ ap (λ t. length (first_uses t)) lent_is, same))

pub loop-place-init : goal.loop-place-init
loop-place-init c = using_none c.args.texts.now c.in_ok-values.values.items c.in_ok-values.ensures.items

pub returns-then-place-used-clause-bad : goal.returns-then-place-used-clause-bad
returns-then-place-used-clause-bad c = λ is_bad values is.
    let l = c.loop-place in
    let k = no_skip c.args.texts.now c.args.places.now l.place-index l.used (get_or c.args.places.now l.place-index 0) l.values.items values is l.invariant c.loop-place-test.true refl in
    absurd (omega (arith, k.0, c.if-place-used.true))

pub returns-in_default-clause-bad : goal.returns-in_default-clause-bad
returns-in_default-clause-bad c = λ is_bad values is.
    let l = c.loop-place in
    let k = no_skip c.args.texts.now c.args.places.now l.place-index l.used (get_or c.args.places.now l.place-index 0) l.values.items values is l.invariant c.loop-place-test.true refl in
    let within : get_or c.args.places.now l.place-index 0 < length c.args.texts.now = k.1 in
    search rules

pub loop-place-preserved : goal.loop-place-preserved
loop-place-preserved c =
    let l = c.loop-place in
    let texts = c.args.texts.now in
    let places = c.args.places.now in
    let place = get_or places l.place-index 0 in
    let lent_is = ap lent c.deref.ensures.value ∙ c.in_ok-lent.ensures in
    let differ : AllDiffer texts = all_differ texts (omega (arith, c.if-uses-texts.false, c.in_ok-uses.ensures.different ∙ ap (λ t. length (first_uses t)) lent_is)) in
    let within : place < length texts = search rules in
    let at : c.in-Some.text.now ≡ get_or texts place [] = search rules in
    let now : c.push.new.self.items ≡ l.values.items ++ c.in-Some.text.now ∷ [] = search rules in
    let more : take (l.place-index + 1) places ≡ take l.place-index places ++ place ∷ [] = take_more places l.place-index 0 c.loop-place-test.true in
    elim c.if-place-used-2.branch [
      | then-place-used-2 w ↦
          rw w.used-is (using_new texts (take l.place-index places) l.used place l.values.items c.push.new.self.items c.in-Some.text.now (take (l.place-index + 1) places) differ l.invariant w.if-place-used-2.true within at now more)
      | else-place-used-2 w ↦
          rw w.used-is (using_old texts (take l.place-index places) l.used place l.values.items c.push.new.self.items c.in-Some.text.now (take (l.place-index + 1) places) differ l.invariant (omega (arith, c.if-place-used.false, w.if-place-used-2.false)) within at now more)
    ]

pub returns-then-used-texts-clause-bad : goal.returns-then-used-texts-clause-bad
returns-then-used-texts-clause-bad c = λ is_bad values is.
    let l = c.loop-place in
    let all = used_all c.args.texts.now c.args.places.now l.place-index l.used l.values.items values is l.invariant (omega (arith, c.loop-place-test.false)) in
    absurd (omega (arith, all, c.if-used-texts.true))

pub returns-clause-found : goal.returns-clause-found
returns-clause-found c = grind (arith, common_steps)
