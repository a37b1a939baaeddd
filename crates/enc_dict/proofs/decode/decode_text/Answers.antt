use Rattle.std.proofs.Common.{◌≡◌, ◌<◌, ℕ, List, [], ◌++◌, Err, length, ap, ◌∙◌, rules, arith}
use Rattle.std.proofs.lemmas.List.{append-nil, nil_from_length}
use Rattle.std.proofs.lemmas.List.Elements.{All-nil}
use Rattle.std.proofs.lemmas.Result.{err_from_is_err_and, IfOk-weaker}
use Rattle.tsdb_base.specs.declared.fault.DecodeFault.TheVariants.{Bad}
use Rattle.tsdb_base.specs.Plain.{IsText}
use Rattle.tsdb_bits.specs.Leb.{leb}
use Rattle.tsdb_bits.specs.Lists.{IsSpelling, IsOnly}
use Rattle.tsdb_bits.proofs.ListLaws.{only_found}
use Rattle.enc_dict.specs.Spelling.{spelling}
use Rattle.enc_dict.specs.Steps.{AreUses}
use Rattle.enc_dict.proofs.SpellingLaws.{tail_of, spelling-tail, nothing_behind, no_parts, uses_back, is_spelling, same_from_spelling}
use Rattle.enc_dict.proofs.decode.decode_text.Goals as goal

pub returns-in_err-count-clause-bad : goal.returns-in_err-count-clause-bad
returns-in_err-count-clause-bad c = λ is_bad values is.
    c.in_err-count.ensures.none (length values) (tail_of values) is.list.few (is.bytes_are ∙ spelling-tail values)

pub returns-then-not-is_empty-clause-bad : goal.returns-then-not-is_empty-clause-bad
returns-then-not-is_empty-clause-bad c = λ is_bad values is.
    let none = ap length (nothing_behind values c.in_ok-count.count c.args.bytes.now c.in_ok-count.rest.now c.if-count-eq0.true c.in_ok-count.ensures.found is.bytes_are) in
    search rules

pub returns-then-count-eq0-clause-found : goal.returns-then-count-eq0-clause-found
unfolding spelling
returns-then-count-eq0-clause-found c =
    let none : length c.in_ok-count.rest.now ≡ 0 = search rules in
    let items : c.new.result.items ≡ [] = c.new.ensures.items in
    let empty = empty_rest c.in_ok-count.rest.now none in
    rw items (record {
      list = record { few = omega arith; typed = All-nil IsText };
      bytes_are = c.in_ok-count.ensures.found ∙ ap (λ (n : ℕ). leb n ++ c.in_ok-count.rest.now) c.if-count-eq0.true ∙ ap (λ (t : List ℕ). leb 0 ++ t) empty ∙ append-nil (leb 0);
    })
  where
    empty_rest : (rest : List ℕ) → length rest ≡ 0 → rest ≡ []
    empty_rest rest e = nil_from_length rest e

pub returns-then-count-eq0-clause-only : goal.returns-then-count-eq0-clause-only
returns-then-count-eq0-clause-only c =
    only_found spelling IsText same_from_spelling c.args.bytes.now c.new.result.items (returns-then-count-eq0-clause-found c)

pub returns-in_err-read-clause-bad : goal.returns-in_err-read-clause-bad
returns-in_err-read-clause-bad c = λ is_bad values is.
    let p = err_from_is_err_and c.from_residual-in_err-read.result c.from_residual-in_err-read.ensures.1 in
    let passed_on = rw (p.1, p.2) at is_bad in
    let bad_there : c.in_err-read.field-0.0 ≡ Bad = cc in
    let some : 0 < c.in_ok-count.count = omega (arith, c.if-count-eq0.false) in
    no_parts values c.in_ok-count.count c.args.bytes.now c.in_ok-count.rest.now is some c.in_ok-count.ensures.found (c.in_err-read.ensures.bad (ap (λ x. Err x) bad_there))

pub returns-clause-found : goal.returns-clause-found
returns-clause-found c =
    let some : 0 < c.in_ok-count.count = omega (arith, c.if-count-eq0.false) in
    let texts = c.in_ok-read.read.texts.items in
    let places = c.in_ok-read.read.places.items in
    let found = rw (c.deref.ensures.value, c.deref-2.ensures.value) at c.texts_at.ensures.found in
    IfOk-weaker c.texts_at.result (λ values. AreUses texts places values.items) (λ values. IsSpelling spelling IsText c.args.bytes.now values.items)
    (λ values is. is_spelling values.items texts places c.in_ok-count.count c.args.bytes.now c.in_ok-count.rest.now some c.in_ok-count.ensures.few c.in_ok-count.ensures.found c.in_ok-read.ensures.found c.in_ok-read.ensures.are is) found

pub returns-clause-only : goal.returns-clause-only
returns-clause-only c =
    IfOk-weaker c.texts_at.result (λ values. IsSpelling spelling IsText c.args.bytes.now values.items) (λ values. IsOnly spelling IsText c.args.bytes.now values.items)
    (λ values is. only_found spelling IsText same_from_spelling c.args.bytes.now values.items is) (returns-clause-found c)

pub returns-clause-bad : goal.returns-clause-bad
returns-clause-bad c = λ is_bad values is.
    let some : 0 < c.in_ok-count.count = omega (arith, c.if-count-eq0.false) in
    let texts = c.in_ok-read.read.texts.items in
    let places = c.in_ok-read.read.places.items in
    let uses = uses_back values texts places c.in_ok-count.count c.args.bytes.now c.in_ok-count.rest.now some c.in_ok-count.ensures.found c.in_ok-read.ensures.found c.in_ok-read.ensures.are is in
    c.texts_at.ensures.bad is_bad values (rw (c.deref.ensures.value, c.deref-2.ensures.value) uses)
