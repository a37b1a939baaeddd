use Rattle.std.proofs.Common.{◌≡◌, ℕ, ◌-◌, List, ◌++◌, Err, length, sym, ap, ◌∙◌, arith}
use Rattle.std.specs.List.{flat_map}
use Rattle.std.proofs.lemmas.Result.{err_from_is_err_and}
use Rattle.tsdb_base.specs.declared.fault.DecodeFault.TheVariants.{Bad}
use Rattle.tsdb_base.specs.Plain.{plain_text}
use Rattle.tsdb_bits.specs.Leb.{leb}
use Rattle.tsdb_bits.specs.Packing.{pack_bytes, binary_digits}
use Rattle.enc_dict.specs.Spelling.{place_width}
use Rattle.enc_dict.proofs.SpellingLaws.{width_fits, texts_behind, packed_behind}
use Rattle.enc_dict.proofs.decode.parts_of.Goals as goal

pub returns-in_err-different-clause-bad : goal.returns-in_err-different-clause-bad
returns-in_err-different-clause-bad c = λ is_bad texts places are whole.
    c.in_err-different.ensures.none (length texts) (flat_map plain_text texts ++ pack_bytes (place_width (length texts)) places) (omega (arith, are.few, c.requires)) whole

pub returns-then-different-count-clause-bad : goal.returns-then-different-count-clause-bad
returns-then-different-count-clause-bad c = λ is_bad texts places are whole.
    let behind = texts_behind texts places c.in_ok-different.different c.args.bytes.now c.in_ok-different.rest.now c.in_ok-different.ensures.found whole in
    absurd (omega (arith, behind.0, are.few, c.if-different-count.true))

pub returns-in_err-texts-clause-bad : goal.returns-in_err-texts-clause-bad
returns-in_err-texts-clause-bad c = λ is_bad texts places are whole.
    let p = err_from_is_err_and c.from_residual-in_err-texts.result c.from_residual-in_err-texts.ensures.1 in
    let passed_on = rw (p.1, p.2) at is_bad in
    let bad_there : c.in_err-texts.field-0.0 ≡ Bad = cc in
    let behind = texts_behind texts places c.in_ok-different.different c.args.bytes.now c.in_ok-different.rest.now c.in_ok-different.ensures.found whole in
    c.in_err-texts.ensures.bad (ap (λ x. Err x) bad_there) texts (pack_bytes (place_width (length texts)) places) (behind.0, are.typed) behind.1

pub take_packed-requires-clause-width_fits : goal.take_packed-requires-clause-width_fits
take_packed-requires-clause-width_fits c = rw (c.width.ensures, c.saturating_sub.ensures) (width_fits c.in_ok-different.different (omega arith))

pub returns-in_err-places-clause-bad : goal.returns-in_err-places-clause-bad
returns-in_err-places-clause-bad c = λ is_bad texts places are whole.
    let p = err_from_is_err_and c.from_residual-in_err-places.result c.from_residual-in_err-places.ensures.1 in
    let passed_on = rw (p.1, p.2) at is_bad in
    let bad_there : c.in_err-places.field-0.0 ≡ Bad = cc in
    let behind = packed_behind texts c.in_ok-texts.texts.items places c.in_ok-different.different c.args.bytes.now c.in_ok-different.rest.now c.in_ok-texts.rest.now
    c.in_ok-different.ensures.found c.in_ok-texts.ensures.found c.in_ok-texts.ensures.count c.in_ok-texts.ensures.values are.typed whole in
    let number = texts_behind texts places c.in_ok-different.different c.args.bytes.now c.in_ok-different.rest.now c.in_ok-different.ensures.found whole in
    let wide : c.width.result ≡ place_width (length texts) = c.width.ensures ∙ ap binary_digits (c.saturating_sub.ensures ∙ ap (λ n. n - 1) (sym number.0)) in
    c.in_err-places.ensures.bad (ap (λ x. Err x) bad_there) places (record { size = are.size; below = rw wide are.fit; bytes_are = behind ∙ ap (λ n. pack_bytes n places) (sym wide) })

-- as wide as the places of the texts that were read
wide_as : (width different : ℕ) (number : ℕ) → width ≡ binary_digits (different - 1) → number ≡ different → width ≡ place_width number
wide_as width different number e same = e ∙ ap (λ n. binary_digits (n - 1)) (sym same)

pub returns-clause-found : goal.returns-clause-found
returns-clause-found c =
    let texts = c.in_ok-texts.texts.items in
    let places = c.in_ok-places.places.items in
    let wide = wide_as c.width.result c.in_ok-different.different (length texts) (c.width.ensures ∙ ap binary_digits c.saturating_sub.ensures) c.in_ok-texts.ensures.count in
    c.in_ok-different.ensures.found ∙ ap (λ (n : ℕ). leb n ++ c.in_ok-different.rest.now) (sym c.in_ok-texts.ensures.count)
    ∙ ap (λ (t : List ℕ). leb (length texts) ++ t) (c.in_ok-texts.ensures.found ∙ ap (λ (t : List ℕ). flat_map plain_text texts ++ t) (c.in_ok-places.ensures.found.bytes_are ∙ ap (λ n. pack_bytes n places) wide))

pub returns-clause-are : goal.returns-clause-are
returns-clause-are c =
    let texts = c.in_ok-texts.texts.items in
    let wide = wide_as c.width.result c.in_ok-different.different (length texts) (c.width.ensures ∙ ap binary_digits c.saturating_sub.ensures) c.in_ok-texts.ensures.count in
    record {
      few = omega (arith, c.in_ok-texts.ensures.count, c.if-different-count.false);
      size = c.in_ok-places.ensures.found.size;
      typed = c.in_ok-texts.ensures.values;
      fit = rw (← wide) c.in_ok-places.ensures.found.below;
    }
