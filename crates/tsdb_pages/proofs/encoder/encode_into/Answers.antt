use Rattle.std.proofs.Common.{◌≡◌, ℕ, List, ◌++◌, ap, ◌∙◌, rules}
use Rattle.std.proofs.lemmas.Result.{IfOk-equal}
use Rattle.tsdb_base.specs.declared.value.DataType.TheVariants.{Boolean}
use Rattle.tsdb_bits.specs.Zigzag.{zigzag}
use Rattle.enc_rle.specs.Spelling as rle
use Rattle.enc_ts2diff.specs.Spelling as ts2diff
use Rattle.enc_dict.specs.Spelling as dict
use Rattle.tsdb_pages.proofs.OneType.{truths_spell, integers_spell, differences_spell, texts_spell}
use Rattle.tsdb_pages.proofs.encoder.encode_into.Goals as goal

pub returns-in_ok-truths-in-Rle-clause-ok : goal.returns-in_ok-truths-in-Rle-clause-ok
returns-in_ok-truths-in-Rle-clause-ok g c =
    let is_boolean : c.args.data_type ≡ Boolean = search rules in
    let same = ap (rle.spelling rle.bool_code) (c.deref.ensures.value ∙ c.in_ok-truths-in-Rle.ensures) ∙ truths_spell g.T.HasValue.value_of c.args.encoding c.args.items.now c.in-Rle.is (λ k d lt. c.requires.typed k d lt ∙ is_boolean) in
    IfOk-equal c.encode_bool_into.result _ _ _ c.encode_bool_into.ensures.ok (ap (λ (t : List ℕ). c.args.into.now.items ++ t) same)

pub returns-in_ok-integers-in-Rle-2-clause-ok : goal.returns-in_ok-integers-in-Rle-2-clause-ok
returns-in_ok-integers-in-Rle-2-clause-ok g c =
    let other : c.args.data_type ≡ Boolean → ⊥ = search rules in
    let same = ap (rle.spelling zigzag) (c.deref-in-Rle-2.ensures.value ∙ c.in_ok-integers-in-Rle-2.ensures)
    ∙ integers_spell g.T.HasValue.value_of c.args.data_type c.args.encoding c.args.items.now c.in-Rle-2.is c.requires.suits other c.requires.typed in
    IfOk-equal c.encode_i64_into.result _ _ _ c.encode_i64_into.ensures.ok (ap (λ (t : List ℕ). c.args.into.now.items ++ t) same)

pub returns-in_ok-integers-in-Ts2diff-clause-ok : goal.returns-in_ok-integers-in-Ts2diff-clause-ok
returns-in_ok-integers-in-Ts2diff-clause-ok g c =
    let same = ap ts2diff.spelling (c.deref-in-Ts2diff.ensures.value ∙ c.in_ok-integers-in-Ts2diff.ensures) ∙ differences_spell g.T.HasValue.value_of c.args.encoding c.args.items.now c.in-Ts2diff.is in
    IfOk-equal c.encode_i64_into-in-Ts2diff.result _ _ _ c.encode_i64_into-in-Ts2diff.ensures.ok (ap (λ (t : List ℕ). c.args.into.now.items ++ t) same)

pub returns-in_ok-texts-in-Dictionary-clause-ok : goal.returns-in_ok-texts-in-Dictionary-clause-ok
returns-in_ok-texts-in-Dictionary-clause-ok g c =
    let same = ap dict.spelling (ap dict.lent c.deref-in-Dictionary.ensures.value ∙ c.in_ok-texts-in-Dictionary.ensures) ∙ texts_spell g.T.HasValue.value_of c.args.encoding c.args.items.now c.in-Dictionary.is in
    IfOk-equal c.encode_text_into.result _ _ _ c.encode_text_into.ensures.ok (ap (λ (t : List ℕ). c.args.into.now.items ++ t) same)
