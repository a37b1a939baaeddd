use Rattle.std.proofs.Common.{◌≡◌, ℕ, ◌<◌, List, ◌++◌, length, ap, sym, ◌∙◌, arith, rules}
use Rattle.std.proofs.lemmas.Grind.{common_steps}
use Rattle.std.specs.Prelude.{map}
use Rattle.std.specs.List.{flat_map}
use Rattle.tsdb_bits.specs.Leb.{leb}
use Rattle.tsdb_bits.specs.Packing.{pack_bytes}
use Rattle.tsdb_base.specs.Plain.{plain_text}
use Rattle.enc_dict.specs.Spelling.{first_uses, lent, place_in, place_width}
use Rattle.enc_dict.proofs.FirstUses.{length-first_uses}
use Rattle.enc_dict.proofs.Lent.{length-lent}
use Rattle.enc_dict.proofs.SpellingLaws.{spelling-none, spelling-some, places_fit, width_fits, put_together}
use Rattle.enc_dict.proofs.encode.append.Goals as goal

pub returns-then-is_empty-clause-ok : goal.returns-then-is_empty-clause-ok
returns-then-is_empty-clause-ok c =
    let values = lent c.args.values.now in
    let empty : length c.args.values.now ≡ 0 = search rules in
    c.in_ok-put_leb.ensures.ok ∙ ap (λ (bytes : List ℕ). c.args.into.now.items ++ bytes) (ap leb (sym (length-lent c.args.values.now)) ∙ sym (spelling-none values (length-lent c.args.values.now ∙ empty)))

pub pack-requires-clause-width_fits : goal.pack-requires-clause-width_fits
pack-requires-clause-width_fits c =
    rw (c.width.ensures, c.saturating_sub.ensures, c.in_ok-uses.ensures.different) (width_fits (length (first_uses (lent c.args.values.now))) (omega (arith, length-first_uses (lent c.args.values.now), length-lent c.args.values.now, c.requires)))

pub pack-requires-clause-values_fit : goal.pack-requires-clause-values_fit
pack-requires-clause-values_fit c =
    rw (c.width.ensures, c.saturating_sub.ensures, c.in_ok-uses.ensures.different, c.deref-2.ensures.value, c.in_ok-uses.ensures.places) (places_fit (lent c.args.values.now))

pub returns-clause-ok : goal.returns-clause-ok
returns-clause-ok c =
    let values = lent c.args.values.now in
    let some : 0 < length c.args.values.now = search rules in
    rw (
      c.in_ok-pack.ensures.ok,
      c.in_ok-extend_from_slice.ensures.items,
      c.in_ok-put_leb-2.ensures.ok,
      c.in_ok-put_leb.ensures.ok,
      c.deref.ensures.value,
      c.deref-2.ensures.value,
      c.width.ensures,
      c.saturating_sub.ensures,
      c.in_ok-uses.ensures.different,
      c.in_ok-uses.ensures.texts,
      c.in_ok-uses.ensures.places,
      sym (length-lent c.args.values.now),
    )
    (put_together c.args.into.now.items (leb (length values)) (flat_map plain_text (first_uses values)) (pack_bytes (place_width (length (first_uses values))) (map (place_in (first_uses values)) values)) (leb (length (first_uses values)))
    ∙ ap (λ (bytes : List ℕ). c.args.into.now.items ++ bytes) (sym (spelling-some values (omega (arith, length-lent c.args.values.now, some)))))

pub returns-in_err-put_leb-clause-kept : goal.returns-in_err-put_leb-clause-kept
returns-in_err-put_leb-clause-kept c = grind (arith, common_steps)

pub returns-then-is_empty-clause-kept : goal.returns-then-is_empty-clause-kept
returns-then-is_empty-clause-kept c = grind (arith, common_steps)

pub returns-in_err-uses-clause-kept : goal.returns-in_err-uses-clause-kept
returns-in_err-uses-clause-kept c = grind (arith, common_steps)

pub returns-in_err-put_leb-2-clause-kept : goal.returns-in_err-put_leb-2-clause-kept
returns-in_err-put_leb-2-clause-kept c = grind (arith, common_steps)

pub returns-in_err-pack-clause-kept : goal.returns-in_err-pack-clause-kept
returns-in_err-pack-clause-kept c = grind (arith, common_steps)

pub returns-clause-kept : goal.returns-clause-kept
returns-clause-kept c = grind (arith, common_steps)
