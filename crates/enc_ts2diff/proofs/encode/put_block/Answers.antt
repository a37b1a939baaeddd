use Rattle.std.proofs.Common.{◌≡◌, ℕ, ◌-◌, ◌<◌, ◌≤◌, ◌^◌, List, [], ◌∷◌, ◌++◌, length, get_or, take, drop, to_z, of_z, ℤ, pos, All, FitsSigned, fold, max, rules, arith, ap, sym, subst, ◌∙◌, refl, append_assoc}
use Rattle.std.proofs.lemmas.Grind.{common_steps}
use Rattle.std.specs.Int.{w64}
use Rattle.std.proofs.lemmas.Int.{to_z-of_z}
use Rattle.std.proofs.lemmas.List.{nil_from_length, take_rest, append-nil}
use Rattle.tsdb_bits.specs.Packing.{binary_digits, pack_bytes}
use Rattle.tsdb_bits.specs.Leb.{leb}
use Rattle.tsdb_bits.specs.Zigzag.{zigzag}
use Rattle.enc_ts2diff.specs.Spelling.{least, offsets, offset_width, at_width, block}
use Rattle.enc_ts2diff.proofs.Numbers.{fits_width, width_within, least_of_fits, offsets-lt}
use Rattle.enc_ts2diff.proofs.encode.put_block.Goals as goal

no_block : (out : List ℕ) (steps : List ℤ) → steps ≡ [] → out ≡ out ++ block steps
unfolding block
no_block out steps e = rw e (sym (append-nil out))

pub returns-in_default-clause-ok : goal.returns-in_default-clause-ok
returns-in_default-clause-ok c = no_block c.args.into.now.items c.args.steps.now (nil_from_length c.args.steps.now (omega arith))

-- the least step and the offsets make the block
record IsBlock (base : ℤ) (above : List ℕ) (steps : List ℤ) : Type 0 where
  within : offset_width above ≤ 64
  whole : block steps ≡ leb (zigzag base) ++ at_width above

makes_block : (steps rest : List ℤ) (first base : ℤ) (above : List ℕ) → 1 ≤ length steps → All (FitsSigned w64) steps → first ≡ get_or steps 0 (pos 0) → rest ≡ take (length steps - 1) (drop 1 steps)
    → base ≡ least first rest → above ≡ offsets base steps → IsBlock base above steps
unfolding block
makes_block [] rest first base above some h f r b o = absurd (omega arith)
makes_block (x ∷ xs) rest first base above some h f r b o =
    let all : rest ≡ xs = r ∙ take_rest (x ∷ xs) 1 in
    let low : base ≡ least x xs = b ∙ ap (λ (t : ℤ). least t rest) f ∙ ap (λ (t : List ℤ). least x t) all in
    let os : above ≡ offsets (least x xs) (x ∷ xs) = o ∙ ap (λ (t : ℤ). offsets t (x ∷ xs)) low in
    record {
      within = rw os (width_within (offsets (least x xs) (x ∷ xs)) (offsets-lt (least x xs) (x ∷ xs) (least_of_fits x xs h) h));
      whole = ap (λ (t : List ℕ). leb (zigzag (least x xs)) ++ at_width t) (sym os) ∙ ap (λ (t : ℤ). leb (zigzag t) ++ at_width above) (sym low);
    }

as_passed : (z : ℤ) → FitsSigned w64 z → to_z w64 (of_z w64 z) ≡ z
as_passed z f = to_z-of_z w64 z f

digits_are : (base : ℤ) (above lent : List ℕ) (greatest digits : ℕ) → digits ≡ binary_digits greatest → greatest ≡ fold max 0 lent → lent ≡ above → digits ≡ offset_width above
digits_are base above lent greatest digits d g l = d ∙ ap binary_digits (g ∙ ap (fold max 0) l)

pub pack-requires-clause-width_fits : goal.pack-requires-clause-width_fits
pack-requires-clause-width_fits c =
    let steps = c.args.steps.now in
    let base = c.least_of-base.result in
    let first : FitsSigned w64 (get_or steps 0 (pos 0)) = search rules in
    let same : to_z w64 (of_z w64 base) ≡ base = as_passed base (search rules) in
    let k = makes_block steps (take (length steps - 1) (drop 1 steps)) (to_z w64 (of_z w64 (get_or steps 0 (pos 0)))) base c.in_ok-above.above.items c.in-len1-up.len_at_least
    c.requires (as_passed (get_or steps 0 (pos 0)) first) refl c.least_of-base.ensures (c.in_ok-above.ensures ∙ ap (λ (t : ℤ). offsets t steps) same) in
    rw (digits_are base c.in_ok-above.above.items c.deref.result.now c.greatest_or_zero.result c.width-digits.result c.width-digits.ensures c.greatest_or_zero.ensures c.deref.ensures.value) k.within

pub pack-requires-clause-values_fit : goal.pack-requires-clause-values_fit
pack-requires-clause-values_fit c =
    let above = c.in_ok-above.above.items in
    let d = digits_are c.least_of-base.result above c.deref.result.now c.greatest_or_zero.result c.width-digits.result c.width-digits.ensures c.greatest_or_zero.ensures c.deref.ensures.value in
    subst (λ (t : List ℕ). All (λ v. v < 2 ^ c.width-digits.result) t) (sym c.deref-2.ensures.value)
    (subst (λ (t : ℕ). All (λ v. v < 2 ^ t) above) (sym d) (fits_width above))

joined_up : (into o1 o2 o3 above lent : List ℕ) (base base' : ℤ) (z digits : ℕ) (steps : List ℤ) → IsBlock base above steps → o1 ≡ into ++ leb z → z ≡ zigzag base' → base' ≡ base → o2 ≡ o1 ++ digits ∷ [] → digits ≡ offset_width above → lent ≡ above
    → o3 ≡ o2 ++ pack_bytes digits lent → o3 ≡ into ++ block steps
joined_up into o1 o2 o3 above lent base base' z digits steps k e1 ez eb e2 ed el e3 =
    e3 ∙ ap (λ (t : List ℕ). t ++ pack_bytes digits lent) (e2 ∙ ap (λ (t : List ℕ). t ++ digits ∷ []) (e1 ∙ ap (λ (t : ℕ). into ++ leb t) (ez ∙ ap zigzag eb)))
    ∙ append_assoc (into ++ leb (zigzag base)) (digits ∷ []) (pack_bytes digits lent)
    ∙ append_assoc into (leb (zigzag base)) (digits ∷ pack_bytes digits lent)
    ∙ ap (λ (t : List ℕ). into ++ (leb (zigzag base) ++ digits ∷ pack_bytes digits t)) el
    ∙ ap (λ (t : ℕ). into ++ (leb (zigzag base) ++ t ∷ pack_bytes t above)) ed
    ∙ ap (λ (t : List ℕ). into ++ t) (sym k.whole)

pub returns-clause-ok : goal.returns-clause-ok
returns-clause-ok c =
    let steps = c.args.steps.now in
    let base = c.least_of-base.result in
    let first : FitsSigned w64 (get_or steps 0 (pos 0)) = search rules in
    let same : to_z w64 (of_z w64 base) ≡ base = as_passed base (search rules) in
    let k = makes_block steps (take (length steps - 1) (drop 1 steps)) (to_z w64 (of_z w64 (get_or steps 0 (pos 0)))) base c.in_ok-above.above.items c.in-len1-up.len_at_least
    c.requires (as_passed (get_or steps 0 (pos 0)) first) refl c.least_of-base.ensures (c.in_ok-above.ensures ∙ ap (λ (t : ℤ). offsets t steps) same) in
    let d = digits_are base c.in_ok-above.above.items c.deref.result.now c.greatest_or_zero.result c.width-digits.result c.width-digits.ensures c.greatest_or_zero.ensures c.deref.ensures.value in
    joined_up c.args.into.now.items c.put_leb.new.into.items c.push.new.self.items c.pack.new.into.items c.in_ok-above.above.items c.deref-2.result.now base (to_z w64 (of_z w64 base)) c.zigzag.result c.width-digits.result steps
    k c.in_ok-put_leb.ensures.ok c.zigzag.ensures same c.in_ok-push.ensures.items d c.deref-2.ensures.value c.in_ok-pack.ensures.ok

pub returns-in_default-clause-kept : goal.returns-in_default-clause-kept
returns-in_default-clause-kept c = grind (arith, common_steps)

pub returns-in_err-above-clause-kept : goal.returns-in_err-above-clause-kept
returns-in_err-above-clause-kept c = grind (arith, common_steps)

pub returns-in_err-put_leb-clause-kept : goal.returns-in_err-put_leb-clause-kept
returns-in_err-put_leb-clause-kept c = grind (arith, common_steps)

pub returns-in_err-push-clause-kept : goal.returns-in_err-push-clause-kept
returns-in_err-push-clause-kept c = grind (arith, common_steps)

pub returns-in_err-pack-clause-kept : goal.returns-in_err-pack-clause-kept
returns-in_err-pack-clause-kept c = grind (arith, common_steps)

pub returns-clause-kept : goal.returns-clause-kept
returns-clause-kept c = grind (arith, common_steps)
