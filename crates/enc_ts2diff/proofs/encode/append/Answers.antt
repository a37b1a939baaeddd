use Rattle.std.proofs.Common.{◌≡◌, ℕ, ◌-◌, ◌<◌, ◌≤◌, List, [], ◌∷◌, ◌++◌, length, get_or, take, drop, to_z, of_z, ℤ, pos, All, FitsSigned, rules, arith, ap, sym, subst, ◌∙◌, refl, append_assoc}
use Rattle.std.proofs.lemmas.Grind.{common_steps, elements}
use Rattle.std.specs.Int.{w64}
use Rattle.std.proofs.lemmas.Int.{to_z-of_z}
use Rattle.std.proofs.lemmas.List.{take_rest, append-nil}
use Rattle.tsdb_bits.specs.Leb.{leb}
use Rattle.tsdb_bits.specs.Zigzag.{zigzag}
use Rattle.enc_ts2diff.specs.Spelling.{differences, block, values_content, spelling}
use Rattle.enc_ts2diff.proofs.Numbers.{differences_fit}
use Rattle.enc_ts2diff.proofs.encode.append.Goals as goal

spells_none : (out o0 o1 : List ℕ) (values : List ℤ) → length values < 1 → o1 ≡ o0 ++ leb (length values) → out ≡ o1 → out ≡ o0 ++ spelling values
unfolding spelling values_content
spells_none out o0 o1 [] lt e1 e = e ∙ e1 ∙ ap (λ (t : List ℕ). o0 ++ t) (sym (append-nil (leb 0)))
spells_none out o0 o1 (x ∷ xs) lt e1 e = absurd (omega arith)

spells_some : (out o0 o1 o2 o3 : List ℕ) (values rest steps lent : List ℤ) (first : ℤ) (z : ℕ) → 1 ≤ length values → o1 ≡ o0 ++ leb (length values) → o2 ≡ o1 ++ leb z → z ≡ zigzag first → first ≡ get_or values 0 (pos 0)
    → rest ≡ take (length values - 1) (drop 1 values) → steps ≡ differences first rest → lent ≡ steps → o3 ≡ o2 ++ block lent → out ≡ o3 → out ≡ o0 ++ spelling values
unfolding spelling values_content
spells_some out o0 o1 o2 o3 [] rest steps lent first z some e1 e2 ez ef er es el e3 e = absurd (omega arith)
spells_some out o0 o1 o2 o3 (x ∷ xs) rest steps lent first z some e1 e2 ez ef er es el e3 e =
    let n = length (x ∷ xs) in
    let s : lent ≡ differences x xs = el ∙ es ∙ ap (λ (t : ℤ). differences t rest) ef ∙ ap (λ (t : List ℤ). differences x t) (er ∙ take_rest (x ∷ xs) 1) in
    let two : o2 ≡ (o0 ++ leb n) ++ leb (zigzag x) = e2 ∙ ap (λ (t : List ℕ). t ++ leb z) e1 ∙ ap (λ (t : ℕ). (o0 ++ leb n) ++ leb t) (ez ∙ ap zigzag ef) in
    e ∙ e3 ∙ ap (λ (t : List ℕ). t ++ block lent) two ∙ ap (λ (t : List ℤ). ((o0 ++ leb n) ++ leb (zigzag x)) ++ block t) s
    ∙ append_assoc (o0 ++ leb n) (leb (zigzag x)) (block (differences x xs)) ∙ append_assoc o0 (leb n) (leb (zigzag x) ++ block (differences x xs))

pub put_block-requires : goal.put_block-requires
put_block-requires c =
    let e : c.deref.result.now ≡ differences (to_z w64 (of_z w64 (get_or c.args.values.now 0 (pos 0)))) (take (length c.args.values.now - 1) (drop 1 c.args.values.now)) = c.deref.ensures.value ∙ c.in_ok-steps.ensures in
    subst (λ (t : List ℤ). All (FitsSigned w64) t) (sym e) (differences_fit (to_z w64 (of_z w64 (get_or c.args.values.now 0 (pos 0)))) (take (length c.args.values.now - 1) (drop 1 c.args.values.now)))

pub returns-in_default-clause-ok : goal.returns-in_default-clause-ok
returns-in_default-clause-ok c = spells_none c.put_leb.new.into.items c.args.into.now.items c.put_leb.new.into.items c.args.values.now c.in_default.len_below c.in_ok-put_leb.ensures.ok refl

pub returns-in_ok-put_block-clause-ok : goal.returns-in_ok-put_block-clause-ok
returns-in_ok-put_block-clause-ok c =
    let values = c.args.values.now in
    let first = get_or values 0 (pos 0) in
    spells_some c.put_block.new.into.items c.args.into.now.items _ _ c.put_block.new.into.items values (take (length values - 1) (drop 1 values)) c.in_ok-steps.steps.items c.deref.result.now (to_z w64 (of_z w64 first)) c.zigzag.result c.in-len1-up.len_at_least c.in_ok-put_leb.ensures.ok
    c.in_ok-put_leb-2.ensures.ok c.zigzag.ensures (to_z-of_z w64 first (search rules)) refl c.in_ok-steps.ensures c.deref.ensures.value c.in_ok-put_block.ensures.ok refl

pub returns-in_err-put_leb-clause-kept : goal.returns-in_err-put_leb-clause-kept
returns-in_err-put_leb-clause-kept c = grind (arith, common_steps)

pub returns-in_err-put_leb-2-clause-kept : goal.returns-in_err-put_leb-2-clause-kept
returns-in_err-put_leb-2-clause-kept c = grind (arith, common_steps)

pub returns-in_err-steps-clause-kept : goal.returns-in_err-steps-clause-kept
returns-in_err-steps-clause-kept c = grind (arith, common_steps)

pub returns-in_err-put_block-clause-kept : goal.returns-in_err-put_block-clause-kept
returns-in_err-put_block-clause-kept c = grind (arith, elements)

pub returns-in_default-clause-kept : goal.returns-in_default-clause-kept
returns-in_default-clause-kept c = grind (arith, common_steps)

pub returns-in_ok-put_block-clause-kept : goal.returns-in_ok-put_block-clause-kept
returns-in_ok-put_block-clause-kept c = grind (arith, common_steps)
