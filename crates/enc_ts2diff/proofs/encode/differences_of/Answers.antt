use Rattle.std.proofs.Common.{◌≡◌, ℕ, ◌+◌, ◌<◌, ◌≤◌, List, [], ◌∷◌, ◌++◌, length, get_or, drop, ℤ, pos, ◌-ℤ◌, to_z, of_z, FitsSigned, rules, arith, ap, sym, ◌∙◌, append_assoc}
use Rattle.std.specs.Int.{w64, int_wrap}
use Rattle.std.proofs.lemmas.Int.{wraps, to_z-of_z}
use Rattle.std.proofs.lemmas.List.{drop_more, drop_all, append-nil}
use Rattle.enc_ts2diff.specs.Spelling.{differences}
use Rattle.enc_ts2diff.proofs.encode.differences_of.Goals as goal

moved : (out now : List ℤ) (p v step : ℤ) (i : ℕ) (values whole : List ℤ) → i < length values → get_or values i (pos 0) ≡ v → step ≡ int_wrap w64 (v -ℤ p) → now ≡ out ++ step ∷ []
    → out ++ differences p (drop i values) ≡ whole → now ++ differences v (drop (i + 1) values) ≡ whole
unfolding differences
moved out now p v step i values whole lt e s n so_far =
    let here : drop i values ≡ v ∷ drop (i + 1) values = drop_more values i (pos 0) lt ∙ ap (λ (t : ℤ). t ∷ drop (i + 1) values) e in
    ap (λ (t : List ℤ). t ++ differences v (drop (i + 1) values)) n
    ∙ append_assoc out (step ∷ []) (differences v (drop (i + 1) values))
    ∙ ap (λ (t : ℤ). out ++ t ∷ differences v (drop (i + 1) values)) s
    ∙ ap (λ (t : List ℤ). out ++ differences p t) (sym here)
    ∙ so_far

pub loop-value-preserved : goal.loop-value-preserved
unfolding int_wrap
loop-value-preserved c =
    let v = get_or c.args.values.now c.loop-value.value-index (pos 0) in
    let f : FitsSigned w64 v = search rules in
    let same : v ≡ to_z w64 (of_z w64 v) = sym (to_z-of_z w64 v f) in
    moved c.loop-value.steps.items c.push.new.self.items (to_z w64 c.loop-value.previous-bits) (to_z w64 (of_z w64 v)) _ c.loop-value.value-index c.args.values.now _ (omega arith) same (search (rules, wraps)) c.in_ok-push.ensures.items c.loop-value.invariant

at_the_end : (out : List ℤ) (p first : ℤ) (i : ℕ) (values : List ℤ) → length values ≤ i → out ++ differences p (drop i values) ≡ differences first values → out ≡ differences first values
unfolding differences
at_the_end out p first i values done so_far =
    sym (append-nil out) ∙ ap (λ (t : List ℤ). out ++ differences p t) (sym (drop_all i values done)) ∙ so_far

pub returns : goal.returns
returns c =
    let first = c.args.first in
    let same : to_z w64 (of_z w64 first) ≡ first = to_z-of_z w64 first c.ranges.first in
    at_the_end c.loop-value.steps.items (to_z w64 c.loop-value.previous-bits) first c.loop-value.value-index c.args.values.now (omega arith) (c.loop-value.invariant ∙ ap (λ (t : ℤ). differences t c.args.values.now) same)
