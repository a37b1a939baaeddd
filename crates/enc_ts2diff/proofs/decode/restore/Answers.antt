use Rattle.std.proofs.Common.{◌≡◌, ℕ, ◌+◌, ◌<◌, ◌≤◌, List, [], ◌∷◌, ◌++◌, length, get_or, take, drop, ℤ, pos, ◌+ℤ◌, to_z, of_z, FitsSigned, rules, arith, ap, sym, subst, ◌∙◌, append_assoc, refl}
use Rattle.std.specs.Int.{w64, int_wrap}
use Rattle.std.proofs.lemmas.Int.{wraps, to_z-of_z}
use Rattle.std.proofs.lemmas.List.{drop_more, drop_all, take_more, take_all, append-nil}
use Rattle.enc_ts2diff.specs.Steps.{Continues, Restores}
use Rattle.enc_ts2diff.proofs.Numbers.{next_value, no_value}
use Rattle.enc_ts2diff.proofs.Canonical.{restores_none, restores_push}
use Rattle.enc_ts2diff.proofs.decode.restore.Goals as goal

-- what the loop keeps of each list that may be meant
abbrev Follows : ℤ → ℤ → List ℕ → List ℤ → ℤ → List ℕ → Type 0
Follows base first above out previous left =
    (values : List ℤ) → Continues base first above values → (rest : List ℤ) × Continues base previous left rest × (first ∷ values ≡ out ++ rest)

here : (above : List ℕ) (i o : ℕ) → i < length above → o ≡ get_or above i 0 → drop i above ≡ o ∷ drop (i + 1) above
here above i o lt e = drop_more above i 0 lt ∙ ap (λ (t : ℕ). t ∷ drop (i + 1) above) (sym e)

moved : (base first previous step value : ℤ) (above : List ℕ) (i o : ℕ) (out now : List ℤ) → i < length above → o ≡ get_or above i 0 → step ≡ base +ℤ pos o → value ≡ int_wrap w64 (previous +ℤ step)
    → now ≡ out ++ value ∷ [] → Follows base first above out previous (drop i above) → Follows base first above now value (drop (i + 1) above)
moved base first previous step value above i o out now lt e s v n follows = λ values k.
    let f = follows values k in
    let p = next_value base previous o (drop (i + 1) above) f.0 (subst (λ (t : List ℕ). Continues base previous t f.0) (here above i o lt e) f.1) in
    let same : value ≡ p.value = v ∙ ap (λ (t : ℤ). int_wrap w64 (previous +ℤ t)) s ∙ sym p.value_is in
    let goes_on : Continues base value (drop (i + 1) above) p.rest = subst (λ (t : ℤ). Continues base t (drop (i + 1) above) p.rest) (sym same) p.goes_on in
    let whole : first ∷ values ≡ now ++ p.rest =
    f.2 ∙ ap (λ (t : List ℤ). out ++ t) (p.values-are ∙ ap (λ (t : ℤ). t ∷ p.rest) (sym same))
    ∙ sym (append_assoc out (value ∷ []) p.rest) ∙ ap (λ (t : List ℤ). t ++ p.rest) (sym n) in
    (p.rest, goes_on, whole)

-- an offset that leads out of 64 bits belongs to no list
none : (base first previous : ℤ) (above : List ℕ) (i o : ℕ) (out : List ℤ) → i < length above → o ≡ get_or above i 0 → (FitsSigned w64 (base +ℤ pos o) → ⊥)
    → Follows base first above out previous (drop i above) → (values : List ℤ) → Continues base first above values → ⊥
none base first previous above i o out lt e unfit follows = λ values k.
    let f = follows values k in
    let p = next_value base previous o (drop (i + 1) above) f.0 (subst (λ (t : List ℕ). Continues base previous t f.0) (here above i o lt e) f.1) in
    unfit p.fits

at_the_end : (base first previous : ℤ) (above : List ℕ) (i : ℕ) (out : List ℤ) → length above ≤ i → Follows base first above out previous (drop i above)
    → (values : List ℤ) → Continues base first above values → out ≡ first ∷ values
at_the_end base first previous above i out done follows = λ values k.
    let f = follows values k in
    let z = no_value base previous f.0 (subst (λ (t : List ℕ). Continues base previous t f.0) (drop_all i above done) f.1) in
    sym (f.2 ∙ ap (λ (t : List ℤ). out ++ t) z ∙ append-nil out)

-- as the code has an argument
as_passed : (z : ℤ) → FitsSigned w64 z → to_z w64 (of_z w64 z) ≡ z
as_passed z f = to_z-of_z w64 z f

passed : (base first base' first' : ℤ) (above : List ℕ) (values : List ℤ) → base' ≡ base → first' ≡ first → Continues base first above values → Continues base' first' above values
passed base first base' first' above values b f k = rw (b, f) k

pub returns-in_default-clause-finds : goal.returns-in_default-clause-finds
returns-in_default-clause-finds c =
    let l = c.loop-offset in
    let base = to_z w64 (of_z w64 c.args.base) in
    let first = to_z w64 (of_z w64 c.args.first) in
    λ values k. none base first (to_z w64 l.previous-bits) c.args.above.now l.offset-index _ l.values.items (omega arith) refl c.in_default.ensures l.invariant.follows values
    (passed c.args.base c.args.first base first c.args.above.now values (as_passed c.args.base c.ranges.base) (as_passed c.args.first c.ranges.first) k)

pub loop-offset-init : goal.loop-offset-init
loop-offset-init c =
    let base = to_z w64 (of_z w64 c.args.base) in
    let first = to_z w64 (of_z w64 c.args.first) in
    record {
      restores = restores_none base first c.push.new.self.items (search rules) (search rules);
      follows = search rules;
    }

pub loop-offset-preserved : goal.loop-offset-preserved
loop-offset-preserved c =
    let l = c.loop-offset in
    let base = to_z w64 (of_z w64 c.args.base) in
    let first = to_z w64 (of_z w64 c.args.first) in
    record {
      restores = restores_push base first (to_z w64 l.previous-bits) c.in-Some.step _ (take l.offset-index c.args.above.now) _ (take (l.offset-index + 1) c.args.above.now) l.values.items c.push-in-loop-offset.new.self.items l.invariant.restores
          c.in-Some.ensures.1 (search rules) (search (rules, wraps)) (search rules) c.in_ok-push-2.ensures.items (take_more c.args.above.now l.offset-index 0 (omega arith));
      follows = moved base first (to_z w64 l.previous-bits) c.in-Some.step _ c.args.above.now l.offset-index _ l.values.items c.push-in-loop-offset.new.self.items (omega arith) refl c.in-Some.ensures.1 (search (rules, wraps)) c.in_ok-push-2.ensures.items l.invariant.follows;
    }

pub returns-clause-finds : goal.returns-clause-finds
returns-clause-finds c =
    let l = c.loop-offset in
    let base = to_z w64 (of_z w64 c.args.base) in
    let first = to_z w64 (of_z w64 c.args.first) in
    λ values k. at_the_end base first (to_z w64 l.previous-bits) c.args.above.now l.offset-index l.values.items (omega arith) l.invariant.follows values
    (passed c.args.base c.args.first base first c.args.above.now values (as_passed c.args.base c.ranges.base) (as_passed c.args.first c.ranges.first) k)
    ∙ ap (λ (t : ℤ). t ∷ values) (as_passed c.args.first c.ranges.first)

pub returns-clause-found : goal.returns-clause-found
returns-clause-found c =
    let l = c.loop-offset in
    let base = to_z w64 (of_z w64 c.args.base) in
    let first = to_z w64 (of_z w64 c.args.first) in
    let all : take l.offset-index c.args.above.now ≡ c.args.above.now = take_all l.offset-index c.args.above.now (omega arith) in
    let r = subst (λ (t : List ℕ). Restores base first (to_z w64 l.previous-bits) t l.values.items) all l.invariant.restores in
    (to_z w64 l.previous-bits, rw (as_passed c.args.base c.ranges.base, as_passed c.args.first c.ranges.first) at r)
