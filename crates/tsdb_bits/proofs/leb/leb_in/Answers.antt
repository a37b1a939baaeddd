use Rattle.std.proofs.Common.{◌≡◌, ◌+◌, ◌-◌, ◌*◌, ◌%◌, ◌^◌, ◌<◌, ◌++◌, ℕ, drop, rules, arith, ap, sym, subst, ◌∙◌, inl, inr}
use Rattle.std.proofs.lemmas.Grind.{common_steps}
use Rattle.std.proofs.lemmas.Nat.{shl_whole}
use Rattle.tsdb_bits.specs.Leb.{leb}
use Rattle.tsdb_bits.proofs.Reading.{Groups, more_groups, ends_with, value_of_groups, none_here, tenth_high}
use Rattle.tsdb_bits.proofs.leb.leb_in.Goals as goal

-- a shift at 64 bits that loses no bit
whole : (b i : ℕ) → b < 128 → i < 9 → b * 2 ^ (7 * i) ≡ b * 2 ^ (7 * i) % 2 ^ 64
whole b i p q = sym (shl_whole b 7 (7 * i) 64 (omega arith) (omega arith))

pub returns-in_default-clause-none : goal.returns-in_default-clause-none
returns-in_default-clause-none c = λ v x _ e. none_here c.args.bytes.now c.loop-i.i c.loop-i.low c.loop-i.invariant (search rules) v x e

pub returns-then-i-gt0-clause-none : goal.returns-then-i-gt0-clause-none
returns-then-i-gt0-clause-none c = λ v x _ e.
    let k = value_of_groups c.args.bytes.now c.loop-i.i c.loop-i.low c.in-Some.byte v x c.loop-i.invariant (search rules) (search rules) (omega arith) e in
    absurd (omega (arith, k.1))

pub returns-then-byte-lt128-clause-read : goal.returns-then-byte-lt128-clause-read
returns-then-byte-lt128-clause-read c =
    let b = c.from.result in
    let is : b ≡ c.in-Some.field-0.now = c.from.ensures in
    let some : 0 < c.loop-i.i → 0 < b = λ h. elim c.else-byte-eq0.either [ inl p ↦ absurd (omega (arith, p.1)) | inr ne ↦ omega (arith, ne) ] in
    subst (λ (t : ℕ). c.args.bytes.now ≡ leb (c.loop-i.low + t) ++ drop (c.loop-i.i + 1) c.args.bytes.now) (whole b c.loop-i.i (omega arith) (omega arith))
    (ends_with c.args.bytes.now c.loop-i.i c.loop-i.low b c.loop-i.invariant (search rules) (search rules) (omega arith) some)

pub loop-i-preserved : goal.loop-i-preserved
loop-i-preserved c =
    let b = c.in-Some.byte in
    let r = c.from-in-loop-i.result in
    let e : b - 128 ≡ r = search rules in
    let small : r < 128 = search rules in
    let byte : b < 256 = search rules in
    let g = more_groups c.args.bytes.now c.loop-i.i c.loop-i.low b c.loop-i.invariant (search rules) (search rules) (omega arith) byte in
    subst (λ (t : ℕ). Groups c.args.bytes.now (c.loop-i.i + 1) (c.loop-i.low + t)) (ap (λ (t : ℕ). t * 2 ^ (7 * c.loop-i.i)) e ∙ whole r c.loop-i.i small (omega arith)) g

pub returns-in-None-clause-none : goal.returns-in-None-clause-none
returns-in-None-clause-none c = λ v x _ e. none_here c.args.bytes.now c.loop-i.i c.loop-i.low c.loop-i.invariant (search rules) v x e

pub returns-in-Some-eq1-clause-read : goal.returns-in-Some-eq1-clause-read
returns-in-Some-eq1-clause-read c =
    let nine : c.loop-i.i ≡ 9 = omega arith in
    let g : Groups c.args.bytes.now 9 c.loop-i.low = subst (λ (i : ℕ). Groups c.args.bytes.now i c.loop-i.low) nine c.loop-i.invariant in
    ends_with c.args.bytes.now 9 c.loop-i.low 1 g (search rules) (search rules) (omega arith) (λ _. omega arith)

pub returns-in-Some-get-clause-none : goal.returns-in-Some-get-clause-none
returns-in-Some-get-clause-none c = λ v x small e.
    let nine : c.loop-i.i ≡ 9 = omega arith in
    let g : Groups c.args.bytes.now 9 c.loop-i.low = subst (λ (i : ℕ). Groups c.args.bytes.now i c.loop-i.low) nine c.loop-i.invariant in
    tenth_high c.args.bytes.now c.loop-i.low c.in-Some-get.field-0.now v x g (search rules) (search rules) (search rules) (search rules) small e

pub overflow_add-result : goal.overflow_add-result
overflow_add-result c = grind (arith, common_steps)

pub overflow_add-low : goal.overflow_add-low
overflow_add-low c = grind (arith, common_steps)
