use Rattle.std.proofs.Common.{◌≡◌, ℕ, ◌+◌, ◌-◌, ◌*◌, ◌/◌, ◌%◌, ◌^◌, ◌<◌, ◌≤◌, List, [], ◌∷◌, ◌++◌, length, take, sym, ap, ◌∙◌, arith, append_assoc}
use Rattle.std.specs.Prelude.{slice_set}
use Rattle.std.proofs.lemmas.List.{take_more_set}
use Rattle.std.proofs.lemmas.Nat.{pow-add}
use Rattle.tsdb_bits.specs.Leb.{leb}
use Rattle.tsdb_bits.proofs.LebLaws.{leb_small, leb_large}
use Rattle.tsdb_bits.proofs.leb.write_groups.Goals as goal

-- the last group
last_group : (room : List ℕ) (i rest value : ℕ) → i < length room → rest < 128 → take i room ++ leb rest ≡ leb value → take (i + 1) (slice_set room i rest) ≡ leb value
last_group room i rest value lt small so_far =
    take_more_set room i rest lt ∙ ap (λ (t : List ℕ). take i room ++ t) (sym (leb_small rest small)) ∙ so_far

-- one group more
more : (room : List ℕ) (i rest value : ℕ) → i < length room → 128 ≤ rest → take i room ++ leb rest ≡ leb value → take (i + 1) (slice_set room i (rest % 128 + 128)) ++ leb (rest / 128) ≡ leb value
more room i rest value lt large so_far =
    ap (λ (t : List ℕ). t ++ leb (rest / 128)) (take_more_set room i (rest % 128 + 128) lt)
    ∙ append_assoc (take i room) ((rest % 128 + 128) ∷ []) (leb (rest / 128))
    ∙ ap (λ (t : List ℕ). take i room ++ t) (sym (leb_large rest large)) ∙ so_far

smaller : (rest i : ℕ) → i < 9 → rest < 2 ^ (64 - 7 * i) → rest / 128 < 2 ^ (64 - 7 * (i + 1))
smaller rest i lt small =
    let e : 64 - 7 * i ≡ 7 + (64 - 7 * (i + 1)) = omega arith in
    let s : 2 ^ (64 - 7 * i) ≡ 128 * 2 ^ (64 - 7 * (i + 1)) = ap (λ (k : ℕ). 2 ^ k) e ∙ pow-add 2 7 (64 - 7 * (i + 1)) in
    omega (arith, s)

pub returns-then-rest-lt128-clause-groups : goal.returns-then-rest-lt128-clause-groups
returns-then-rest-lt128-clause-groups c =
    last_group c.loop-i.room c.loop-i.i c.loop-i.rest c.args.value (omega arith) c.if-rest-lt128.true c.loop-i.invariant.groups

pub loop-i-preserved : goal.loop-i-preserved
loop-i-preserved c = record {
  small = smaller c.loop-i.rest c.loop-i.i c.loop-i-test.true c.loop-i.invariant.small;
  groups = more c.loop-i.room c.loop-i.i c.loop-i.rest c.args.value (omega arith) c.if-rest-lt128.false c.loop-i.invariant.groups;
}

pub returns-clause-groups : goal.returns-clause-groups
returns-clause-groups c =
    let nine : c.loop-i.i ≡ 9 = omega arith in
    let small = rw nine at c.loop-i.invariant.small in
    let groups = rw nine at c.loop-i.invariant.groups in
    last_group c.loop-i.room 9 c.loop-i.rest c.args.value (omega arith) (omega (arith, small)) groups
