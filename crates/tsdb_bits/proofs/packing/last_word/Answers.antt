use Rattle.std.proofs.Common.{◌≡◌, ℕ, ◌+◌, ◌-◌, ◌*◌, ◌^◌, ◌<◌, ◌≤◌, suc, List, ◌∷◌, length, drop, get_or, arith, rules, ap, sym, ◌∙◌}
use Rattle.std.proofs.lemmas.List.{drop_all, drop_more}
use Rattle.tsdb_bits.specs.Packing.{number_of_bytes}
use Rattle.tsdb_bits.proofs.PackingLaws.{from_digits-nil, byte_scale, pow_le}
use Rattle.tsdb_bits.proofs.Moving.{number-cons}
use Rattle.tsdb_bits.proofs.packing.last_word.Goals as goal

-- one byte lower: i is what is left before it
record IsLower (bytes : List ℕ) (i word : ℕ) : Type 0 where
  below : word < 2 ^ (8 * (length bytes - i))
  number : word ≡ number_of_bytes (drop i bytes)

lower : (bytes : List ℕ) (i word b : ℕ) → 0 < i → i ≤ length bytes → b < 256 → b ≡ get_or bytes (i - 1) 0
    → word < 2 ^ (8 * (length bytes - i)) → word ≡ number_of_bytes (drop i bytes)
    → IsLower bytes (i - 1) (word * 256 + b)
lower bytes i word b some within byte e below number =
    let s = byte_scale (length bytes - i) in
    let k : 8 * (length bytes - (i - 1)) ≡ 8 * suc (length bytes - i) = omega arith in
    let i-is : i - 1 + 1 ≡ i = omega arith in
    let here : drop (i - 1) bytes ≡ b ∷ drop i bytes =
    drop_more bytes (i - 1) 0 (omega arith) ∙ ap (λ (t : ℕ). t ∷ drop (i - 1 + 1) bytes) (sym e) ∙ ap (λ (t : ℕ). b ∷ drop t bytes) i-is in
    let n = number-cons b (drop i bytes) in
    record {
      below = rw (k, s) (omega arith);
      number = rw (here, n, ← number) (omega arith);
    }

fits : (len i word b : ℕ) → len < 8 → 0 < i → i ≤ len → b < 256 → word < 2 ^ (8 * (len - i)) → word * 256 + b < 2 ^ 64
fits len i word b short some within byte below =
    let p = pow_le (8 * (len - i)) 48 (omega arith) in
    omega arith

pub loop-i-init : goal.loop-i-init
loop-i-init c =
    let bytes = c.args.bytes.now in
    let z : 8 * (length bytes - length bytes) ≡ 0 = omega arith in
    record {
      below = rw z (omega arith);
      number = sym (ap number_of_bytes (drop_all (length bytes) bytes (omega arith)) ∙ from_digits-nil 8);
    }

pub overflow_mul-word : goal.overflow_mul-word
overflow_mul-word c =
    let f = fits (length c.args.bytes.now) c.loop-i.i c.loop-i.word 0 c.requires (omega arith) (omega arith) (omega arith) c.loop-i.invariant.below in
    search rules

pub overflow_add-word : goal.overflow_add-word
overflow_add-word c =
    let byte : c.from.result < 256 = search rules in
    let f = fits (length c.args.bytes.now) c.loop-i.i c.loop-i.word c.from.result c.requires (omega arith) (omega arith) byte c.loop-i.invariant.below in
    search rules

pub loop-i-preserved : goal.loop-i-preserved
loop-i-preserved c =
    let byte : c.from.result < 256 = search rules in
    let k = lower c.args.bytes.now c.loop-i.i c.loop-i.word c.from.result (omega arith) (omega arith) byte (search rules) c.loop-i.invariant.below c.loop-i.invariant.number in
    record { below = k.below; number = k.number }
