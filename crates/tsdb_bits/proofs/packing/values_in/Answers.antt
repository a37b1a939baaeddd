use Rattle.std.proofs.Common.{◌≡◌, ℕ, ◌+◌, ◌-◌, ◌*◌, ◌/◌, ◌%◌, ◌^◌, ◌<◌, ◌≤◌, ◌⊎◌, List, ◌∷◌, ◌++◌, [], length, arith, rules, ap, subst, ◌∙◌, refl, inl, inr, All}
use Rattle.std.proofs.Math.Nat.{zero-mul}
use Rattle.std.proofs.lemmas.Nat.{shl_whole, shr_below, mod_below, pow_pos}
use Rattle.std.proofs.lemmas.Bool.{cases_lt}
use Rattle.std.proofs.lemmas.List.{nil_from_length, length_push}
use Rattle.std.proofs.lemmas.List.Elements.{All-nil, All-push}
use Rattle.tsdb_bits.specs.Packing.{from_digits, number_of_bytes, bytes_for}
use Rattle.tsdb_bits.proofs.PackingLaws.{from_digits-nil}
use Rattle.tsdb_bits.proofs.Moving.{filled_up, value_moves, word_with}
use Rattle.tsdb_bits.proofs.packing.values_in.Goals as goal
use Rattle.tsdb_bits.proofs.packing.values_in.Goals.{then-filled-width_bits, else-filled-width_bits}

no_values : (w number : ℕ) (vs : List ℕ) → vs ≡ [] → number ≡ from_digits w vs + 2 ^ (0 * w) * (0 + 1 * number)
no_values w number vs e =
    let z : 2 ^ (0 * w) ≡ 1 = rw (zero-mul w) refl in
    let j : from_digits w vs ≡ 0 = ap (from_digits w) e ∙ from_digits-nil w in
    rw (z, j) (omega arith)

pub loop-init : goal.loop-init
loop-init c =
    let none : c.in_ok-values.values.items ≡ [] = search rules in
    record {
      number_is = ap length none;
      below = rw none (All-nil (λ (x : ℕ). x < 2 ^ c.args.width));
      filled_less = omega arith;
      word_fits = omega arith;
      stream = no_values c.args.width (number_of_bytes c.args.bytes.now) c.in_ok-values.values.items none;
      left = inr (omega (arith, zero-mul c.args.width));
    }

-- enough is in the word for the next value
record IsReady (w counter filled word : ℕ) (rest : List ℕ) (stream len : ℕ) (values : List ℕ) : Type 0 where
  enough : w ≤ filled
  less : filled - w < 64
  fits : word < 2 ^ filled
  whole : stream ≡ from_digits w values + 2 ^ (counter * w) * (word + 2 ^ filled * number_of_bytes rest)
  left : (length rest ≡ 0) ⊎ (8 * length rest + filled + counter * w ≡ 8 * len)

refilled : (w counter filled word next : ℕ) (rest after : List ℕ) (stream len : ℕ) (values : List ℕ) → filled < w → w ≤ 64 → word < 2 ^ filled → next < 2 ^ 64
    → number_of_bytes rest ≡ next + 2 ^ 64 * number_of_bytes after → length after ≡ length rest - 8
    → stream ≡ from_digits w values + 2 ^ (counter * w) * (word + 2 ^ filled * number_of_bytes rest)
    → (length rest ≡ 0) ⊎ (8 * length rest + filled + counter * w ≡ 8 * len)
    → IsReady w counter (filled + 64) (word + next * 2 ^ filled % 2 ^ 128) after stream len values
refilled w counter filled word next rest after stream len values short wide fits small number cut so_far left =
    let s : next * 2 ^ filled % 2 ^ 128 ≡ next * 2 ^ filled = shl_whole next 64 filled 128 small (omega arith) in
    record {
      enough = omega arith;
      less = omega arith;
      fits = rw s (word_with filled word 64 next fits small);
      whole = rw s (so_far ∙ ap (λ (t : ℕ). from_digits w values + 2 ^ (counter * w) * (word + 2 ^ filled * t)) number
          ∙ ap (λ (t : ℕ). from_digits w values + 2 ^ (counter * w) * t) (filled_up filled word next (number_of_bytes after)));
      left = elim left [
        | inl e ↦ inl (omega arith)
        | inr e ↦ elim (cases_lt 8 (length rest)) [
          | inl lt ↦ inr (omega arith)
          | inr le ↦ inl (omega arith)
        ]
      ];
    }

same_state : (w counter filled filled' word word' : ℕ) (rest rest' : List ℕ) (stream len : ℕ) (values : List ℕ) → filled' ≡ filled → word' ≡ word → rest' ≡ rest
    → IsReady w counter filled word rest stream len values → IsReady w counter filled' word' rest' stream len values
same_state w counter filled filled' word word' rest rest' stream len values p q r k = rw (p, q, r) k

-- the value is taken
record IsTaken (w counter filled word : ℕ) (rest : List ℕ) (stream len : ℕ) (values : List ℕ) : Type 0 where
  number_is : length values ≡ counter + 1
  below : All (λ value. value < 2 ^ w) values
  fits : word < 2 ^ filled
  whole : stream ≡ from_digits w values + 2 ^ ((counter + 1) * w) * (word + 2 ^ filled * number_of_bytes rest)
  left : (length rest ≡ 0) ⊎ (8 * length rest + filled + (counter + 1) * w ≡ 8 * len)

takes_value : (w counter filled word value : ℕ) (rest : List ℕ) (stream len : ℕ) (values now : List ℕ) → IsReady w counter filled word rest stream len values
    → length values ≡ counter → All (λ x. x < 2 ^ w) values → value ≡ word % 2 ^ w → now ≡ values ++ value ∷ []
    → IsTaken w counter (filled - w) (word / 2 ^ w) rest stream len now
takes_value w counter filled word value rest stream len values now k number_is below v n =
    let e : now ≡ values ++ word % 2 ^ w ∷ [] = n ∙ ap (λ (t : ℕ). values ++ t ∷ []) v in
    let f : filled - w + w ≡ filled = omega (arith, k.enough) in
    record {
      number_is = rw (e, length_push values (word % 2 ^ w)) (omega arith);
      below = rw e (All-push (λ (x : ℕ). x < 2 ^ w) values (word % 2 ^ w) below (mod_below word (2 ^ w) (pow_pos w)));
      fits = shr_below word (filled - w) w (rw f k.fits);
      whole = rw e (value_moves w counter filled word (number_of_bytes rest) stream values number_is k.enough k.whole);
      left = elim k.left [ inl z ↦ inl z | inr s ↦ inr (omega (arith, k.enough)) ];
    }

pub loop-preserved : goal.loop-preserved
loop-preserved c =
    let j = c.if-filled-width_bits in
    let l = c.loop in
    let w = c.args.width in
    let bytes = c.args.bytes.now in
    let same : c.from-width_bits.result ≡ w = c.from-width_bits.ensures in
    let ready : IsReady w l.counter j.filled j.word j.rest.now (number_of_bytes bytes) (length bytes) l.values.items =
    elim j.branch [
      | then-filled-width_bits b ↦
          same_state w l.counter _ j.filled _ j.word _ j.rest.now (number_of_bytes bytes) (length bytes) l.values.items b.filled-is b.word-is (ap (λ (x : _). x.now) b.rest-is)
          (refilled w l.counter l.filled l.word b.from.result l.rest.now b.next_word-next.result.1.now (number_of_bytes bytes) (length bytes) l.values.items (omega arith) (omega arith) l.invariant.word_fits (search rules) (search rules) (search rules) l.invariant.stream l.invariant.left)
      | else-filled-width_bits b ↦
          same_state w l.counter l.filled j.filled l.word j.word l.rest.now j.rest.now (number_of_bytes bytes) (length bytes) l.values.items b.filled-is b.word-is (ap (λ (x : _). x.now) b.rest-is)
          (record { enough = omega arith; less = omega arith; fits = l.invariant.word_fits; whole = l.invariant.stream; left = l.invariant.left })
    ] in
    let k = takes_value w l.counter j.filled j.word c.low_bits.result j.rest.now (number_of_bytes bytes) (length bytes) l.values.items c.push.new.self.items ready l.invariant.number_is l.invariant.below c.low_bits.ensures c.in_ok-push.ensures.items in
    record {
      number_is = k.number_is;
      below = k.below;
      filled_less = omega (arith, ready.less);
      word_fits = rw same k.fits;
      stream = rw same k.whole;
      left = rw same k.left;
    }

-- nothing is left but what the word holds
is_done : (w count filled word : ℕ) (rest bytes : List ℕ) → length bytes ≡ bytes_for (count * w) → (length rest ≡ 0) ⊎ (8 * length rest + filled + count * w ≡ 8 * length bytes) → number_of_bytes rest ≡ 0
is_done w count filled word rest bytes needed left =
    let none : length rest ≡ 0 = elim left [ inl e ↦ e | inr e ↦ omega arith ] in
    ap number_of_bytes (nil_from_length rest none) ∙ from_digits-nil 8

pub returns-clause-stream : goal.returns-clause-stream
returns-clause-stream c =
    let l = c.loop in
    let w = c.args.width in
    let all : l.counter ≡ c.args.count = omega arith in
    let left : (length l.rest.now ≡ 0) ⊎ (8 * length l.rest.now + l.filled + c.args.count * w ≡ 8 * length c.args.bytes.now) =
    subst (λ (t : ℕ). (length l.rest.now ≡ 0) ⊎ (8 * length l.rest.now + l.filled + t * w ≡ 8 * length c.args.bytes.now)) all l.invariant.left in
    let z = is_done w c.args.count l.filled l.word l.rest.now c.args.bytes.now c.requires.needed left in
    let n : l.word + 2 ^ l.filled * number_of_bytes l.rest.now ≡ l.word = rw z (omega arith) in
    l.invariant.stream ∙ ap (λ (t : ℕ). from_digits w l.values.items + 2 ^ (t * w) * (l.word + 2 ^ l.filled * number_of_bytes l.rest.now)) all
    ∙ ap (λ (t : ℕ). from_digits w l.values.items + 2 ^ (c.args.count * w) * t) n
