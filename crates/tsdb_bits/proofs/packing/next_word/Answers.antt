use Rattle.std.proofs.Common.{◌≡◌, ℕ, ◌+◌, ◌-◌, ◌*◌, ◌^◌, ◌≤◌, List, ◌∷◌, ◌++◌, [], length, take, drop, arith, rules, ap, sym, ◌∙◌}
use Rattle.std.specs.Int.{w64, from_le_bytes}
use Rattle.std.proofs.lemmas.List.{nil_from_length, length-take, take-append-drop}
use Rattle.tsdb_bits.specs.Packing.{from_digits, number_of_bytes}
use Rattle.tsdb_bits.proofs.PackingLaws.{from_digits-nil, from_digits-append}
use Rattle.tsdb_bits.proofs.packing.next_word.Goals as goal

no_more : (n : ℕ) (bytes rest : List ℕ) → n ≡ number_of_bytes bytes → length rest ≡ 0 → number_of_bytes bytes ≡ n + 2 ^ 64 * number_of_bytes rest
no_more n bytes rest e len =
    let z : number_of_bytes rest ≡ 0 = ap number_of_bytes (nil_from_length rest len) ∙ from_digits-nil 8 in
    rw z (omega arith)

pub returns-then-bytes-lt8-clause-stream : goal.returns-then-bytes-lt8-clause-stream
returns-then-bytes-lt8-clause-stream c =
    let bytes = c.args.bytes.now in
    no_more c.last_word.result bytes (take (length bytes - length bytes) (drop (length bytes) bytes)) c.last_word.ensures
    (omega (arith, length-take (length bytes - length bytes) (drop (length bytes) bytes)))

-- eight bytes as a number
eight : (xs : List ℕ) → length xs ≡ 8 → from_le_bytes w64 xs ≡ number_of_bytes xs
unfolding from_digits
eight (a ∷ b ∷ c ∷ d ∷ e ∷ f ∷ g ∷ h ∷ []) l = omega arith
eight (a ∷ b ∷ c ∷ d ∷ e ∷ f ∷ g ∷ h ∷ i ∷ xs) l = absurd (omega arith)
eight _ l = absurd (omega arith)

whole : (bytes front after : List ℕ) (n : ℕ) → 8 ≤ length bytes → front ≡ take 8 bytes → after ≡ drop 8 bytes → n ≡ number_of_bytes front → number_of_bytes bytes ≡ n + 2 ^ 64 * number_of_bytes after
whole bytes front after n le f a e =
    let len : length front ≡ 8 = rw f (omega (arith, length-take 8 bytes)) in
    let parts : bytes ≡ front ++ after = sym (take-append-drop 8 bytes) ∙ ap (λ (t : List ℕ). t ++ drop 8 bytes) (sym f) ∙ ap (λ (t : List ℕ). front ++ t) (sym a) in
    ap number_of_bytes parts ∙ from_digits-append 8 front after
    ∙ ap (λ (k : ℕ). number_of_bytes front + 2 ^ (k * 8) * number_of_bytes after) len
    ∙ ap (λ (k : ℕ). k + 2 ^ 64 * number_of_bytes after) (sym e)

pub returns-clause-stream : goal.returns-clause-stream
returns-clause-stream c =
    let front = c.split_at.result.0.now in
    let len : length front ≡ 8 = search rules in
    whole c.args.bytes.now front c.split_at.result.1.now c.from_le_bytes-word.result (omega arith) c.split_at.ensures.front c.split_at.ensures.back (c.from_le_bytes-word.ensures ∙ eight front len)
