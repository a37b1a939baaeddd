use Rattle.std.proofs.Common.{◌≡◌, ℕ, ◌+◌, ◌-◌, ◌*◌, ◌/◌, ◌%◌, ◌^◌, ◌<◌, ◌≤◌, List, ◌∷◌, ◌++◌, [], length, take, drop, get_or, arith, rules, ap, sym, ◌∙◌, refl, append_assoc}
use Rattle.std.proofs.lemmas.Grind.{common_steps}
use Rattle.std.specs.Int.{w64, to_le_bytes}
use Rattle.std.proofs.lemmas.Nat.{shl_whole, shr_below}
use Rattle.std.proofs.lemmas.List.{drop_all, drop_more}
use Rattle.std.proofs.lemmas.List.Elements.{All-get_or}
use Rattle.tsdb_bits.specs.Packing.{pack_bytes, bytes_for}
use Rattle.tsdb_bits.proofs.Moving.{pending, pending_all, pending_value, pending_word, pending_last, word_with}
use Rattle.tsdb_bits.proofs.packing.append_packed.Goals as goal
use Rattle.tsdb_bits.proofs.packing.append_packed.Goals.{then-filled-ge64+in_ok-extend_from_slice, else-filled-ge64}

pub loop-value-init : goal.loop-value-init
loop-value-init c = record {
  filled_less = omega arith;
  word_fits = omega arith;
  to_come = ap (λ (t : List ℕ). c.args.into.now.items ++ t) (pending_all c.args.width c.args.values.now);
  longer = omega arith;
  kept = search (rules, common_steps);
}

-- a value is in the word
record IsTakenUp (out : List ℕ) (filled word w : ℕ) (values : List ℕ) (whole : List ℕ) : Type 0 where
  fits : word < 2 ^ filled
  to_come : out ++ pending filled word w values ≡ whole

taken_up : (out : List ℕ) (filled word w v i : ℕ) (values whole : List ℕ) → i < length values → v ≡ get_or values i 0 → v < 2 ^ w → filled < 64 → w ≤ 64 → word < 2 ^ filled
    → out ++ pending filled word w (drop i values) ≡ whole
    → IsTakenUp out (filled + w) (word + v * 2 ^ filled % 2 ^ 128) w (drop (i + 1) values) whole
taken_up out filled word w v i values whole lt e below less wide fits so_far =
    let s : v * 2 ^ filled % 2 ^ 128 ≡ v * 2 ^ filled = shl_whole v w filled 128 below (omega arith) in
    let here : drop i values ≡ v ∷ drop (i + 1) values = drop_more values i 0 lt ∙ ap (λ (t : ℕ). t ∷ drop (i + 1) values) (sym e) in
    record {
      fits = rw s (word_with filled word w v fits below);
      to_come = rw s (ap (λ (t : List ℕ). out ++ t) (sym (pending_value filled word w v (drop (i + 1) values)) ∙ ap (λ (t : List ℕ). pending filled word w t) (sym here)) ∙ so_far);
    }

-- a full word goes out
sent : (out bytes now whole : List ℕ) (filled word w : ℕ) (values : List ℕ) → 64 ≤ filled → filled < 128 → bytes ≡ to_le_bytes w64 (word % 2 ^ 64) → now ≡ out ++ bytes
    → IsTakenUp out filled word w values whole
    → IsTakenUp now (filled - 64) (word / 2 ^ 64) w values whole
sent out bytes now whole filled word w values le lt b n k = record {
  fits = let e : filled - 64 + 64 ≡ filled = omega arith in shr_below word (filled - 64) 64 (rw e k.fits);
  to_come =
      ap (λ (t : List ℕ). t ++ pending (filled - 64) (word / 2 ^ 64) w values) (n ∙ ap (λ (t : List ℕ). out ++ t) b)
      ∙ append_assoc out (to_le_bytes w64 (word % 2 ^ 64)) (pending (filled - 64) (word / 2 ^ 64) w values)
      ∙ ap (λ (t : List ℕ). out ++ t) (sym (pending_word filled word w values le))
      ∙ k.to_come;
}

same_state : (out out' : List ℕ) (filled filled' word word' w : ℕ) (values whole : List ℕ) → out' ≡ out → filled' ≡ filled → word' ≡ word → IsTakenUp out filled word w values whole → IsTakenUp out' filled' word' w values whole
same_state out out' filled filled' word word' w values whole p q r k = rw (p, q, r) k

pub loop-value-preserved : goal.loop-value-preserved
loop-value-preserved c =
    let j = c.if-filled-ge64 in
    let values = c.args.values.now in
    let i = c.loop-value.value-index in
    let v = c.from.result in
    let w = c.args.width in
    let whole = c.args.into.now.items ++ pack_bytes w values in
    let filled = c.loop-value.filled + c.from-filled.result in
    let word = c.loop-value.word + v * 2 ^ c.loop-value.filled % 2 ^ 128 in
    let below : v < 2 ^ w = rw c.from.ensures (All-get_or (λ (x : ℕ). x < 2 ^ w) values i 0 (omega arith) c.requires.values_fit) in
    let up : IsTakenUp c.loop-value.into.items (c.loop-value.filled + w) word w (drop (i + 1) values) whole =
    taken_up c.loop-value.into.items c.loop-value.filled c.loop-value.word w v i values whole (omega arith) c.from.ensures below c.loop-value.invariant.filled_less (omega arith) c.loop-value.invariant.word_fits c.loop-value.invariant.to_come in
    let sum : filled ≡ c.loop-value.filled + w = omega arith in
    let here : IsTakenUp c.loop-value.into.items filled word w (drop (i + 1) values) whole = rw sum up in
    let k : IsTakenUp j.into.items j.filled j.word w (drop (i + 1) values) whole =
    elim j.branch [
      | then-filled-ge64+in_ok-extend_from_slice b ↦
          same_state _ _ _ _ _ _ w (drop (i + 1) values) whole (ap (λ (x : _). x.items) b.into-is) b.filled-is b.word-is
          (sent c.loop-value.into.items (to_le_bytes w64 (word % 2 ^ 64)) _ whole filled word w (drop (i + 1) values) (omega arith) (omega arith) refl (search rules) here)
      | else-filled-ge64 b ↦
          same_state _ _ _ _ _ _ w (drop (i + 1) values) whole (ap (λ (x : _). x.items) b.into-is) b.filled-is b.word-is here
    ] in
    record {
      filled_less = elim j.branch [ then-filled-ge64+in_ok-extend_from_slice b ↦ omega arith | else-filled-ge64 b ↦ omega arith ];
      word_fits = k.fits;
      to_come = k.to_come;
      longer = elim j.branch [ then-filled-ge64+in_ok-extend_from_slice b ↦ grind (arith, common_steps) | else-filled-ge64 b ↦ grind (arith, common_steps) ];
      kept = elim j.branch [ then-filled-ge64+in_ok-extend_from_slice b ↦ grind (arith, common_steps) | else-filled-ge64 b ↦ grind (arith, common_steps) ];
    }

-- the last bytes
closed : (out bytes now whole : List ℕ) (filled word w i last : ℕ) (values : List ℕ) → length values ≤ i → filled < 64 → word < 2 ^ filled
    → last ≡ bytes_for filled → now ≡ out ++ take last (to_le_bytes w64 (word % 2 ^ 64)) → out ++ pending filled word w (drop i values) ≡ whole → now ≡ whole
closed out bytes now whole filled word w i last values done less fits l n so_far =
    n ∙ ap (λ (t : ℕ). out ++ take t (to_le_bytes w64 (word % 2 ^ 64))) l
    ∙ ap (λ (t : List ℕ). out ++ t) (sym (pending_last filled word w less fits))
    ∙ ap (λ (t : List ℕ). out ++ pending filled word w t) (sym (drop_all i values done))
    ∙ so_far

pub returns-clause-ok : goal.returns-clause-ok
returns-clause-ok c =
    let l = c.loop-value in
    closed l.into.items [] c.extend_from_slice-2.new.self.items (c.args.into.now.items ++ pack_bytes c.args.width c.args.values.now) l.filled l.word c.args.width l.value-index c.div_ceil-last.result c.args.values.now
    (omega arith) l.invariant.filled_less l.invariant.word_fits (search rules) (search rules) l.invariant.to_come

pub returns-clause-kept : goal.returns-clause-kept
returns-clause-kept c = grind (arith, common_steps)
