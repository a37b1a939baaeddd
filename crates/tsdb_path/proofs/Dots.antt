-- From the place of a dot, as the code finds it, to the parts.
use Rattle.std.proofs.Common.{◌≡◌, ◌≢◌, ◌≤◌, ◌<◌, ◌+◌, ◌-◌, ℕ, false, eqb, ne_eqb, List, [], ◌∷◌, ◌++◌, Option, Some, None, length, take, drop, get_or, refl, sym, ap, subst, ◌∙◌, arith, length-drop, add-one, suc}
use Rattle.std.specs.Prelude.{All, IfNone, IfSome, IsSome}
use Rattle.std.proofs.Math.Seq.{split_at}
use Rattle.std.proofs.lemmas.List.{take_all, get_or-take, get_or-drop, length-take-le}
use Rattle.std.proofs.lemmas.List.Splits.{slice_split_at, slice_split_none}
use Rattle.std.proofs.lemmas.List.Elements.{All-from_get_or}
use Rattle.tsdb_path.specs.Nodes.{dot, parts, node_count, device_of, measurement_of, child_of}
use Rattle.tsdb_path.proofs.Parts.{device_of-child, measurement_of-child}
use Rattle.tsdb_path.specs.Steps.{IsFirstSplit}

-- what the range from n to the end is
pub tail_is : (bytes : List ℕ) (n : ℕ) → take (length bytes - n) (drop n bytes) ≡ drop n bytes
tail_is bytes n = take_all (length bytes - n) (drop n bytes) (omega (arith, length-drop n bytes))

-- the bytes round a dot
pub round_dot : (bytes : List ℕ) (at : ℕ) → at < length bytes → get_or bytes at 0 ≡ dot → bytes ≡ take at bytes ++ dot ∷ drop (at + 1) bytes
round_dot bytes at within here =
    split_at bytes at 0 within ∙ ap (λ b. take at bytes ++ b ∷ drop (suc at) bytes) here ∙ ap (λ n. take at bytes ++ dot ∷ drop n bytes) (sym (add-one at))

-- no dot stands before this place
pub dotless-take : (bytes : List ℕ) (at : ℕ) → ((k : ℕ) → k < at → get_or bytes k 0 ≢ dot) → at ≤ length bytes → All (λ b. eqb b dot ≡ false) (take at bytes)
dotless-take bytes at none within =
    All-from_get_or (λ b. eqb b dot ≡ false) (take at bytes) 0 (λ i h.
    let below : i < at = omega (arith, length-take-le at bytes within) in
    ne_eqb (get_or (take at bytes) i 0) dot (λ e. none i below (sym (get_or-take at bytes i 0 below) ∙ e)))

-- no dot stands behind this place
pub dotless-drop : (bytes : List ℕ) (at : ℕ) → ((k : ℕ) → at < k → k < length bytes → get_or bytes k 0 ≢ dot) → All (λ b. eqb b dot ≡ false) (drop (at + 1) bytes)
dotless-drop bytes at none =
    All-from_get_or (λ b. eqb b dot ≡ false) (drop (at + 1) bytes) 0 (λ i h.
    let below : at + 1 + i < length bytes = omega (arith, length-drop (at + 1) bytes) in
    ne_eqb (get_or (drop (at + 1) bytes) i 0) dot (λ e. none (at + 1 + i) (omega arith) below (sym (get_or-drop (at + 1) bytes i 0) ∙ e)))

-- bytes without a dot are one part
pub one_part : (bytes : List ℕ) → ((k : ℕ) → k < length bytes → get_or bytes k 0 ≢ dot) → parts bytes ≡ bytes ∷ []
one_part bytes none =
    slice_split_none (λ b. eqb b dot) bytes (All-from_get_or (λ b. eqb b dot ≡ false) bytes 0 (λ i h. ne_eqb (get_or bytes i 0) dot (none i h)))

-- the split at the first dot
pub first_split : (bytes : List ℕ) (at : ℕ) → at < length bytes → get_or bytes at 0 ≡ dot → ((k : ℕ) → k < at → get_or bytes k 0 ≢ dot) → IsFirstSplit bytes (take at bytes) (Some (drop (at + 1) bytes))
first_split bytes at within here none =
    record {
      parted = ap (λ l. parts l) (round_dot bytes at within here) ∙ slice_split_at (λ b. eqb b dot) (take at bytes) dot (drop (at + 1) bytes) (dotless-take bytes at none (omega arith)) refl;
      lengths = omega (arith, length-take-le at bytes (omega arith), length-drop (at + 1) bytes);
    }

-- with two parts there is a dot
pub IsSome-last_dot : (bytes : List ℕ) (r : Option ℕ) → 2 ≤ node_count bytes → IfNone r ((k : ℕ) → k < length bytes → get_or bytes k 0 ≢ dot) → IsSome r
IsSome-last_dot bytes None two none = absurd (omega (arith, two, ap length (one_part bytes none)))
IsSome-last_dot bytes (Some at) two none = refl

-- the last dot parts the device from the measurement
pub record IsLastDot (bytes : List ℕ) (at : ℕ) : Type 0 where
  pub device : take at bytes ≡ device_of bytes
  pub measurement : drop (at + 1) bytes ≡ measurement_of bytes

pub last_dot_is : (bytes : List ℕ) (at : ℕ) → at < length bytes → get_or bytes at 0 ≡ dot → ((k : ℕ) → at < k → k < length bytes → get_or bytes k 0 ≢ dot) → IsLastDot bytes at
last_dot_is bytes at within here none =
    let d : List ℕ = take at bytes in
    let m : List ℕ = drop (at + 1) bytes in
    let e : bytes ≡ child_of d m = round_dot bytes at within here in
    let h : All (λ b. eqb b dot ≡ false) m = dotless-drop bytes at none in
    record {
      device = sym (ap device_of e ∙ device_of-child d m h);
      measurement = sym (ap measurement_of e ∙ measurement_of-child d m h);
    }

None≢Some : (at : ℕ) → None ≡ Some at → ⊥
None≢Some at e = cc

Some-injective : (i j : ℕ) → Some i ≡ Some j → i ≡ j
Some-injective i j e = cc

-- the same, from what the search for the dot found
pub last_dot_found : (bytes : List ℕ) (r : Option ℕ) (at : ℕ) → r ≡ Some at → IfSome r (λ i. (i < length bytes) × (get_or bytes i 0 ≡ dot)) → IfSome r (λ i. (k : ℕ) → i < k → k < length bytes → get_or bytes k 0 ≢ dot) → IsLastDot bytes at
last_dot_found bytes None at e found last = absurd (None≢Some at e)
last_dot_found bytes (Some i) at e found last = subst (IsLastDot bytes) (Some-injective i at e) (last_dot_is bytes i found.0 found.1 last)
