-- Bytes that move from the beginning of what is left to the beginning of a buffer.
use Rattle.std.proofs.Common.{◌≡◌, ℕ, ◌+◌, ◌-◌, List, ◌++◌, length, take, drop, sym, ap, ◌∙◌, arith}
use Rattle.std.proofs.lemmas.List.{take-append-drop, drop-drop, take_at, take_all, length-drop}

-- what was moved is a prefix of what was left, and the rest is left
pub moved_prefix : (bytes seen prefix into : List ℕ) (taken n : ℕ) → seen ≡ bytes
    → prefix ≡ take n (take (length seen - taken) (drop taken seen)) → length prefix ≡ n
    → drop taken bytes ≡ take n (prefix ++ drop n into) ++ drop (taken + n) bytes
moved_prefix bytes seen prefix into taken n same is size =
    let left : List ℕ = drop taken bytes in
    let all : take (length bytes - taken) left ≡ left = take_all (length bytes - taken) left (omega (arith, length-drop taken bytes)) in
    let is_prefix : prefix ≡ take n left = is ∙ ap (λ (l : List ℕ). take n (take (length l - taken) (drop taken l))) same ∙ ap (λ (l : List ℕ). take n l) all in
    sym (ap (λ (l : List ℕ). l ++ drop (taken + n) bytes) (take_at prefix (drop n into) n size ∙ is_prefix)
    ∙ ap (λ (l : List ℕ). take n left ++ l) (sym (drop-drop n taken bytes)) ∙ take-append-drop n left)
