-- What a piece of a slot says of the slot.
use Rattle.std.proofs.Common.{◌≡◌, ℕ, ◌+◌, List, ◌++◌, take, drop, sym, ◌∙◌, ap, arith, take-append-drop}
use Rattle.std.proofs.lemmas.List.{take-take, drop-take}

-- the bytes before a place and a piece from there on are the bytes before the piece's end
pub piece_behind : (at n : ℕ) (whole : List ℕ) → take (at + n) whole ≡ take at whole ++ take n (drop at whole)
piece_behind at n whole =
    sym (take-append-drop at (take (at + n) whole))
    ∙ ap (λ (l : List ℕ). l ++ drop at (take (at + n) whole)) (take-take at (at + n) whole (omega arith))
    ∙ ap (λ (l : List ℕ). take at whole ++ l) (drop-take at n whole)
