-- The names and the values of cells, one more at a time.
use Rattle.std.proofs.Common.{◌≡◌, ℕ, ◌+◌, ◌<◌, List, [], ◌∷◌, ◌++◌, length, get_or, take, map, sym, ap, ◌∙◌}
use Rattle.std.proofs.lemmas.List.{map-append}
use Rattle.tsdb_script.specs.Types.{Cell}
use Rattle.tsdb_script.proofs.WordLists.{next}

pub one_more_value : (cells new : List Cell) (cell : Cell) → new ≡ cells ++ cell ∷ []
    → map (λ (c : Cell). c.value) new ≡ map (λ (c : Cell). c.value) cells ++ cell.value ∷ []
one_more_value cells new cell grown = ap (λ (l : List Cell). map (λ (c : Cell). c.value) l) grown ∙ map-append (λ (c : Cell). c.value) cells (cell ∷ [])

-- one cell more has one name more
pub named_next : (names : List (List ℕ)) (cells : List Cell) (i : ℕ) (x : List ℕ) (cell : Cell) → i < length names → i < length cells
    → x ≡ get_or names i x → cell ≡ get_or cells i cell → x ≡ cell.measurement → take i names ≡ map (λ (c : Cell). c.measurement) (take i cells)
    → take (i + 1) names ≡ map (λ (c : Cell). c.measurement) (take (i + 1) cells)
named_next names cells i x cell in_names in_cells ex ec same so_far =
    next names i x in_names ex ∙ ap (λ (l : List (List ℕ)). l ++ x ∷ []) so_far
    ∙ ap (λ (y : List ℕ). map (λ (c : Cell). c.measurement) (take i cells) ++ y ∷ []) same
    ∙ sym (map-append (λ (c : Cell). c.measurement) (take i cells) (cell ∷ []))
    ∙ ap (λ (l : List Cell). map (λ (c : Cell). c.measurement) l) (sym (next cells i cell in_cells ec))
