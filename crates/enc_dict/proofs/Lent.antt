-- Texts that are lent.
use Rattle.std.proofs.Common.{◌≡◌, ℕ, ◌+◌, ◌<◌, List, [], ◌∷◌, ◌++◌, length, take, get_or, ap, sym, ◌∙◌}
use Rattle.std.proofs.lemmas.List.{get_or-map, length-map, take_more}
use denote.Ref.{Bor}
use Rattle.enc_dict.specs.Spelling.{lent}

pub length-lent : (texts : List (Bor (List ℕ))) → length (lent texts) ≡ length texts
length-lent texts = length-map texts (λ text. text.now)

-- the text at a place
pub lent_at : (texts : List (Bor (List ℕ))) (i : ℕ) (text : Bor (List ℕ)) (other : List ℕ) → i < length texts → text ≡ get_or texts i text → get_or (lent texts) i other ≡ text.now
lent_at texts i text other within is = get_or-map (λ t. t.now) texts i text other within ∙ ap (λ t. t.now) (sym is)

-- one text more
pub lent_more : (texts : List (Bor (List ℕ))) (i : ℕ) (text : Bor (List ℕ)) → i < length texts → text ≡ get_or texts i text → take (i + 1) (lent texts) ≡ take i (lent texts) ++ text.now ∷ []
lent_more texts i text within is =
    take_more (lent texts) i text.now (rw (length-lent texts) within) ∙ ap (λ x. take i (lent texts) ++ x ∷ []) (lent_at texts i text text.now within is)
