-- The DICTIONARY spelling of a list of texts: how many values there are; where there are any, how many
-- different texts, these in the order of their first use, and the place of each value among them.
use Rattle.std.specs.Prelude.{ℕ, ◌-◌, not, List, [], ◌∷◌, ◌++◌, length, map, filter}
use Rattle.std.specs.List.{flat_map, position_or_len}
use denote.Ref.{Bor}
use Rattle.std.specs.Str.{bytes_eq}
use Rattle.tsdb_bits.specs.Leb.{leb}
use Rattle.tsdb_bits.specs.Packing.{pack_bytes, binary_digits}
use Rattle.tsdb_base.specs.Plain.{plain_text}

-- the different texts of a list, in the order of their first use
unfoldable pub first_uses : List (List ℕ) → List (List ℕ)
first_uses [] = []
first_uses (text ∷ texts) = text ∷ filter (λ other. not (bytes_eq text other)) (first_uses texts)

-- texts that are lent, as texts
abbrev pub lent : List (Bor (List ℕ)) → List (List ℕ)
lent texts = map (λ text. text.now) texts

-- how many texts stand before a text
abbrev pub place_in : List (List ℕ) → List ℕ → ℕ
place_in texts text = position_or_len (bytes_eq text) texts

-- how many binary digits the last place among so many texts has
abbrev pub place_width : ℕ → ℕ
place_width count = binary_digits (count - 1)

-- what stands behind the number of values: the texts, and a place among them for each value
abbrev pub dictionary_parts : List (List ℕ) → List ℕ → List ℕ
dictionary_parts texts places =
    leb (length texts) ++ (flat_map plain_text texts ++ pack_bytes (place_width (length texts)) places)

unfoldable pub spelling : List (List ℕ) → List ℕ
spelling [] = leb 0
spelling (text ∷ texts) = leb (length (text ∷ texts))
    ++ dictionary_parts (first_uses (text ∷ texts)) (map (place_in (first_uses (text ∷ texts))) (text ∷ texts))
