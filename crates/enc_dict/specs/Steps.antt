-- Steps of the proofs: the texts and places of a list.
use Rattle.std.specs.Prelude.{◌≡◌, ℕ, ◌^◌, ◌<◌, ◌≤◌, Bool, true, not, List, [], ◌∷◌, ◌++◌, length, map, get_or, All}
use Rattle.std.specs.Prelude.{Option, None, Some, if◌then◌else◌}
use denote.Ref.{Bor}
use Rattle.std.specs.BTreeMap.{BTreeMap, get_by, btree_map_len}
use Rattle.std.specs.Cmp.Lexicographic.{slice_cmp}
use Rattle.std.specs.List.{list_any}
use Rattle.std.specs.Ordering.{nat_cmp}
use Rattle.std.specs.Str.{bytes_eq}
use Rattle.tsdb_base.specs.Plain.{IsText}
use Rattle.enc_dict.specs.Spelling.{first_uses, place_in, place_width, dictionary_parts}

-- at most so many texts, and so many places of the width
pub record AreDictionaryParts (count : ℕ) (texts : List (List ℕ)) (places : List ℕ) : Type 0 where
  pub few : length texts ≤ count
  pub size : length places ≡ count
  pub typed : All IsText texts
  pub fit : All (λ place. place < 2 ^ place_width (length texts)) places

-- these are the different texts of the values, and the places of the values among them
pub record AreUses (texts : List (List ℕ)) (places : List ℕ) (values : List (List ℕ)) : Type 0 where
  pub texts_are : first_uses values ≡ texts
  pub places_are : map (place_in (first_uses values)) values ≡ places

-- the bytes are the parts of no list of so many values
abbrev pub HaveNoParts : ℕ → List ℕ → Type 0
HaveNoParts count bytes = (texts : List (List ℕ)) (places : List ℕ) → AreDictionaryParts count texts places
    → bytes ≡ dictionary_parts texts places → ⊥

-- the texts, and this one behind them where it is none of them
abbrev pub with_text : List (List ℕ) → List ℕ → List (List ℕ)
with_text texts text = if list_any (bytes_eq text) texts then texts else texts ++ text ∷ []

-- the place of a text, where it is one of the texts
abbrev pub place_among : List (List ℕ) → List ℕ → Option ℕ
place_among texts text = if list_any (bytes_eq text) texts then Some (place_in texts text) else None

-- the map has the place of each text, and nothing else
pub record IsDictionary (texts : List (List ℕ)) (dictionary : BTreeMap (Bor (List ℕ)) ℕ) : Type 0 where
  pub size : btree_map_len dictionary ≡ length texts
  pub places : (text : List ℕ) → get_by (λ key. slice_cmp nat_cmp text key.now) dictionary ≡ place_among texts text

-- the text is one of the texts, at this place
pub record IsTextPlace (texts : List (List ℕ)) (text : List ℕ) (place : ℕ) : Type 0 where
  pub among : list_any (bytes_eq text) texts ≡ true
  pub place_is : place ≡ place_in texts text

-- some value is the text, and its place is this one
pub record IsKnown (values : List (List ℕ)) (places : List ℕ) (text : List ℕ) (place : ℕ) : Type 0 where
  pub index : ℕ
  pub within : index < length places
  pub value_is : get_or values index text ≡ text
  pub place_is : place ≡ get_or places index place

-- what the texts, with this one, make of a dictionary of the texts
pub record Enters (texts : List (List ℕ)) (text : List ℕ) (place : ℕ) (is_new : Bool)
    (new : BTreeMap (Bor (List ℕ)) ℕ) : Type 0 where
  pub place_is : place ≡ place_in texts text
  pub new_is : is_new ≡ not (list_any (bytes_eq text) texts)
  pub dictionary_is : IsDictionary (with_text texts text) new
