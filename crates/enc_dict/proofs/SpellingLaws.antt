-- How a spelling is put together.
use Rattle.std.proofs.Common.{◌≡◌, ℕ, ◌-◌, ◌*◌, ◌^◌, ◌<◌, ◌≤◌, Bool, true, false, not, cond, List, [], ◌∷◌, ◌++◌, length, refl, sym, ap, subst, ◌∙◌, append_assoc, arith}
use Rattle.std.specs.Prelude.{map, filter, All, slice_index_or}
use Rattle.std.specs.List.{flat_map, AllByRecursion}
use Rattle.std.specs.Str.{bytes_eq}
use Rattle.std.proofs.lemmas.Nat.{mul-le}
use Rattle.std.proofs.lemmas.List.{append-nil, length-map, length-append, nil_from_length}
use Rattle.std.proofs.lemmas.List.Elements.{All-weaker, All-from_recursion, recursion_from_All}
use Rattle.tsdb_bits.specs.Leb.{leb}
use Rattle.tsdb_bits.specs.Packing.{pack_bytes, binary_digits}
use Rattle.tsdb_bits.proofs.LebLaws.{leb_prefix_free, length-leb}
use Rattle.tsdb_bits.proofs.PackingLaws.{digits_of_number, digits_least, same_from_packed, length-pack_bytes}
use Rattle.tsdb_base.specs.Plain.{plain_text, IsText}
use Rattle.tsdb_base.specs.PlainLaws.{plain_text-prefix_free}
use Rattle.tsdb_base.proofs.PlainLists.{same_values}
use Rattle.tsdb_bits.specs.Lists.{IsListOf, IsSpelling, HasOneSpelling}
use Rattle.enc_dict.specs.Steps.{AreDictionaryParts, AreUses}
use Rattle.enc_dict.specs.Spelling.{first_uses, place_in, place_width, dictionary_parts, spelling}
use Rattle.enc_dict.proofs.FirstUses.{AreAmong, all_used, place_within, places_within, length-first_uses, texts_back}

pub spelling-none : (values : List (List ℕ)) → length values ≡ 0 → spelling values ≡ leb (length values)
unfolding spelling
spelling-none [] none = refl
spelling-none (x ∷ xs) none = absurd (omega arith)

pub spelling-some : (values : List (List ℕ)) → 0 < length values → spelling values ≡ leb (length values) ++ dictionary_parts (first_uses values) (map (place_in (first_uses values)) values)
unfolding spelling
spelling-some [] some = absurd (omega arith)
spelling-some (x ∷ xs) some = refl

-- a place among so many texts is below 2 to the power of its width
pub below_width : (count place : ℕ) → place < count → place < 2 ^ place_width count
below_width count place lt =
    let digits = (digits_of_number (count - 1)).below in
    omega (arith, digits)

pub places_fit : (values : List (List ℕ)) → All (λ place. place < 2 ^ place_width (length (first_uses values))) (map (place_in (first_uses values)) values)
places_fit values = All-weaker (λ place. place < length (first_uses values)) (λ place. place < 2 ^ place_width (length (first_uses values))) (below_width (length (first_uses values))) (map (place_in (first_uses values)) values) (places_within values)

-- a width of places fits, since a list has at most 1,000 values
pub width_fits : (count : ℕ) → count ≤ 2 ^ 64 → place_width count ≤ 64
width_fits count le = digits_least (count - 1) (binary_digits (count - 1)) 64 (digits_of_number (count - 1)) (omega arith)

-- the bytes as they are put together
pub put_together : (out count texts places front : List ℕ) → (((out ++ count) ++ front) ++ texts) ++ places ≡ out ++ (count ++ (front ++ (texts ++ places)))
put_together out count texts places front = simp append_assoc

-- what stands behind the number of values
pub tail_of : List (List ℕ) → List ℕ
tail_of [] = []
tail_of (x ∷ xs) = dictionary_parts (first_uses (x ∷ xs)) (map (place_in (first_uses (x ∷ xs))) (x ∷ xs))

pub spelling-tail : (values : List (List ℕ)) → spelling values ≡ leb (length values) ++ tail_of values
unfolding spelling tail_of
spelling-tail [] = sym (append-nil (leb 0))
spelling-tail (x ∷ xs) = refl

tail-some : (values : List (List ℕ)) → 0 < length values → tail_of values ≡ dictionary_parts (first_uses values) (map (place_in (first_uses values)) values)
unfolding tail_of
tail-some [] some = absurd (omega arith)
tail-some (x ∷ xs) some = refl

-- a list whose spelling begins with a number has so many values
pub count_is_length : (values : List (List ℕ)) (count : ℕ) (bytes rest : List ℕ) → bytes ≡ leb count ++ rest → bytes ≡ spelling values → length values ≡ count
count_is_length values count bytes rest e spelled = sym (leb_prefix_free count (length values) rest (tail_of values) (sym e ∙ spelled ∙ spelling-tail values)).0

-- nothing stands behind a count of 0
pub nothing_behind : (values : List (List ℕ)) (count : ℕ) (bytes rest : List ℕ) → count ≡ 0 → bytes ≡ leb count ++ rest → bytes ≡ spelling values → rest ≡ []
unfolding tail_of
nothing_behind values count bytes rest zero e has =
    let same = leb_prefix_free count (length values) rest (tail_of values) (sym e ∙ has ∙ spelling-tail values) in
    let none : values ≡ [] = nil_from_length values (sym same.0 ∙ zero) in
    same.1 ∙ ap tail_of none

-- behind the number of values stand their parts
pub parts_behind : (values : List (List ℕ)) (count : ℕ) (bytes rest : List ℕ) → 0 < count → bytes ≡ leb count ++ rest → bytes ≡ spelling values → rest ≡ dictionary_parts (first_uses values) (map (place_in (first_uses values)) values)
parts_behind values count bytes rest some e spelled =
    let same = leb_prefix_free count (length values) rest (tail_of values) (sym e ∙ spelled ∙ spelling-tail values) in
    same.1 ∙ tail-some values (omega (arith, same.0))

filter_texts : (p : List ℕ → Bool) (xs : List (List ℕ)) → AllByRecursion IsText xs → AllByRecursion IsText (filter p xs)
filter_texts p [] h = tt
filter_texts p (x ∷ xs) h =
    let rest : AllByRecursion IsText (filter p xs) = filter_texts p xs h.1 in
    elim (p x) as (λ b. AllByRecursion IsText (cond b (x ∷ filter p xs) (filter p xs))) [ true ↦ (h.0, rest) | false ↦ rest ]

uses_by_recursion : (xs : List (List ℕ)) → AllByRecursion IsText xs → AllByRecursion IsText (first_uses xs)
unfolding first_uses
uses_by_recursion [] h = tt
uses_by_recursion (x ∷ xs) h = (h.0, filter_texts (λ other. not (bytes_eq x other)) (first_uses xs) (uses_by_recursion xs h.1))

pub uses_are_texts : (xs : List (List ℕ)) → All IsText xs → All IsText (first_uses xs)
uses_are_texts xs h = All-from_recursion IsText (first_uses xs) (uses_by_recursion xs (recursion_from_All IsText xs h))

-- two pairs of texts and places with the same bytes are equal
pub same_parts : (texts others : List (List ℕ)) (places other_places : List ℕ) → All IsText texts → All IsText others → length places ≡ length other_places
    → All (λ place. place < 2 ^ place_width (length texts)) places → All (λ place. place < 2 ^ place_width (length others)) other_places → dictionary_parts texts places ≡ dictionary_parts others other_places → (texts ≡ others) × (places ≡ other_places)
same_parts texts others places other_places is_t is_o len fit_t fit_o e =
    let lengths = leb_prefix_free (length texts) (length others) (flat_map plain_text texts ++ pack_bytes (place_width (length texts)) places) (flat_map plain_text others ++ pack_bytes (place_width (length others)) other_places) e in
    let both = same_values plain_text IsText plain_text-prefix_free texts others (pack_bytes (place_width (length texts)) places) (pack_bytes (place_width (length others)) other_places) lengths.0 is_t is_o lengths.1 in
    let back : length others ≡ length texts = sym lengths.0 in
    let fit : All (λ place. place < 2 ^ place_width (length texts)) other_places = subst (λ (n : ℕ). All (λ place. place < 2 ^ place_width n) other_places) back fit_o in
    let packings : pack_bytes (place_width (length texts)) places ≡ pack_bytes (place_width (length texts)) other_places = both.1 ∙ ap (λ (n : ℕ). pack_bytes (place_width n) other_places) back in
    (both.0, same_from_packed (place_width (length texts)) places other_places len fit_t fit packings)

-- the places of a list's values: as many as the values
length-places : (values : List (List ℕ)) → length (map (place_in (first_uses values)) values) ≡ length values
length-places values = length-map values (place_in (first_uses values))

-- a list's parts are the texts and places that were read, and at these places stand its values
pub read_back : (values texts : List (List ℕ)) (places : List ℕ) (count : ℕ) (bytes rest : List ℕ) → 0 < count → bytes ≡ leb count ++ rest → rest ≡ dictionary_parts texts places → length places ≡ count → All IsText texts → All (λ place. place < 2 ^ place_width (length texts)) places
    → All IsText values → bytes ≡ spelling values → (texts ≡ first_uses values) × (places ≡ map (place_in (first_uses values)) values)
read_back values texts places count bytes rest some e read len is_t fit is_v spelled =
    let mine = parts_behind values count bytes rest some e spelled in
    let number = count_is_length values count bytes rest e spelled in
    let lengths : length places ≡ length (map (place_in (first_uses values)) values) = omega (arith, len, number, length-places values) in
    same_parts texts (first_uses values) places (map (place_in (first_uses values)) values) is_t (uses_are_texts values is_v) lengths fit (places_fit values) (sym read ∙ mine)

-- so these are the values
pub values_back : (values texts : List (List ℕ)) (places : List ℕ) → (texts ≡ first_uses values) × (places ≡ map (place_in (first_uses values)) values) → values ≡ map (λ place. slice_index_or texts place []) places
values_back values texts places same = rw (same.0, same.1) (sym (texts_back values []))

-- the texts and places that were read are those of a list with the bytes
pub uses_back : (values texts : List (List ℕ)) (places : List ℕ) (count : ℕ) (bytes rest : List ℕ) → 0 < count → bytes ≡ leb count ++ rest → rest ≡ dictionary_parts texts places → AreDictionaryParts count texts places → IsSpelling spelling IsText bytes values → AreUses texts places values
uses_back values texts places count bytes rest some e read are is =
    let same = read_back values texts places count bytes rest some e read are.size are.typed are.fit is.list.typed is.bytes_are in
    record { texts_are = sym same.0; places_are = sym same.1 }

-- where no parts were read, no list is spelled
pub no_parts : (values : List (List ℕ)) (count : ℕ) (bytes rest : List ℕ) → IsSpelling spelling IsText bytes values → 0 < count → bytes ≡ leb count ++ rest
    → ((texts : List (List ℕ)) (places : List ℕ) → AreDictionaryParts count texts places → rest ≡ dictionary_parts texts places → ⊥) → ⊥
no_parts values count bytes rest is some e none =
    let number = count_is_length values count bytes rest e is.bytes_are in
    let are : AreDictionaryParts count (first_uses values) (map (place_in (first_uses values)) values) = record {
      few = omega (arith, number, length-first_uses values);
      size = length-places values ∙ number;
      typed = uses_are_texts values is.list.typed;
      fit = places_fit values;
    } in
    none (first_uses values) (map (place_in (first_uses values)) values) are (parts_behind values count bytes rest some e is.bytes_are)

-- behind texts that were read stands what is packed
pub packed_behind : (texts read : List (List ℕ)) (places : List ℕ) (different : ℕ) (bytes middle rest : List ℕ) → bytes ≡ leb different ++ middle → middle ≡ flat_map plain_text read ++ rest → length read ≡ different → All IsText read → All IsText texts → bytes ≡ dictionary_parts texts places
    → rest ≡ pack_bytes (place_width (length texts)) places
packed_behind texts read places different bytes middle rest e parted len is_r is_t whole =
    let front = leb_prefix_free different (length texts) middle (flat_map plain_text texts ++ pack_bytes (place_width (length texts)) places) (sym e ∙ whole) in
    (same_values plain_text IsText plain_text-prefix_free read texts rest (pack_bytes (place_width (length texts)) places) (len ∙ front.0) is_r is_t (sym parted ∙ front.1)).1

-- behind the number of texts stand these
pub texts_behind : (texts : List (List ℕ)) (places : List ℕ) (different : ℕ) (bytes middle : List ℕ) → bytes ≡ leb different ++ middle → bytes ≡ dictionary_parts texts places
    → (length texts ≡ different) × (middle ≡ flat_map plain_text texts ++ pack_bytes (place_width (length texts)) places)
texts_behind texts places different bytes middle e whole =
    let front = leb_prefix_free different (length texts) middle (flat_map plain_text texts ++ pack_bytes (place_width (length texts)) places) (sym e ∙ whole) in
    (sym front.0, front.1)

by_cases : (xs ys : List (List ℕ)) → All IsText xs → All IsText ys → spelling xs ≡ spelling ys → xs ≡ ys
by_cases [] [] is_x is_y e = refl
by_cases [] (y ∷ ys) is_x is_y e = absurd (omega (arith, count_is_length [] (length (y ∷ ys)) (spelling []) (tail_of (y ∷ ys)) (e ∙ spelling-tail (y ∷ ys)) refl))
by_cases (x ∷ xs) ys is_x is_y e =
    let start = spelling-tail (x ∷ xs) in
    let count = count_is_length ys (length (x ∷ xs)) (spelling (x ∷ xs)) (tail_of (x ∷ xs)) start e in
    let mine = (tail-some (x ∷ xs) (omega arith)) in
    let same = read_back ys (first_uses (x ∷ xs)) (map (place_in (first_uses (x ∷ xs))) (x ∷ xs)) (length (x ∷ xs)) (spelling (x ∷ xs)) (tail_of (x ∷ xs)) (omega arith) start mine (length-places (x ∷ xs)) (uses_are_texts (x ∷ xs) is_x) (places_fit (x ∷ xs)) is_y e in
    sym (texts_back (x ∷ xs) []) ∙ sym (values_back ys (first_uses (x ∷ xs)) (map (place_in (first_uses (x ∷ xs))) (x ∷ xs)) same)

pub same_from_spelling : HasOneSpelling spelling IsText
same_from_spelling xs ys is_x is_y e = by_cases xs ys is_x.typed is_y.typed e

-- ---- values from their texts and places

typed_by_recursion : (ks us : List (List ℕ)) → All IsText ks → AreAmong ks us → AllByRecursion IsText us
typed_by_recursion ks [] typed h = tt
typed_by_recursion ks (u ∷ us) typed h =
    let at = place_within ks u [] h.0 in
    (subst IsText at.1 (typed (place_in ks u) [] at.0), typed_by_recursion ks us typed h.1)

-- the list whose texts and places were read has the bytes
pub is_spelling : (values texts : List (List ℕ)) (places : List ℕ) (count : ℕ) (bytes rest : List ℕ) → 0 < count → count ≤ 1000 → bytes ≡ leb count ++ rest → rest ≡ dictionary_parts texts places → AreDictionaryParts count texts places → AreUses texts places values
    → IsSpelling spelling IsText bytes values
is_spelling values texts places count bytes rest some few e read are is =
    let number : length values ≡ count = sym (length-places values) ∙ ap length is.places_are ∙ are.size in
    let typed : All IsText (first_uses values) = subst (λ (l : List (List ℕ)). All IsText l) (sym is.texts_are) are.typed in
    record {
      list = record { few = omega (arith, number, few); typed = All-from_recursion IsText values (typed_by_recursion (first_uses values) values typed (all_used values)) };
      bytes_are = e ∙ ap (λ (n : ℕ). leb n ++ rest) (sym number)
          ∙ ap (λ (t : List ℕ). leb (length values) ++ t) (read ∙ ap (λ (ts : List (List ℕ)). dictionary_parts ts places) (sym is.texts_are) ∙ ap (dictionary_parts (first_uses values)) (sym is.places_are))
          ∙ sym (spelling-some values (omega (arith, number, some)));
    }

-- ---- the number of bytes

length-texts : (texts : List (List ℕ)) → AllByRecursion IsText texts → length (flat_map plain_text texts) ≤ 65537 * length texts
length-texts [] h = omega arith
length-texts (t ∷ ts) h = omega (arith, length-texts ts h.1, h.0, length-append (plain_text t) (flat_map plain_text ts))

length-tail : (values : List (List ℕ)) → IsListOf IsText values → length (tail_of values) < 2 ^ 29
unfolding tail_of
length-tail [] is = omega arith
length-tail (x ∷ xs) is =
    let values = x ∷ xs in
    let texts = first_uses values in
    let places = map (place_in texts) values in
    let few : length texts ≤ 1000 = omega (arith, length-first_uses values, is.few) in
    let width : place_width (length texts) ≤ 64 = width_fits (length texts) (omega arith) in
    let number : length places ≤ 1000 = omega (arith, length-places values, is.few) in
    let bits = mul-le (length places) (place_width (length texts)) 1000 64 number width in
    let body = length-texts texts (recursion_from_All IsText texts (uses_are_texts values is.typed)) in
    let head : length (leb (length texts)) ≤ 10 = length-leb 9 (length texts) (omega arith) in
    omega (
      arith,
      length-append (leb (length texts)) (flat_map plain_text texts ++ pack_bytes (place_width (length texts)) places),
      length-append (flat_map plain_text texts) (pack_bytes (place_width (length texts)) places),
      length-pack_bytes (place_width (length texts)) places,
      bits,
      body,
      head,
      few,
    )

pub length-spelling : (values : List (List ℕ)) → IsListOf IsText values → length (spelling values) < 2 ^ 30
length-spelling values is =
    let count : length (leb (length values)) ≤ 10 = length-leb 9 (length values) (omega (arith, is.few)) in
    let whole = length-append (leb (length values)) (tail_of values) in
    omega (arith, ap length (spelling-tail values), whole, count, length-tail values is)
