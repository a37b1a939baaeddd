-- What stands between two quotes, and its content.
use Rattle.std.proofs.Common.{◌≡◌, ◌<◌, ◌+◌, ℕ, true, false, cond, eqb, List, [], ◌∷◌, ◌++◌, length, take, drop, get_or, Bool, inl, inr, Option, None, Some, option_map, refl, sym, ap, ◌∙◌, append_assoc, append-nil, length-append, arith}
use Rattle.std.proofs.lemmas.Bool.{cond_both, cond-false, cond-true, eqb-true, false≢true, cases_lt}
use Rattle.std.proofs.lemmas.Iterator.Adapters.{option_map_id}
use Rattle.std.proofs.lemmas.List.{take_more, drop_more, drop_all}
use Rattle.std.proofs.lemmas.List.Concat.{flat_map-append}
use Rattle.tsdb_base.specs.Notation.{escape}
use Rattle.tsdb_script.specs.Steps.{content_parts, unescape, onto}
use Rattle.tsdb_script.specs.Tokens.{starts}

abbrev pub with_front : {X Y : Type 0} → List X → List X × Y → List X × Y
with_front front parts = (front ++ parts.0, parts.1)

-- the bytes in front are this content with each quote doubled, and what is read behind them goes on with it
pub record IsContentSoFar (quote : ℕ) (bytes : List ℕ) (at count : ℕ) : Type 0 where
  pub content : List ℕ
  pub front : take at bytes ≡ escape quote content
  pub count_is : count ≡ length content
  pub parts : content_parts quote bytes ≡ option_map (with_front content) (content_parts quote (drop at bytes))

-- a byte that is no quote is doubled to itself, and a quote to two
escape-push : (quote b : ℕ) (content : List ℕ) (t : Bool) → eqb b quote ≡ t
    → escape quote (content ++ b ∷ []) ≡ escape quote content ++ (cond t (b ∷ b ∷ []) (b ∷ []) ++ [])
escape-push quote b content t is =
    flat_map-append (λ b. cond (eqb b quote) (b ∷ b ∷ []) (b ∷ [])) content (b ∷ [])
    ∙ ap (λ t. escape quote content ++ (cond t (b ∷ b ∷ []) (b ∷ []) ++ [])) is

pub with_front-onto : {X Y : Type 0} (front : List X) (x : X) (o : Option (List X × Y))
    → option_map (with_front front) (option_map (onto x) o) ≡ option_map (with_front (front ++ x ∷ [])) o
with_front-onto front x None = refl
with_front-onto front x (Some parts) = ap (λ l. Some (l, parts.1)) (sym (append_assoc front (x ∷ []) parts.0))

-- one step of what is read
pub content_parts-other : (quote b : ℕ) (bytes : List ℕ) → eqb b quote ≡ false → content_parts quote (b ∷ bytes) ≡ option_map (onto b) (content_parts quote bytes)
content_parts-other quote b [] other = cond-false (eqb b quote) _ _ other
content_parts-other quote b (c ∷ bytes) other = cond-false (eqb b quote) _ _ other

pub content_parts-pair : (quote b c : ℕ) (bytes : List ℕ) → eqb b quote ≡ true → eqb c quote ≡ true → content_parts quote (b ∷ c ∷ bytes) ≡ option_map (onto b) (content_parts quote bytes)
content_parts-pair quote b c bytes same again = cond-true (eqb b quote) _ _ same ∙ cond-true (eqb c quote) _ _ again

pub content_parts-end : (quote b : ℕ) (bytes : List ℕ) → eqb b quote ≡ true → starts (λ b. eqb b quote) bytes ≡ false → content_parts quote (b ∷ bytes) ≡ Some ([], bytes)
content_parts-end quote b [] same other = cond-true (eqb b quote) _ _ same
content_parts-end quote b (c ∷ bytes) same other = cond-true (eqb b quote) _ _ same ∙ cond-false (eqb c quote) _ _ other

-- undoubling undoes doubling
unescape-other : (quote b : ℕ) (bytes : List ℕ) → eqb b quote ≡ false → unescape quote (b ∷ bytes) ≡ b ∷ unescape quote bytes
unescape-other quote b [] other = refl
unescape-other quote b (c ∷ bytes) other = cond-false (eqb b quote) _ _ other

pub unescape-escape : (quote : ℕ) (content : List ℕ) → unescape quote (escape quote content) ≡ content
unescape-escape quote [] = refl
unescape-escape quote (b ∷ content) = cond_both (eqb b quote) _ _ (λ front. unescape quote (front ++ escape quote content) ≡ b ∷ content)
    (λ e. cond-true (eqb b quote) _ _ e ∙ ap (λ l. b ∷ l) (unescape-escape quote content))
    (λ e. unescape-other quote b (escape quote content) e ∙ ap (λ l. b ∷ l) (unescape-escape quote content))

-- the first byte of what is left
first_is : (bytes : List ℕ) (at : ℕ) (test : ℕ → Bool) → at < length bytes → starts test (drop at bytes) ≡ test (get_or bytes at 0)
first_is bytes at test within = ap (starts test) (drop_more bytes at 0 within)

-- one more byte of the content
pub content_more_other : (quote : ℕ) (bytes : List ℕ) (at count : ℕ) → at < length bytes → starts (λ b. eqb b quote) (drop at bytes) ≡ false
    → IsContentSoFar quote bytes at count → IsContentSoFar quote bytes (at + 1) (count + 1)
content_more_other quote bytes at count within other so_far =
    let b : ℕ = get_or bytes at 0 in
    let is : eqb b quote ≡ false = sym (first_is bytes at (λ b. eqb b quote) within) ∙ other in
    record {
      content = so_far.content ++ b ∷ [];
      front = take_more bytes at 0 within ∙ ap (λ l. l ++ b ∷ []) so_far.front ∙ sym (escape-push quote b so_far.content false is);
      count_is = omega (arith, so_far.count_is, length-append so_far.content (b ∷ []));
      parts = so_far.parts
          ∙ ap (λ l. option_map (with_front so_far.content) (content_parts quote l)) (drop_more bytes at 0 within)
          ∙ ap (option_map (with_front so_far.content)) (content_parts-other quote b (drop (at + 1) bytes) is)
          ∙ with_front-onto so_far.content b (content_parts quote (drop (at + 1) bytes));
    }

-- one more quote, which stands twice
pub content_more_pair : (quote : ℕ) (bytes : List ℕ) (at count : ℕ) → at < length bytes → starts (λ b. eqb b quote) (drop at bytes) ≡ true → starts (λ b. eqb b quote) (drop (at + 1) bytes) ≡ true
    → at + 1 < length bytes → IsContentSoFar quote bytes at count → IsContentSoFar quote bytes (at + 2) (count + 1)
content_more_pair quote bytes at count within same again within' so_far =
    let b : ℕ = get_or bytes at 0 in
    let c : ℕ = get_or bytes (at + 1) 0 in
    let is : eqb b quote ≡ true = sym (first_is bytes at (λ b. eqb b quote) within) ∙ same in
    let is' : eqb c quote ≡ true = sym (first_is bytes (at + 1) (λ b. eqb b quote) within') ∙ again in
    let twin : c ≡ b = eqb-true c quote is' ∙ sym (eqb-true b quote is) in
    let two : at + 2 ≡ at + 1 + 1 = omega arith in
    record {
      content = so_far.content ++ b ∷ [];
      front = ap (λ n. take n bytes) two ∙ take_more bytes (at + 1) 0 within'
          ∙ ap (λ l. l ++ c ∷ []) (take_more bytes at 0 within)
          ∙ append_assoc (take at bytes) (b ∷ []) (c ∷ [])
          ∙ ap (λ c. take at bytes ++ b ∷ c ∷ []) twin
          ∙ ap (λ l. l ++ b ∷ b ∷ []) so_far.front ∙ sym (escape-push quote b so_far.content true is);
      count_is = omega (arith, so_far.count_is, length-append so_far.content (b ∷ []));
      parts = so_far.parts
          ∙ ap (λ l. option_map (with_front so_far.content) (content_parts quote l)) (drop_more bytes at 0 within ∙ ap (λ l. b ∷ l) (drop_more bytes (at + 1) 0 within'))
          ∙ ap (option_map (with_front so_far.content)) (content_parts-pair quote b c (drop (at + 1 + 1) bytes) is is')
          ∙ with_front-onto so_far.content b (content_parts quote (drop (at + 1 + 1) bytes))
          ∙ ap (λ n. option_map (with_front (so_far.content ++ b ∷ [])) (content_parts quote (drop n bytes))) (sym two);
    }

-- with a byte that starts what is left, something is left
pub some_left : (bytes : List ℕ) (at : ℕ) (test : ℕ → Bool) → starts test (drop at bytes) ≡ true → at < length bytes
some_left bytes at test is =
    elim (cases_lt at (length bytes)) [
      | inl h ↦ h
      | inr h ↦ absurd (false≢true (sym (ap (starts test) (drop_all at bytes h)) ∙ is))
    ]

-- the quote that ends the text
pub content_ended : (quote : ℕ) (bytes : List ℕ) (at count : ℕ) → at < length bytes → starts (λ b. eqb b quote) (drop at bytes) ≡ true → starts (λ b. eqb b quote) (drop (at + 1) bytes) ≡ false
    → IsContentSoFar quote bytes at count → (Some (unescape quote (take at bytes), drop (at + 1) bytes) ≡ content_parts quote bytes) × (count ≡ length (unescape quote (take at bytes)))
content_ended quote bytes at count within same other so_far =
    let b : ℕ = get_or bytes at 0 in
    let is : eqb b quote ≡ true = sym (first_is bytes at (λ b. eqb b quote) within) ∙ same in
    let content : unescape quote (take at bytes) ≡ so_far.content = ap (unescape quote) so_far.front ∙ unescape-escape quote so_far.content in (
      ap (λ l. Some (l, drop (at + 1) bytes)) content
          ∙ ap (λ l. Some (l, drop (at + 1) bytes)) (sym (append-nil so_far.content))
          ∙ sym (so_far.parts
          ∙ ap (λ l. option_map (with_front so_far.content) (content_parts quote l)) (drop_more bytes at 0 within)
          ∙ ap (option_map (with_front so_far.content)) (content_parts-end quote b (drop (at + 1) bytes) is other)),
      so_far.count_is ∙ sym (ap length content),
    )

pub content_none : (quote : ℕ) (bytes : List ℕ) → IsContentSoFar quote bytes 0 0
content_none quote bytes = record { content = []; front = refl; count_is = refl; parts = sym (option_map_id (content_parts quote bytes)) }
