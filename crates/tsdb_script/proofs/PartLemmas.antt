-- The loops of the parser: the items of a list, the places of a form, and the forms.
use Rattle.std.proofs.Common.{◌≡◌, ◌≤◌, ◌<◌, ◌+◌, ◌-◌, ℕ, zero, suc, Bool, true, false, true≢false, cond, drop, inl, inr, List, [], ◌∷◌, ◌++◌, Option, None, Some, option_map, refl, sym, ap, ◌∙◌, append_assoc, append-nil, arith}
use Rattle.std.specs.Prelude.{◌⊎◌, ◌&&◌}
use Rattle.std.proofs.lemmas.Bool.{cond-false, cond-true}
use Rattle.tsdb_script.specs.Types.{SyntaxPart, FormPlace, Token}
use Rattle.tsdb_script.specs.Forms.{is_at}
use Rattle.tsdb_script.specs.Parse.{Tokens, items_at, stands_at, fixed_at, is_keyword_place, begins_at, part_at, before_parts, parts_at, end_at, ◌>>=◌}
use Rattle.tsdb_script.proofs.FormLemmas.{leads}
use Rattle.tsdb_script.proofs.TextLemmas.{with_front, with_front-onto}

module _ {X : Type 0} (between : FormPlace) (item : Tokens → Option (X × Tokens)) where
  -- one more item
  pub items_step : (turns : ℕ) (tokens inner rest : Tokens) (front : List X) (x : X) (all : Option (List X × Tokens))
      → 0 < turns → stands_at between tokens ≡ true → fixed_at between tokens ≡ Some inner → item inner ≡ Some (x, rest)
      → option_map (with_front front) (items_at between item turns tokens) ≡ all
      → option_map (with_front (front ++ x ∷ [])) (items_at between item (turns - 1) rest) ≡ all
  items_step zero tokens inner rest front x all some is taken found so_far = absurd (omega (arith, some))
  items_step (suc n) tokens inner rest front x all some is taken found so_far =
      let one : suc n - 1 ≡ n = omega arith in
      ap (λ k. option_map (with_front (front ++ x ∷ [])) (items_at between item k rest)) one
      ∙ sym (with_front-onto front x (items_at between item n rest))
      ∙ sym (ap (option_map (with_front front)) (cond-true (stands_at between tokens) _ _ is
      ∙ leads _ inner _ _ taken (leads (item inner) (x, rest) _ _ found refl)))
      ∙ so_far

  -- no further item, or no further turn
  pub items_over : (turns : ℕ) (tokens : Tokens) (front : List X) (all : Option (List X × Tokens)) → (turns ≤ 0) ⊎ (stands_at between tokens ≡ false)
      → option_map (with_front front) (items_at between item turns tokens) ≡ all → all ≡ Some (front, tokens)
  items_over zero tokens front all over so_far = sym so_far ∙ ap (λ l. Some (l, tokens)) (append-nil front)
  items_over (suc n) tokens front all (inl none) so_far = absurd (omega (arith, none))
  items_over (suc n) tokens front all (inr is) so_far =
      sym so_far ∙ ap (option_map (with_front front)) (cond-false (stands_at between tokens) _ _ is) ∙ ap (λ l. Some (l, tokens)) (append-nil front)

-- ---- the keywords that a form begins with

next_left : (at : ℕ) (tokens : Tokens) (t : Token) (rest : Tokens) → drop at tokens ≡ t ∷ rest → drop (at + 1) tokens ≡ rest
next_left zero tokens t rest e = ap (drop 1) e
next_left (suc n) [] t rest e = cc
next_left (suc n) (x ∷ tokens) t rest e =
    let one : suc n + 1 ≡ suc (n + 1) = omega arith in
    ap (λ k. drop k (x ∷ tokens)) one ∙ next_left n tokens t rest e

begins_step : (left : Tokens) (row behind : List FormPlace) (p : FormPlace) (all : Bool) → row ≡ p ∷ behind → is_keyword_place p ≡ true → stands_at p left ≡ true → begins_at row left ≡ all
    → (t : Token) × (rest : Tokens) × (left ≡ t ∷ rest) × (begins_at behind rest ≡ all)
begins_step [] row behind p all e key stands so_far = absurd (true≢false (sym stands))
begins_step (t ∷ rest) row behind p all e key stands so_far =
    (t, rest, refl, sym (ap (λ l. begins_at l (t ∷ rest)) e ∙ ap (λ b. cond b (is_at p t && begins_at behind rest) true) key ∙ ap (λ b. b && begins_at behind rest) stands) ∙ so_far)

pub begins_next : (at : ℕ) (tokens : Tokens) (row behind : List FormPlace) (p : FormPlace) (all : Bool) → row ≡ p ∷ behind → is_keyword_place p ≡ true → stands_at p (drop at tokens) ≡ true
    → begins_at row (drop at tokens) ≡ all → begins_at behind (drop (at + 1) tokens) ≡ all
begins_next at tokens row behind p all e key stands so_far =
    let s = begins_step (drop at tokens) row behind p all e key stands so_far in
    ap (begins_at behind) (next_left at tokens s.0 s.1 s.2) ∙ s.3

-- ---- the parts at the places of a form

abbrev pub behind_parts : List SyntaxPart → List SyntaxPart → List SyntaxPart
behind_parts front parts = front ++ parts

module _ (row behind : List FormPlace) (p : FormPlace) (tokens : Tokens) (front : List SyntaxPart) (all : Option (List SyntaxPart)) (e : row ≡ p ∷ behind) (so_far : option_map (behind_parts front) (parts_at row tokens) ≡ all) where
  at_place : (o : Option (Option SyntaxPart × Tokens)) → part_at p tokens ≡ o
      → option_map (behind_parts front) (o >>= (λ found. option_map (before_parts found.0) (parts_at behind found.1))) ≡ all
  at_place o found =
      sym (ap (λ l. option_map (behind_parts front) (parts_at l tokens)) e
      ∙ ap (λ o. option_map (behind_parts front) (o >>= (λ found. option_map (before_parts found.0) (parts_at behind found.1)))) found) ∙ so_far

  -- a place without a part
  pub read_fixed : (rest : Tokens) → part_at p tokens ≡ Some (None, rest) → option_map (behind_parts front) (parts_at behind rest) ≡ all
  read_fixed rest found = plain (parts_at behind rest) ∙ at_place _ found
    where
      plain : (o : Option (List SyntaxPart)) → option_map (behind_parts front) o ≡ option_map (behind_parts front) (option_map (before_parts None) o)
      plain None = refl
      plain (Some parts) = refl

  -- a place with a part
  pub read_part : (rest : Tokens) (x : SyntaxPart) → part_at p tokens ≡ Some (Some x, rest) → option_map (behind_parts (front ++ x ∷ [])) (parts_at behind rest) ≡ all
  read_part rest x found = onto_front (parts_at behind rest) ∙ at_place _ found
    where
      onto_front : (o : Option (List SyntaxPart)) → option_map (behind_parts (front ++ x ∷ [])) o ≡ option_map (behind_parts front) (option_map (before_parts (Some x)) o)
      onto_front None = refl
      onto_front (Some parts) = ap (λ (l : List SyntaxPart). Some l) (append_assoc front (x ∷ []) parts)

  -- a place at which nothing stands that fits
  pub read_out : part_at p tokens ≡ None → all ≡ None
  read_out none = sym (at_place None none)

-- no further place
module _ (row : List FormPlace) (tokens : Tokens) (front : List SyntaxPart) (all : Option (List SyntaxPart)) (e : row ≡ []) (so_far : option_map (behind_parts front) (parts_at row tokens) ≡ all) where
  pub read_end : (u : Unit {0}) → end_at tokens ≡ Some u → all ≡ Some front
  read_end u end =
      sym so_far ∙ ap (λ l. option_map (behind_parts front) (parts_at l tokens)) e
      ∙ ap (λ o. option_map (behind_parts front) (o >>= (λ nothing. Some []))) end ∙ ap (λ (l : List SyntaxPart). Some l) (append-nil front)

  pub read_bad : end_at tokens ≡ None → all ≡ None
  read_bad none =
      sym so_far ∙ ap (λ l. option_map (behind_parts front) (parts_at l tokens)) e
      ∙ ap (λ o. option_map (behind_parts front) (o >>= (λ nothing. Some []))) none
