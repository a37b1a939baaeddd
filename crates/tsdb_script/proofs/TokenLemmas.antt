-- A line has one reading.
use Rattle.std.proofs.Common.{◌≡◌, ℕ, true, false, ◌||◌, inl, inr, List, [], ◌∷◌, Option, None, Some, refl, sym, ap, ◌∙◌, subst}
use Rattle.std.specs.Prelude.{◌⊎◌}
use Rattle.std.proofs.lemmas.Bool.{both_ways, cond-false, false≢true, false_from_ne_true, not-true, or_left, or_parts, or_right}
use Rattle.std.proofs.lemmas.Option.{same_Some}
use Rattle.tsdb_script.specs.Types.{Token}
use Rattle.tsdb_script.specs.Steps.{after_blanks, content_parts, token_at, text_at}
use Rattle.tsdb_script.specs.Tokens.{is_blank, is_word_byte, is_quote, is_mark, starts, AreTokensAnd, AreTokens, AreTextAnd, BeginsWithStray, IsBadText, HasNoTokens}
use Rattle.tsdb_script.proofs.LexLemmas.{blanks_unique, content_found, either, here, quote_cases, text_found, token_again}

-- a blank begins no token
token_solid : (bytes : List ℕ) (r : Token × List ℕ) → token_at bytes ≡ Some r → starts is_blank bytes ≡ false
token_solid [] r e = refl
token_solid (b ∷ bytes) r e = false_from_ne_true (is_blank b)
    (λ blank. (let begins : ℕ → Type 0 = λ b. token_at (b ∷ bytes) ≡ None in
    let none = either _ _ (here begins b 32 refl) (here begins b 9 refl) blank in cc))

-- no blank and no token begins here
record IsFinal (bytes : List ℕ) : Type 0 where
  solid : starts is_blank bytes ≡ false
  none : token_at bytes ≡ None

final_end : IsFinal []
final_end = record { solid = refl; none = refl }

final_stray : (bytes : List ℕ) → BeginsWithStray bytes → IsFinal bytes
final_stray [] h = absurd (false≢true h)
final_stray (b ∷ bytes) h =
    let solid = or_parts (is_blank b) (is_word_byte b || (is_quote b || is_mark b)) (not-true _ h) in
    let one = or_parts (is_word_byte b) (is_quote b || is_mark b) solid.1 in
    let two = or_parts (is_quote b) (is_mark b) one.1 in
    record { solid = solid.0; none = cond-false (is_mark b) _ _ two.1 ∙ cond-false (is_quote b) _ _ two.0 ∙ cond-false (is_word_byte b) _ _ one.0 }

quote_solid : (bytes : List ℕ) → starts is_quote bytes ≡ true → starts is_blank bytes ≡ false
quote_solid [] h = refl
quote_solid (b ∷ bytes) h = quote_cases (λ b. is_blank b ≡ false) refl refl b h

-- no token but a text begins with a quote
no_text_found : (bytes : List ℕ) → starts is_quote bytes ≡ true → ((content rest : List ℕ) → ¬ AreTextAnd content bytes rest) → token_at bytes ≡ None
no_text_found [] quote no_text = refl
no_text_found (b ∷ bytes) quote no_text =
    quote_cases (λ b. token_at (b ∷ bytes) ≡ text_at b bytes) refl refl b quote ∙ by_found (text_at b bytes) refl
  where
    by_found : (o : Option (Token × List ℕ)) → text_at b bytes ≡ o → o ≡ None
    by_found None e = refl
    by_found (Some r) e = let t = text_found b bytes (content_parts b bytes) r quote (content_found b bytes) e in absurd (no_text t.0 r.1 t.2)

final_stuck : (rest : List ℕ) (kind : ℕ) → (BeginsWithStray rest × (kind ≡ 3)) ⊎ (IsBadText rest × (kind ≡ 6)) → IsFinal rest
final_stuck rest kind (inl h) = final_stray rest h.0
final_stuck rest kind (inr h) = record { solid = quote_solid rest h.0.begins; none = no_text_found rest h.0.begins h.0.no_text }

-- what the reader finds in a line without tokens, and in one that begins with a token
none_left : (line rest : List ℕ) → IsFinal rest → AreTokensAnd [] line rest → (rest ≡ after_blanks line) × (token_at (after_blanks line) ≡ None)
none_left line rest f h = let same = blanks_unique line rest h f.solid in (same, ap token_at (sym same) ∙ f.none)

one_left : (t : Token) (ts : List Token) (line rest : List ℕ) (h : AreTokensAnd (t ∷ ts) line rest) → token_at (after_blanks line) ≡ Some (t, h.1)
one_left t ts line rest h =
    let found : token_at h.0 ≡ Some (t, h.1) = token_again t h.0 h.1 h.3 in
    ap token_at (sym (blanks_unique line h.0 h.2 (token_solid h.0 (t, h.1) found))) ∙ found

-- up to where no token begins the tokens are the only ones
only_one : (one other : List Token) (line rest rest' : List ℕ) → IsFinal rest → IsFinal rest' → AreTokensAnd one line rest → AreTokensAnd other line rest' → (one ≡ other) × (rest ≡ rest')
only_one [] [] line rest rest' f f' h k = (refl, (none_left line rest f h).0 ∙ sym (none_left line rest' f' k).0)
only_one [] (u ∷ us) line rest rest' f f' h k = let none = (none_left line rest f h).1 in let found = one_left u us line rest' k in cc
only_one (t ∷ ts) [] line rest rest' f f' h k = let none = (none_left line rest' f' k).1 in let found = one_left t ts line rest h in cc
only_one (t ∷ ts) (u ∷ us) line rest rest' f f' h k =
    let both : ◌≡◌ {A = Token × List ℕ} (t, h.1) (u, k.1) = same_Some _ _ (sym (one_left t ts line rest h) ∙ one_left u us line rest' k) in
    let token : t ≡ u = ap (λ (r : Token × List ℕ). r.0) both in
    let more : h.1 ≡ k.1 = ap (λ (r : Token × List ℕ). r.1) both in
    let rec = only_one ts us k.1 rest rest' f f' (subst (λ l. AreTokensAnd ts l rest) more h.4) k.4 in
    (ap (λ t. t ∷ ts) token ∙ ap (λ l. u ∷ l) rec.0, rec.1)

pub same_tokens : (line : List ℕ) (one other : List Token) → AreTokens line one → AreTokens line other → one ≡ other
same_tokens line one other h k = (only_one one other line [] [] final_end final_end h k).0

stray_quote : (bytes : List ℕ) → BeginsWithStray bytes → IsBadText bytes → ⊥
stray_quote [] h k = false≢true h
stray_quote (b ∷ bytes) h k =
    both_ways _ (not-true _ h) (or_right (is_blank b) _ (or_right (is_word_byte b) _ (or_left (is_quote b) (is_mark b) k.begins)))

pub same_kind : (line : List ℕ) (one other : ℕ) → HasNoTokens line one → HasNoTokens line other → one ≡ other
same_kind line one other h k =
    by_cases h.stuck (subst (λ r. (BeginsWithStray r × (other ≡ 3)) ⊎ (IsBadText r × (other ≡ 6))) (sym same) k.stuck)
  where
    same : h.rest ≡ k.rest
    same = (only_one h.tokens k.tokens line h.rest k.rest (final_stuck h.rest one h.stuck) (final_stuck k.rest other k.stuck) h.front k.front).1

    by_cases : (BeginsWithStray h.rest × (one ≡ 3)) ⊎ (IsBadText h.rest × (one ≡ 6)) → (BeginsWithStray h.rest × (other ≡ 3)) ⊎ (IsBadText h.rest × (other ≡ 6)) → one ≡ other
    by_cases (inl a) (inl b) = a.1 ∙ sym b.1
    by_cases (inl a) (inr b) = absurd (stray_quote h.rest a.0 b.0)
    by_cases (inr a) (inl b) = absurd (stray_quote h.rest b.0 a.0)
    by_cases (inr a) (inr b) = a.1 ∙ sym b.1

pub not_both : (line : List ℕ) (tokens : List Token) (kind : ℕ) → AreTokens line tokens → ¬ HasNoTokens line kind
not_both line tokens kind h k =
    let same : [] ≡ k.rest = (only_one tokens k.tokens line [] k.rest final_end (final_stuck k.rest kind k.stuck) h k.front).1 in
    by_cases (subst (λ r. (BeginsWithStray r × (kind ≡ 3)) ⊎ (IsBadText r × (kind ≡ 6))) (sym same) k.stuck)
  where
    by_cases : (BeginsWithStray [] × (kind ≡ 3)) ⊎ (IsBadText [] × (kind ≡ 6)) → ⊥
    by_cases (inl a) = false≢true a.0
    by_cases (inr b) = false≢true b.0.begins
