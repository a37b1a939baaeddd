-- The tokens of a line, as the reader finds them.
use Rattle.std.proofs.Common.{◌≡◌, ◌≤◌, ◌<◌, ℕ, Bool, true, false, cond, eqb, leb, ◌||◌, inl, inr, List, [], ◌∷◌, ◌++◌, length, Option, None, Some, option_map, refl, sym, ap, ◌∙◌, subst, append_assoc, length-append, arith}
use Rattle.std.specs.Prelude.{All, IsTrue, MatchBool, not, option_and_then}
use Rattle.std.proofs.lemmas.Bool.{cond_both, cond-false, cond-true, eqb-true, false≢true, false_from_ne_true, or_cases, or_from, leb-true, le-leb, eq-eqb}
use Rattle.std.proofs.lemmas.List.Elements.{All-nil, All-cons, All-head, All-tail}
use Rattle.std.proofs.lemmas.Option.{cond_some, same_Some}
use Rattle.tsdb_base.specs.Notation.{escape}
use Rattle.tsdb_script.specs.Types.{LineFault, Token}
use Rattle.tsdb_script.specs.declared.token.Token.TheVariants.{Word, Text, Less, LessEqual, Greater, GreaterEqual}
use Rattle.tsdb_script.specs.declared.fault.LineFault.TheVariants.{Bad}
use Rattle.tsdb_script.specs.Steps.{FaultsWith, after_blanks, word_parts, onto, content_parts, short_text, or_equal, mark_at, token_at}
use Rattle.tsdb_script.specs.Tokens.{is_blank, is_word_byte, is_quote, is_mark, starts, AreWordAnd, AreTextAnd, BeginsWithToken, AreBlanksAnd, AreTokensAnd, BeginsWithStray, IsBadText, HasNoTokens}
use Rattle.tsdb_script.proofs.TextLemmas.{content_parts-other, content_parts-pair, content_parts-end}

-- blanks

pub after_blanks_is : (bytes : List ℕ) → AreBlanksAnd bytes (after_blanks bytes)
after_blanks_is [] = record { blanks = []; whole = refl; blank = All-nil (λ b. IsTrue (is_blank b)) }
after_blanks_is (b ∷ bytes) =
    let more : AreBlanksAnd bytes (after_blanks bytes) = after_blanks_is bytes in
    cond_both (is_blank b) _ _ (AreBlanksAnd (b ∷ bytes))
    (λ e. record { blanks = b ∷ more.blanks; whole = ap (λ l. b ∷ l) more.whole; blank = All-cons (λ b. IsTrue (is_blank b)) b _ e more.blank })
    (λ e. record { blanks = []; whole = refl; blank = All-nil (λ b. IsTrue (is_blank b)) })

pub after_blanks_solid : (bytes : List ℕ) → starts is_blank (after_blanks bytes) ≡ false
after_blanks_solid [] = refl
after_blanks_solid (b ∷ bytes) = cond_both (is_blank b) _ _ (λ rest. starts is_blank rest ≡ false) (λ e. after_blanks_solid bytes) (λ e. e)

solid_stays : (rest : List ℕ) → starts is_blank rest ≡ false → after_blanks rest ≡ rest
solid_stays [] solid = refl
solid_stays (b ∷ rest) solid = cond-false (is_blank b) _ _ solid

blanks_go : (blanks rest : List ℕ) → All (λ b. IsTrue (is_blank b)) blanks → after_blanks (blanks ++ rest) ≡ after_blanks rest
blanks_go [] rest blank = refl
blanks_go (b ∷ blanks) rest blank =
    cond-true (is_blank b) _ _ (All-head (λ b. IsTrue (is_blank b)) b blanks blank)
    ∙ blanks_go blanks rest (All-tail (λ b. IsTrue (is_blank b)) b blanks blank)

pub blanks_unique : (bytes rest : List ℕ) → AreBlanksAnd bytes rest → starts is_blank rest ≡ false → rest ≡ after_blanks bytes
blanks_unique bytes rest h solid = sym (ap after_blanks h.whole ∙ blanks_go h.blanks rest h.blank ∙ solid_stays rest solid)

-- marks

pub either : {P : Type 0} (a b : Bool) → (a ≡ true → P) → (b ≡ true → P) → (a || b) ≡ true → P
either a b one other h = elim (or_cases a b h) [ inl h ↦ one h | inr h ↦ other h ]

pub here : (P : ℕ → Type 0) (b m : ℕ) → P m → eqb b m ≡ true → P b
here P b m p is = subst P (sym (eqb-true b m is)) p

mark_cases : (P : ℕ → Type 0) → P 40 → P 41 → P 44 → P 59 → P 61 → P 60 → P 62 → (b : ℕ) → is_mark b ≡ true → P b
mark_cases P a c d e f g i b =
    either _ _ (here P b 40 a) (either _ _ (here P b 41 c) (either _ _ (here P b 44 d) (either _ _ (here P b 59 e)
    (either _ _ (here P b 61 f) (either _ _ (here P b 60 g) (here P b 62 i))))))

pub quote_cases : (P : ℕ → Type 0) → P 39 → P 34 → (b : ℕ) → is_quote b ≡ true → P b
quote_cases P a c b = either _ _ (here P b 39 a) (here P b 34 c)

abbrev Begins : Token × List ℕ → List ℕ → Type 0
Begins r bytes = BeginsWithToken r.0 bytes r.1

begins_or_equal : (alone joined : Token) (mark : ℕ) (bytes : List ℕ)
    → ((rest : List ℕ) → starts (λ b. eqb b 61) rest ≡ false → BeginsWithToken alone (mark ∷ rest) rest)
    → ((rest : List ℕ) → BeginsWithToken joined (mark ∷ 61 ∷ rest) rest) → Begins (or_equal alone joined bytes) (mark ∷ bytes)
begins_or_equal alone joined mark [] one both = one [] refl
begins_or_equal alone joined mark (b ∷ bytes) one both = cond_both (eqb b 61) _ _ (λ r. Begins r (mark ∷ b ∷ bytes))
    (λ e. subst (λ c. BeginsWithToken joined (mark ∷ c ∷ bytes) bytes) (sym (eqb-true b 61 e)) (both bytes)) (one (b ∷ bytes))

begins_mark : (bytes : List ℕ) (b : ℕ) → is_mark b ≡ true → Begins (mark_at b bytes) (b ∷ bytes)
begins_mark bytes = mark_cases (λ b. Begins (mark_at b bytes) (b ∷ bytes)) refl refl refl refl refl
    (begins_or_equal Less LessEqual 60 bytes (λ rest e. (refl, e)) (λ rest. refl))
    (begins_or_equal Greater GreaterEqual 62 bytes (λ rest e. (refl, e)) (λ rest. refl))

-- words

-- the longest word, which may have no byte
record IsLongest (word bytes rest : List ℕ) : Type 0 where
  whole : bytes ≡ word ++ rest
  letters : All (λ b. IsTrue (is_word_byte b)) word
  longest : starts is_word_byte rest ≡ false

longest_word : (bytes : List ℕ) → IsLongest (word_parts bytes).0 bytes (word_parts bytes).1
longest_word [] = record { whole = refl; letters = All-nil (λ b. IsTrue (is_word_byte b)); longest = refl }
longest_word (b ∷ bytes) =
    let h = longest_word bytes in
    cond_both (is_word_byte b) _ _ (λ (parts : List ℕ × List ℕ). IsLongest parts.0 (b ∷ bytes) parts.1)
    (λ e. record { whole = ap (λ l. b ∷ l) h.whole; letters = All-cons (λ b. IsTrue (is_word_byte b)) b _ e h.letters; longest = h.longest })
    (λ e. record { whole = refl; letters = All-nil (λ b. IsTrue (is_word_byte b)); longest = e })

word_some : (b : ℕ) (bytes : List ℕ) → is_word_byte b ≡ true → 0 < length (word_parts (b ∷ bytes)).0
word_some b bytes e = subst (λ t. 0 < length (cond t (onto b (word_parts bytes)) ([], b ∷ bytes)).0) (sym e) (omega arith)

begins_word : (b : ℕ) (bytes : List ℕ) → is_word_byte b ≡ true → AreWordAnd (word_parts (b ∷ bytes)).0 (b ∷ bytes) (word_parts (b ∷ bytes)).1
begins_word b bytes e = let h = longest_word (b ∷ bytes) in record { whole = h.whole; some = word_some b bytes e; letters = h.letters; longest = h.longest }

word_stops : (rest : List ℕ) → starts is_word_byte rest ≡ false → word_parts rest ≡ ([], rest)
word_stops [] longest = refl
word_stops (b ∷ rest) longest = cond-false (is_word_byte b) _ _ longest

word_again : (word rest : List ℕ) → All (λ b. IsTrue (is_word_byte b)) word → starts is_word_byte rest ≡ false → word_parts (word ++ rest) ≡ (word, rest)
word_again [] rest letters longest = word_stops rest longest
word_again (b ∷ word) rest letters longest =
    cond-true (is_word_byte b) _ _ (All-head (λ b. IsTrue (is_word_byte b)) b word letters)
    ∙ ap (onto b) (word_again word rest (All-tail (λ b. IsTrue (is_word_byte b)) b word letters) longest)

-- texts

pub record IsContent (quote : ℕ) (bytes content rest : List ℕ) : Type 0 where
  pub whole : bytes ≡ escape quote content ++ quote ∷ rest
  pub longest : starts (λ b. eqb b quote) rest ≡ false

abbrev IsContentIn : ℕ → List ℕ → Option (List ℕ × List ℕ) → Type 0
IsContentIn quote bytes None = Unit {0}
IsContentIn quote bytes (Some r) = IsContent quote bytes r.0 r.1

-- one more byte of the content, with a quote doubled
content_more : (quote b : ℕ) (front bytes : List ℕ) (o : Option (List ℕ × List ℕ))
    → front ≡ cond (eqb b quote) (b ∷ b ∷ []) (b ∷ []) → IsContentIn quote bytes o → IsContentIn quote (front ++ bytes) (option_map (onto b) o)
content_more quote b front bytes None is h = h
content_more quote b front bytes (Some r) is h = record {
  whole = ap (λ l. front ++ l) h.whole ∙ sym (append_assoc front (escape quote r.0) (quote ∷ r.1))
      ∙ ap (λ f. (f ++ escape quote r.0) ++ quote ∷ r.1) is;
  longest = h.longest;
}

pub content_found : (quote : ℕ) (bytes : List ℕ) → IsContentIn quote bytes (content_parts quote bytes)
content_found quote [] = tt
content_found quote (b ∷ []) = cond_both (eqb b quote) _ _ (IsContentIn quote (b ∷ []))
    (λ e. record { whole = ap (λ c. c ∷ []) (eqb-true b quote e); longest = refl }) (λ e. tt)
content_found quote (b ∷ c ∷ bytes) = cond_both (eqb b quote) _ _ (IsContentIn quote (b ∷ c ∷ bytes))
    (λ e. cond_both (eqb c quote) _ _ (IsContentIn quote (b ∷ c ∷ bytes))
    (λ f. subst (λ c. IsContentIn quote (b ∷ c ∷ bytes) (option_map (onto b) (content_parts quote bytes)))
    (eqb-true b quote e ∙ sym (eqb-true c quote f))
    (content_more quote b (b ∷ b ∷ []) bytes _ (ap (λ t. cond t (b ∷ b ∷ []) (b ∷ [])) (sym e)) (content_found quote bytes)))
    (λ f. record { whole = ap (λ x. x ∷ c ∷ bytes) (eqb-true b quote e); longest = f }))
    (λ e. content_more quote b (b ∷ []) (c ∷ bytes) _ (ap (λ t. cond t (b ∷ b ∷ []) (b ∷ [])) (sym e)) (content_found quote (c ∷ bytes)))

content_again : (quote : ℕ) (content rest : List ℕ) → starts (λ b. eqb b quote) rest ≡ false → content_parts quote (escape quote content ++ quote ∷ rest) ≡ Some (content, rest)
content_again quote [] rest longest = content_parts-end quote quote rest (eq-eqb quote quote refl) longest
content_again quote (b ∷ content) rest longest =
    cond_both (eqb b quote) _ _ (λ front. content_parts quote ((front ++ escape quote content) ++ quote ∷ rest) ≡ Some (b ∷ content, rest))
    (λ e. content_parts-pair quote b b _ e e ∙ ap (option_map (onto b)) (content_again quote content rest longest))
    (λ e. content_parts-other quote b _ e ∙ ap (option_map (onto b)) (content_again quote content rest longest))

-- a text that is found is one
pub text_found : (quote : ℕ) (bytes : List ℕ) (o : Option (List ℕ × List ℕ)) (r : Token × List ℕ) → is_quote quote ≡ true → IsContentIn quote bytes o
    → option_and_then short_text o ≡ Some r → (content : List ℕ) × (Text content ≡ r.0) × AreTextAnd content (quote ∷ bytes) r.1
text_found quote bytes None r is h e = cc
text_found quote bytes (Some p) r is h e =
    let fits = cond_some (leb (length p.0) 65535) (Text p.0, p.1) r e in (
      p.0,
      ap (λ (r : Token × List ℕ). r.0) fits.1,
      subst (λ (r : Token × List ℕ). AreTextAnd p.0 (quote ∷ bytes) r.1) fits.1
          (record { quote = quote; quotes = is; whole = ap (λ l. quote ∷ l) h.whole; longest = h.longest; short = leb-true _ _ fits.0 }),
    )

-- what the reader finds is the token
pub token_found : (bytes : List ℕ) (r : Token × List ℕ) → token_at bytes ≡ Some r → Begins r bytes
token_found [] r e = cc
token_found (b ∷ bytes) r e =
    cond_both (is_mark b) _ _ (λ o. o ≡ Some r → Begins r (b ∷ bytes))
    (λ is e. subst (λ r. Begins r (b ∷ bytes)) (same_Some (mark_at b bytes) r e) (begins_mark bytes b is))
    (λ other. cond_both (is_quote b) _ _ (λ o. o ≡ Some r → Begins r (b ∷ bytes))
    (λ is e. (let t = text_found b bytes (content_parts b bytes) r is (content_found b bytes) e in
    subst (λ token. BeginsWithToken token (b ∷ bytes) r.1) t.1 t.2))
    (λ other e. (let word = cond_some (is_word_byte b) _ r e in subst (λ r. Begins r (b ∷ bytes)) word.1 (begins_word b bytes word.0)))) e

-- a byte of a word is no mark and no quote
word_no_mark : (b : ℕ) → is_word_byte b ≡ true → is_mark b ≡ false
word_no_mark b is = false_from_ne_true (is_mark b)
    (λ h. mark_cases (λ b. is_word_byte b ≡ true → ⊥) false≢true false≢true false≢true false≢true false≢true false≢true false≢true b h is)

word_no_quote : (b : ℕ) → is_word_byte b ≡ true → is_quote b ≡ false
word_no_quote b is = false_from_ne_true (is_quote b) (λ h. quote_cases (λ b. is_word_byte b ≡ true → ⊥) false≢true false≢true b h is)

word_token : (word rest : List ℕ) → 0 < length word → All (λ b. IsTrue (is_word_byte b)) word → starts is_word_byte rest ≡ false → token_at (word ++ rest) ≡ Some (Word word, rest)
word_token [] rest some letters longest = absurd (omega (arith, some))
word_token (b ∷ word) rest some letters longest =
    let is : is_word_byte b ≡ true = All-head (λ b. IsTrue (is_word_byte b)) b word letters in
    cond-false (is_mark b) _ _ (word_no_mark b is) ∙ cond-false (is_quote b) _ _ (word_no_quote b is) ∙ cond-true (is_word_byte b) _ _ is
    ∙ ap (λ (r : List ℕ × List ℕ). Some (Word r.0, r.1)) (word_again (b ∷ word) rest letters longest)

text_token : (content rest : List ℕ) → length content ≤ 65535 → (quote : ℕ) → is_quote quote ≡ true → starts (λ b. eqb b quote) rest ≡ false
    → token_at (quote ∷ (escape quote content ++ quote ∷ rest)) ≡ Some (Text content, rest)
text_token content rest short =
    quote_cases (λ quote. starts (λ b. eqb b quote) rest ≡ false → token_at (quote ∷ (escape quote content ++ quote ∷ rest)) ≡ Some (Text content, rest))
    (λ longest. ap (option_and_then short_text) (content_again 39 content rest longest) ∙ cond-true _ _ _ (le-leb (length content) 65535 short))
    (λ longest. ap (option_and_then short_text) (content_again 34 content rest longest) ∙ cond-true _ _ _ (le-leb (length content) 65535 short))

or_equal_token : (alone joined : Token) (rest : List ℕ) → starts (λ b. eqb b 61) rest ≡ false → or_equal alone joined rest ≡ (alone, rest)
or_equal_token alone joined [] other = refl
or_equal_token alone joined (b ∷ rest) other = cond-false (eqb b 61) _ _ other

-- and the reader finds each token
pub token_again : (token : Token) (bytes rest : List ℕ) → BeginsWithToken token bytes rest → token_at bytes ≡ Some (token, rest)
token_again (Word word) bytes rest h = ap token_at h.whole ∙ word_token word rest h.some h.letters h.longest
token_again (Text content) bytes rest h = ap token_at h.whole ∙ text_token content rest h.short h.quote h.quotes h.longest
token_again Less bytes rest h = ap token_at h.0 ∙ ap Some (or_equal_token Less LessEqual rest h.1)
token_again Greater bytes rest h = ap token_at h.0 ∙ ap Some (or_equal_token Greater GreaterEqual rest h.1)
token_again token bytes rest h = ap token_at h

-- a token has bytes
pub token_shorter : (token : Token) (bytes rest : List ℕ) → BeginsWithToken token bytes rest → length rest < length bytes
token_shorter (Word word) bytes rest h = omega (arith, ap length h.whole, length-append word rest, h.some)
token_shorter (Text content) bytes rest h = omega (arith, ap length h.whole, length-append (escape h.quote content) (h.quote ∷ rest))
token_shorter Less bytes rest h = omega (arith, ap length h.0)
token_shorter Greater bytes rest h = omega (arith, ap length h.0)
token_shorter token bytes rest h = omega (arith, ap length h)

pub blanks_shorter : (bytes : List ℕ) → length (after_blanks bytes) ≤ length bytes
blanks_shorter bytes = omega (arith, ap length (after_blanks_is bytes).whole, length-append (after_blanks_is bytes).blanks (after_blanks bytes))

-- one more token
pub one_more_token : (tokens : List Token) (token : Token) (line rest more : List ℕ) → AreTokensAnd tokens line rest → BeginsWithToken token rest more → AreTokensAnd (tokens ++ token ∷ []) line (after_blanks more)
one_more_token [] token line rest more h found = (rest, more, h, found, after_blanks_is more)
one_more_token (t ∷ tokens) token line rest more h found = (h.0, h.1, h.2, h.3, one_more_token tokens token h.1 rest more h.4 found)

-- where there is no token the reader is stuck
pub no_token : (bytes : List ℕ) → starts is_blank bytes ≡ false → (0 < length bytes) → token_at bytes ≡ None
    → MatchBool (starts is_quote bytes) (IsBadText bytes) (BeginsWithStray bytes)
no_token [] solid some none = absurd (omega (arith, some))
no_token (b ∷ bytes) solid some none =
    elim (is_quote b) as (λ t. is_quote b ≡ t → MatchBool t (IsBadText (b ∷ bytes)) (BeginsWithStray (b ∷ bytes))) [
      | true ↦ λ is. record { begins = is; no_text = λ content rest h. (let found = token_again (Text content) (b ∷ bytes) rest h in cc) }
      | false ↦ λ no. ap not (or_from (is_blank b) (is_word_byte b || (is_quote b || is_mark b)) solid
          (or_from (is_word_byte b) (is_quote b || is_mark b) (no_word b bytes none) (or_from (is_quote b) (is_mark b) no (no_mark b bytes none))))
    ] refl
  where
    no_mark : (b : ℕ) (bytes : List ℕ) → token_at (b ∷ bytes) ≡ None → is_mark b ≡ false
    no_mark b bytes none = false_from_ne_true (is_mark b)
        (λ is. (let found : token_at (b ∷ bytes) ≡ Some (mark_at b bytes) = cond-true (is_mark b) _ _ is in cc))

    no_word : (b : ℕ) (bytes : List ℕ) → token_at (b ∷ bytes) ≡ None → is_word_byte b ≡ false
    no_word b bytes none = false_from_ne_true (is_word_byte b)
        (λ is. (let found = token_again (Word (word_parts (b ∷ bytes)).0) (b ∷ bytes) (word_parts (b ∷ bytes)).1 (begins_word b bytes is) in cc))

pub stuck_at : (line : List ℕ) (tokens : List Token) (rest : List ℕ) (fault : LineFault) → AreTokensAnd tokens line rest → starts is_blank rest ≡ false → 0 < length rest
    → token_at rest ≡ None → fault ≡ cond (starts is_quote rest) (Bad 6) (Bad 3) → FaultsWith (HasNoTokens line) fault
stuck_at line tokens rest fault so_far solid some none is =
    subst (FaultsWith (HasNoTokens line)) (sym is) (by_case (starts is_quote rest) (no_token rest solid some none))
  where
    by_case : (t : Bool) → MatchBool t (IsBadText rest) (BeginsWithStray rest) → FaultsWith (HasNoTokens line) (cond t (Bad 6) (Bad 3))
    by_case true h = record { tokens = tokens; rest = rest; front = so_far; stuck = inr (h, refl) }
    by_case false h = record { tokens = tokens; rest = rest; front = so_far; stuck = inl (h, refl) }
