-- What the tokens of a line are. A line is blanks and tokens, one after another, where no token could be longer.
use Rattle.std.specs.Prelude.{◌≡◌, ◌⊎◌, ℕ, ◌<◌, ◌≤◌, ◌==◌, ◌||◌, Bool, true, false, not, IsTrue, All, List, []}
use Rattle.std.specs.Prelude.{◌∷◌, ◌++◌, length}
use Rattle.std.specs.Char.{is_ascii_alphanumeric}
use Rattle.std.specs.Str.{str_eq_ignore_ascii_case}
use Rattle.tsdb_base.specs.Notation.{escape}
use Rattle.tsdb_script.specs.Types.{Token}
use Rattle.tsdb_script.specs.declared.token.Token.TheVariants.{Word, Text, Open, Close, Comma, Semicolon, Equal, Less}
use Rattle.tsdb_script.specs.declared.token.Token.TheVariants.{LessEqual, Greater, GreaterEqual}
use Rattle.tsdb_base.specs.Limits.{max_text_bytes}

-- a space or a tab
abbrev pub is_blank : ℕ → Bool
is_blank b = b == 32 || b == 9

-- an ASCII letter, an ASCII digit, or one of `_` `.` `-` `+` `*`
abbrev pub is_word_byte : ℕ → Bool
is_word_byte b = is_ascii_alphanumeric b || (b == 95 || (b == 46 || (b == 45 || (b == 43 || b == 42))))

-- `'` or `"`
abbrev pub is_quote : ℕ → Bool
is_quote b = b == 39 || b == 34

-- one of `(` `)` `,` `;` `=` `<` `>`
abbrev pub is_mark : ℕ → Bool
is_mark b = b == 40 || (b == 41 || (b == 44 || (b == 59 || (b == 61 || (b == 60 || b == 62)))))

-- the first item, if there is one, passes the test
abbrev pub starts : {X : Type 0} → (X → Bool) → List X → Bool
starts test [] = false
starts test (x ∷ xs) = test x

-- a word is this keyword, in any ASCII case
abbrev pub is_keyword : List ℕ → List ℕ → Bool
is_keyword word name = str_eq_ignore_ascii_case word name

-- the bytes are a word and the rest, with which the word doesn't go on
pub record AreWordAnd (word bytes rest : List ℕ) : Type 0 where
  pub whole : bytes ≡ word ++ rest
  pub some : 0 < length word
  pub letters : All (λ b. IsTrue (is_word_byte b)) word
  pub longest : starts is_word_byte rest ≡ false

-- the bytes are a text of this content between two quotes and the rest, with which the text doesn't go on
pub record AreTextAnd (content bytes rest : List ℕ) : Type 0 where
  pub quote : ℕ
  pub quotes : IsTrue (is_quote quote)
  pub whole : bytes ≡ quote ∷ (escape quote content ++ quote ∷ rest)
  pub longest : starts (λ b. b == quote) rest ≡ false
  pub short : length content ≤ max_text_bytes

-- the bytes begin with this token, the rest stands behind it, and the token could not be longer
abbrev pub BeginsWithToken : Token → List ℕ → List ℕ → Type 0
BeginsWithToken (Word word) bytes rest = AreWordAnd word bytes rest
BeginsWithToken (Text content) bytes rest = AreTextAnd content bytes rest
BeginsWithToken Open bytes rest = bytes ≡ 40 ∷ rest
BeginsWithToken Close bytes rest = bytes ≡ 41 ∷ rest
BeginsWithToken Comma bytes rest = bytes ≡ 44 ∷ rest
BeginsWithToken Semicolon bytes rest = bytes ≡ 59 ∷ rest
BeginsWithToken Equal bytes rest = bytes ≡ 61 ∷ rest
BeginsWithToken Less bytes rest = (bytes ≡ 60 ∷ rest) × (starts (λ b. b == 61) rest ≡ false)
BeginsWithToken LessEqual bytes rest = bytes ≡ 60 ∷ 61 ∷ rest
BeginsWithToken Greater bytes rest = (bytes ≡ 62 ∷ rest) × (starts (λ b. b == 61) rest ≡ false)
BeginsWithToken GreaterEqual bytes rest = bytes ≡ 62 ∷ 61 ∷ rest

-- the bytes are blanks and the rest
pub record AreBlanksAnd (bytes rest : List ℕ) : Type 0 where
  pub blanks : List ℕ
  pub whole : bytes ≡ blanks ++ rest
  pub blank : All (λ b. IsTrue (is_blank b)) blanks

-- the bytes are these tokens, each behind any blanks, then blanks and the rest
abbrev pub AreTokensAnd : List Token → List ℕ → List ℕ → Type 0
AreTokensAnd [] bytes rest = AreBlanksAnd bytes rest
AreTokensAnd (token ∷ tokens) bytes rest = (from more : List ℕ) × AreBlanksAnd bytes from × BeginsWithToken token from more
    × AreTokensAnd tokens more rest

-- the tokens of a line
abbrev pub AreTokens : List ℕ → List Token → Type 0
AreTokens line tokens = AreTokensAnd tokens line []

-- the bytes begin with one that is no blank and begins no token
abbrev pub BeginsWithStray : List ℕ → Type 0
BeginsWithStray bytes = starts (λ b. not (is_blank b || (is_word_byte b || (is_quote b || is_mark b)))) bytes ≡ true

-- the bytes begin with a quote, but with no text: it is not closed, or too long
pub record IsBadText (bytes : List ℕ) : Type 0 where
  pub begins : starts is_quote bytes ≡ true
  pub no_text : (content rest : List ℕ) → ¬ AreTextAnd content bytes rest

-- from the left tokens, and then what is no token: a stray byte is of kind 3, a bad text of kind 6
pub record HasNoTokens (line : List ℕ) (kind : ℕ) : Type 0 where
  pub tokens : List Token
  pub rest : List ℕ
  pub front : AreTokensAnd tokens line rest
  pub stuck : (BeginsWithStray rest × (kind ≡ 3)) ⊎ (IsBadText rest × (kind ≡ 6))
