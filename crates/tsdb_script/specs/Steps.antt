-- What the steps of the reader give, as functions on lists. No public clause cites them.
use Rattle.std.specs.Prelude.{◌≡◌, ◌⊎◌, ℕ, ◌≤ℤ◌, ◌==◌, FitsSigned, List, [], ◌∷◌, Option, None, Some, option_map, option_and_then, nat_le, length}
use Rattle.std.specs.Prelude.{if◌then◌else◌}
use Rattle.std.specs.Int.{w64}
use Rattle.tsdb_script.specs.Meaning.{last_time, first_time}
use Rattle.tsdb_script.specs.Types.{LineFault, Range, Token}
use Rattle.tsdb_script.specs.declared.fault.LineFault.TheVariants.{Bad, Memory}
use Rattle.tsdb_script.specs.declared.token.Token.TheVariants.{Word, Text, Open, Close, Comma, Semicolon, Equal, Less}
use Rattle.tsdb_script.specs.declared.token.Token.TheVariants.{LessEqual, Greater, GreaterEqual}
use Rattle.tsdb_script.specs.Tokens.{is_blank, is_word_byte, is_quote, is_mark}
use Rattle.tsdb_base.specs.Limits.{max_text_bytes}

-- what stands behind the first byte
abbrev pub behind_first : List ℕ → List ℕ
behind_first [] = []
behind_first (b ∷ bytes) = bytes

-- the content of what stands between two quotes
abbrev pub unescape : ℕ → List ℕ → List ℕ
unescape quote [] = []
unescape quote (b ∷ []) = b ∷ []
unescape quote (b ∷ c ∷ bytes) = if b == quote then b ∷ unescape quote bytes else b ∷ unescape quote (c ∷ bytes)

-- what stands behind the blanks
abbrev pub after_blanks : List ℕ → List ℕ
after_blanks [] = []
after_blanks (b ∷ bytes) = if is_blank b then after_blanks bytes else b ∷ bytes

-- an item put before the first of two parts
abbrev pub onto : {X Y : Type 0} → X → List X × Y → List X × Y
onto x parts = (x ∷ parts.0, parts.1)

-- the longest word that the bytes begin with, and the rest
abbrev pub word_parts : List ℕ → List ℕ × List ℕ
word_parts [] = ([], [])
word_parts (b ∷ bytes) = if is_word_byte b then onto b (word_parts bytes) else ([], b ∷ bytes)

-- the content up to the quote that ends it, and the rest
abbrev pub content_parts : ℕ → List ℕ → Option (List ℕ × List ℕ)
content_parts quote [] = None
content_parts quote (b ∷ []) = if b == quote then Some ([], []) else None
content_parts quote (b ∷ c ∷ bytes) =
    if b == quote
    then (if c == quote then option_map (onto b) (content_parts quote bytes) else Some ([], c ∷ bytes))
    else option_map (onto b) (content_parts quote (c ∷ bytes))

-- a text that is short enough
abbrev pub short_text : List ℕ × List ℕ → Option (Token × List ℕ)
short_text parts = if nat_le (length parts.0) max_text_bytes then Some (Text parts.0, parts.1) else None

abbrev pub text_at : ℕ → List ℕ → Option (Token × List ℕ)
text_at quote bytes = option_and_then short_text (content_parts quote bytes)

-- a mark alone, or with `=` behind it
abbrev pub or_equal : Token → Token → List ℕ → Token × List ℕ
or_equal alone joined [] = (alone, [])
or_equal alone joined (b ∷ bytes) = if b == 61 then (joined, bytes) else (alone, b ∷ bytes)

-- the mark that begins with this byte, and the rest
abbrev pub mark_at : ℕ → List ℕ → Token × List ℕ
mark_at b bytes =
    if b == 40 then (Open, bytes)
    else if b == 41 then (Close, bytes)
    else if b == 44 then (Comma, bytes)
    else if b == 59 then (Semicolon, bytes)
    else if b == 61 then (Equal, bytes)
    else if b == 60 then or_equal Less LessEqual bytes
    else or_equal Greater GreaterEqual bytes

-- the token that the bytes begin with, and the rest
abbrev pub token_at : List ℕ → Option (Token × List ℕ)
token_at [] = None
token_at (b ∷ bytes) =
    if is_mark b then Some (mark_at b bytes)
    else if is_quote b then text_at b bytes
    else if is_word_byte b then Some (Word (word_parts (b ∷ bytes)).0, (word_parts (b ∷ bytes)).1)
    else None

-- why a line could not be read, where that is not out of memory
abbrev pub FaultsWith : (ℕ → Type 0) → LineFault → Type 0
FaultsWith reasons (Bad kind) = reasons kind
FaultsWith reasons Memory = Unit {0}

-- what `IsRangeOf` asks of a range beside its times
pub record HasRangeForm (range : Range) : Type 0 where
  pub from : FitsSigned w64 range.from
  pub to : FitsSigned w64 range.to
  pub form : (range.from ≤ℤ range.to) ⊎ ((range.from ≡ last_time) × (range.to ≡ first_time))
