-- What a script says: its lines, what is objected to a line, and the commands that the lines give.
use Rattle.std.specs.Prelude.{◌≡◌, ◌⊎◌, ℕ, ◌+◌, ◌<◌, ◌≤◌, ◌==◌, ◌||◌, Bool, true, false, IsTrue, All, List, [], ◌∷◌}
use Rattle.std.specs.Prelude.{◌++◌, length, map, if◌then◌else◌}
use Rattle.std.specs.List.{concat, list_all, list_any, onto_first}
use Rattle.std.specs.Set.{distinct_count}
use Rattle.std.specs.Str.Parse.{IsNumeral, digits_value}
use Rattle.tsdb_script.specs.Types.{Numbered, ScriptFault, Syntax, Token}
use Rattle.tsdb_script.specs.declared.fault.ScriptFault.TheVariants as fault
use Rattle.tsdb_script.specs.declared.token.Token.TheVariants.{Word}
use Rattle.tsdb_script.specs.declared.form.TheConstants.{FORMS}
use Rattle.tsdb_script.specs.Forms.{is_at, places, Fits, HasNoForm}
use Rattle.tsdb_base.specs.Limits.{max_commands, max_line_bytes, max_script_bytes, max_sessions}
use Rattle.tsdb_script.specs.Meaning.{Means, Objects}
use Rattle.tsdb_script.specs.Tokens.{is_blank, starts, AreTokens, HasNoTokens}

-- ---- lines

-- the lines of a script, each with the line feed that ends it, which the last may lack
abbrev pub lines_of : List ℕ → List (List ℕ)
lines_of [] = []
lines_of (byte ∷ bytes) = if byte == 10 then (byte ∷ []) ∷ lines_of bytes else onto_first byte (lines_of bytes)

-- bytes without the last one, where that is this one
abbrev pub without_last : ℕ → List ℕ → List ℕ
without_last last [] = []
without_last last (byte ∷ []) = if byte == last then [] else byte ∷ []
without_last last (byte ∷ next ∷ bytes) = byte ∷ without_last last (next ∷ bytes)

-- a line without its line feed, and then without one carriage return
abbrev pub content_of : List ℕ → List ℕ
content_of line = without_last 13 (without_last 10 line)

-- a comment, or a line of blanks
abbrev pub is_skipped : List ℕ → Bool
is_skipped line = starts (λ b. b == 35) line || list_all is_blank (content_of line)

-- a line where it stands in a script: its bytes with its end, the session of each command before it, and the number of
-- bytes of the script up to its end
pub record ScriptLine : Type 0 where
  pub bytes : List ℕ
  pub sessions : List ℕ
  pub end : ℕ

-- ---- what a line may say

-- a session from 1 to 999: one to three digits, of which the first is not 0
pub record IsSession (word : List ℕ) (session : ℕ) : Type 0 where
  pub digits : IsNumeral 10 word
  pub short : length word ≤ 3
  pub no_zero : starts (λ b. b == 48) word ≡ false
  pub value : session ≡ digits_value 10 word

-- the line is a session and a statement
pub record IsOfSession (line : ScriptLine) (session : ℕ) (statement : List Token) : Type 0 where
  pub word : List ℕ
  pub tokens : AreTokens (content_of line.bytes) (Word word ∷ statement)
  pub number : IsSession word session

-- how many different sessions these are
abbrev pub session_count : List ℕ → ℕ
session_count sessions = distinct_count (λ a b. a == b) sessions

-- the first token is one that a form begins with
abbrev pub BeginsStatement : List Token → Type 0
BeginsStatement [] = ⊥
BeginsStatement (token ∷ rest) = IsTrue (list_any (λ form. starts (λ place. is_at place token) (places form)) FORMS.now)

-- ---- the passes over a line, of which the first that objects decides the kind

pub data ReadingPass : Type 0 where
  Limits : ReadingPass
  Tokens : ReadingPass
  Session : ReadingPass
  Room : ReadingPass
  FirstWord : ReadingPass
  Form : ReadingPass
  Meaning : ReadingPass

abbrev pub passes : List ReadingPass
passes = Limits ∷ Tokens ∷ Session ∷ Room ∷ FirstWord ∷ Form ∷ Meaning ∷ []

-- the line is a session and a statement of which this holds
abbrev pub OfStatement : ScriptLine → (ℕ → List Token → Type 0) → Type 0
OfStatement line P = (session : ℕ) × (statement : List Token) × IsOfSession line session statement × P session statement

-- what each pass objects to, and the kind of the fault
abbrev pub ObjectsIn : ReadingPass → ScriptLine → ℕ → Type 0
-- A: the line is too long, or the script's limit is passed in it
ObjectsIn Limits line kind = ((max_line_bytes < length line.bytes) ⊎ (max_script_bytes < line.end)) × (kind ≡ 9)
-- B: a byte begins no token, or a text is bad
ObjectsIn Tokens line kind = HasNoTokens (content_of line.bytes) kind
-- C: the first token is no session
ObjectsIn Session line kind = ((session : ℕ) (statement : List Token) → ¬ IsOfSession line session statement)
    × (kind ≡ 1)
-- D: this is command 1,000,001, or the ninth different session
ObjectsIn Room line kind = OfStatement line (λ session statement.
    ((max_commands ≤ length line.sessions) ⊎ (max_sessions < session_count (line.sessions ++ session ∷ [])))
    × (kind ≡ 9))
-- E: the second token is no word that begins a statement
ObjectsIn FirstWord line kind = OfStatement line (λ session statement. (¬ BeginsStatement statement) × (kind ≡ 2))
-- F: the tokens fit no form
ObjectsIn Form line kind = OfStatement line (λ session statement. HasNoForm statement kind)
-- G and H: a word is not what its place asks for, or the whole is bad
ObjectsIn Meaning line kind = OfStatement line
    (λ session statement. (syntax : Syntax) × Fits statement syntax × Objects syntax kind)

-- the first of these passes that objects to the line does so with this kind
abbrev pub FirstObjects : List ReadingPass → ScriptLine → ℕ → Type 0
FirstObjects [] line kind = ⊥
FirstObjects (pass ∷ later) line kind = ObjectsIn pass line kind
    ⊎ (((any : ℕ) → ¬ ObjectsIn pass line any) × FirstObjects later line kind)

-- ---- what a line is: skipped, a command, or bad

pub record IsSkipped (line : ScriptLine) : Type 0 where
  pub says_nothing : is_skipped line.bytes ≡ true
  pub script_bytes : line.end ≤ max_script_bytes

pub record IsCommand (line : ScriptLine) (numbered : Numbered) : Type 0 where
  pub says_something : is_skipped line.bytes ≡ false
  pub line_bytes : length line.bytes ≤ max_line_bytes
  pub script_bytes : line.end ≤ max_script_bytes
  pub statement : List Token
  pub tokens : IsOfSession line numbered.session statement
  pub commands : length line.sessions < max_commands
  pub sessions : session_count (line.sessions ++ numbered.session ∷ []) ≤ max_sessions
  pub syntax : Syntax
  pub fits : Fits statement syntax
  pub means : Means syntax numbered.command

-- only the script's limit is asked of a line that says nothing
abbrev pub IsBadLine : ScriptLine → ℕ → Type 0
IsBadLine line kind = ((is_skipped line.bytes ≡ true) × (max_script_bytes < line.end) × (kind ≡ 9))
    ⊎ ((is_skipped line.bytes ≡ false) × FirstObjects passes line kind)

-- ---- what a script is

-- the session of each command
abbrev pub sessions_of : List Numbered → List ℕ
sessions_of script = map (λ numbered. numbered.session) script

-- the line of these bytes behind lines that give these commands
abbrev pub line_behind : List (List ℕ) → List Numbered → List ℕ → ScriptLine
line_behind lines script bytes =
    record { bytes = bytes; sessions = sessions_of script; end = length (concat lines) + length bytes }

-- lines from the beginning of a script give these commands
pub data Give : List (List ℕ) → List Numbered → Type 0 where
  no_line : Give [] []
  skipped_line : (lines : List (List ℕ)) (script : List Numbered) (line : List ℕ) → Give lines script
      → IsSkipped (line_behind lines script line) → Give (lines ++ line ∷ []) script
  command_line : (lines : List (List ℕ)) (script : List Numbered) (line : List ℕ) (numbered : Numbered)
      → Give lines script
      → IsCommand (line_behind lines script line) numbered → Give (lines ++ line ∷ []) (script ++ numbered ∷ [])

-- the commands of a script
abbrev pub IsScript : List ℕ → List Numbered → Type 0
IsScript bytes script = Give (lines_of bytes) script

-- the first bad line, counted from 1, and the kind of its fault
pub record IsFirstBadLine (bytes : List ℕ) (number kind : ℕ) : Type 0 where
  pub before : List (List ℕ)
  pub line : List ℕ
  pub behind : List (List ℕ)
  pub lines : lines_of bytes ≡ before ++ line ∷ behind
  pub count_is : number ≡ length before + 1
  pub script : List Numbered
  pub good : Give before script
  pub bad : IsBadLine (line_behind before script line) kind

-- what every script keeps to
pub record IsScriptWithinLimits (bytes : List ℕ) (script : List Numbered) : Type 0 where
  pub short : length bytes ≤ max_script_bytes
  pub commands : length script ≤ max_commands
  pub sessions : session_count (sessions_of script) ≤ max_sessions
  pub numbers : All (λ session. (1 ≤ session) × (session ≤ 999)) (sessions_of script)

-- why bytes are refused as a script; memory may run out at any place
abbrev pub RefusesScript : List ℕ → ScriptFault → Type 0
RefusesScript bytes (fault.Bad line kind) = IsFirstBadLine bytes line kind
RefusesScript bytes fault.Memory = Unit {0}
