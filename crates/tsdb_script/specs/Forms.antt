-- Which tokens fit the form of a statement. A form is a row of places, in the table of `src/form.rt`.
use Rattle.std.specs.Prelude.{◌≡◌, ◌⊎◌, ℕ, ◌<◌, ◌||◌, Bool, true, false, IsTrue, List, [], ◌∷◌, Option, None, Some, length, drop, codes}
use Rattle.tsdb_base.specs.declared.ids.Space.TheVariants.{Sequence, Unsequence}
use Rattle.tsdb_script.specs.Types.{SyntaxColumn, Comparison, Condition, Form, Operand, SyntaxPart, FormPlace, Syntax}
use Rattle.tsdb_script.specs.Types.{Token}
use Rattle.tsdb_script.specs.declared.form.Form.TheVariants as form
use Rattle.tsdb_script.specs.declared.form.Keyword.TheVariants as key
use Rattle.tsdb_script.specs.declared.form.FormPlace.TheVariants as place
use Rattle.tsdb_script.specs.declared.syntax.Comparison.TheVariants as compared
use Rattle.tsdb_script.specs.declared.syntax.Operand.TheVariants as operand
use Rattle.tsdb_script.specs.declared.syntax.SyntaxPart.TheVariants as part
use Rattle.tsdb_script.specs.declared.form.Keyword.{Keyword}
use Rattle.tsdb_script.specs.declared.form.TheConstants.{CREATE, INSERT, DELETE, SELECT, FLUSH, COMPACT_SEQUENCE}
use Rattle.tsdb_script.specs.declared.form.TheConstants.{COMPACT_UNSEQUENCE, COMPACT_CROSS, SHOW_FILES}
use Rattle.tsdb_script.specs.declared.syntax.Syntax.TheVariants.{Create, Insert, Delete, Select, Flush, CompactInner}
use Rattle.tsdb_script.specs.declared.syntax.Syntax.TheVariants.{CompactCross, ShowFiles}
use Rattle.tsdb_script.specs.declared.token.Token.TheVariants as token
use Rattle.tsdb_script.specs.Tokens.{is_keyword}

-- a keyword in lower case
abbrev pub keyword_text : Keyword → List ℕ
keyword_text key.And = codes "and"
keyword_text key.Compact = codes "compact"
keyword_text key.Create = codes "create"
keyword_text key.Cross = codes "cross"
keyword_text key.DataType = codes "datatype"
keyword_text key.Delete = codes "delete"
keyword_text key.Encoding = codes "encoding"
keyword_text key.Files = codes "files"
keyword_text key.Flush = codes "flush"
keyword_text key.From = codes "from"
keyword_text key.Inner = codes "inner"
keyword_text key.Insert = codes "insert"
keyword_text key.Into = codes "into"
keyword_text key.Select = codes "select"
keyword_text key.Sequence = codes "sequence"
keyword_text key.Show = codes "show"
keyword_text key.Time = codes "time"
keyword_text key.TimeSeries = codes "timeseries"
keyword_text key.Unsequence = codes "unsequence"
keyword_text key.Values = codes "values"
keyword_text key.Where = codes "where"
keyword_text key.With = codes "with"

-- the places of a form, from the left
abbrev pub places : Form → List FormPlace
places form.Create = CREATE.now
places form.Insert = INSERT.now
places form.Delete = DELETE.now
places form.Select = SELECT.now
places form.Flush = FLUSH.now
places form.CompactSequence = COMPACT_SEQUENCE.now
places form.CompactUnsequence = COMPACT_UNSEQUENCE.now
places form.CompactCross = COMPACT_CROSS.now
places form.ShowFiles = SHOW_FILES.now

-- ---- what stands at a place

-- the token is the keyword or mark that the place asks for
abbrev pub is_at : FormPlace → Token → Bool
is_at (place.Keyword keyword) (token.Word word) = is_keyword word (keyword_text keyword)
is_at place.Timestamp (token.Word word) = is_keyword word (codes "timestamp") || is_keyword word (codes "time")
is_at place.Open token.Open = true
is_at place.Close token.Close = true
is_at place.Comma token.Comma = true
is_at place.Equal token.Equal = true
is_at place token = false

abbrev pub comparison_token : Comparison → Token
comparison_token compared.Less = token.Less
comparison_token compared.LessEqual = token.LessEqual
comparison_token compared.Greater = token.Greater
comparison_token compared.GreaterEqual = token.GreaterEqual
comparison_token compared.Equal = token.Equal

-- a part of a statement stands in the tokens up to the rest
abbrev pub Standing : Type 0 → Type 1
Standing X = X → List Token → List Token → Type 0

abbrev pub IsNameAt : Standing (List ℕ)
IsNameAt name tokens rest = tokens ≡ token.Word name ∷ rest

-- a value: a word or a text
abbrev pub IsValueAt : Standing Operand
IsValueAt (operand.Word word) tokens rest = tokens ≡ token.Word word ∷ rest
IsValueAt (operand.Text content) tokens rest = tokens ≡ token.Text content ∷ rest

-- `M` or `W ( M )`
abbrev pub Called : Option (List ℕ) → Standing (List ℕ)
Called None measurement tokens rest = tokens ≡ token.Word measurement ∷ rest
Called (Some name) measurement tokens rest =
    tokens ≡ token.Word name ∷ token.Open ∷ token.Word measurement ∷ token.Close ∷ rest

abbrev pub IsColumnAt : Standing SyntaxColumn
IsColumnAt column tokens rest = Called column.aggregate column.measurement tokens rest

-- what the place asks for, and then the part
abbrev pub Behind : {X : Type 0} → FormPlace → Standing X → Standing X
Behind place Is x tokens rest = (fixed : Token) × (more : List Token)
    × (tokens ≡ fixed ∷ more) × IsTrue (is_at place fixed) × Is x more rest

-- `time` op `N`
abbrev pub IsCompared : Standing Condition
IsCompared condition tokens rest =
    tokens ≡ comparison_token condition.comparison ∷ token.Word condition.number ∷ rest

abbrev pub IsCondition : Standing Condition
IsCondition = Behind (place.Keyword key.Time) IsCompared

-- parts, one after another
abbrev pub AreRow : {X : Type 0} → Standing X → Standing (List X)
AreRow Is [] tokens rest = tokens ≡ rest
AreRow Is (x ∷ xs) tokens rest = (more : List Token) × Is x tokens more × AreRow Is xs more rest

-- one part at least, with this between them
abbrev pub AreListed : {X : Type 0} → FormPlace → Standing X → Standing (List X)
AreListed between Is [] tokens rest = ⊥
AreListed between Is (x ∷ xs) tokens rest = (more : List Token) × Is x tokens more × AreRow (Behind between Is) xs more rest

-- nothing, or `where` and conditions with `and` between them
abbrev pub AreConditions : Standing (List Condition)
AreConditions [] tokens rest = tokens ≡ rest
AreConditions (c ∷ cs) tokens rest =
    Behind (place.Keyword key.Where) (AreListed (place.Keyword key.And) IsCondition) (c ∷ cs) tokens rest

-- something stands in the tokens up to the rest, and is the part before the others
abbrev pub StandsAs : {X : Type 0} → Standing X → (X → SyntaxPart) → List Token → List Token → List SyntaxPart
    → List SyntaxPart → Type 0
StandsAs {X} Is made tokens rest parts others = (x : X) × Is x tokens rest × (parts ≡ made x ∷ others)

-- what stands at the place are the tokens up to the rest, which give the parts up to the others
abbrev pub StandsAtPlace : FormPlace → List Token → List Token → List SyntaxPart → List SyntaxPart → Type 0
StandsAtPlace place.Word = StandsAs IsNameAt part.Word
StandsAtPlace place.Names = StandsAs (AreListed place.Comma IsNameAt) part.Names
StandsAtPlace place.Values = StandsAs (AreListed place.Comma IsValueAt) part.Values
StandsAtPlace place.Columns = StandsAs (AreListed place.Comma IsColumnAt) part.Columns
StandsAtPlace place.Where = StandsAs AreConditions part.Conditions
StandsAtPlace place = λ tokens rest parts others. (fixed : Token)
    × (tokens ≡ fixed ∷ rest) × IsTrue (is_at place fixed) × (parts ≡ others)

-- the tokens stand at these places and give these parts, with one `;` behind them or none
abbrev pub Stand : List FormPlace → List Token → List SyntaxPart → Type 0
Stand [] tokens parts = ((tokens ≡ []) ⊎ (tokens ≡ token.Semicolon ∷ [])) × (parts ≡ [])
Stand (place ∷ places) tokens parts = (rest : List Token) × (others : List SyntaxPart)
    × StandsAtPlace place tokens rest parts others × Stand places rest others

-- ---- statements

-- what stands first among parts, by its kind; it is empty where that is another
abbrev pub first_word : List SyntaxPart → List ℕ
first_word (part.Word word ∷ others) = word
first_word parts = []

abbrev pub first_names : List SyntaxPart → List (List ℕ)
first_names (part.Names names ∷ others) = names
first_names parts = []

abbrev pub first_values : List SyntaxPart → List Operand
first_values (part.Values values ∷ others) = values
first_values parts = []

abbrev pub first_columns : List SyntaxPart → List SyntaxColumn
first_columns (part.Columns columns ∷ others) = columns
first_columns parts = []

abbrev pub first_conditions : List SyntaxPart → List Condition
first_conditions (part.Conditions conditions ∷ others) = conditions
first_conditions parts = []

-- the statement of a form with these parts
abbrev pub statement_of : Form → List SyntaxPart → Syntax
statement_of form.Create parts =
    Create (first_word parts) (first_word (drop 1 parts)) (first_word (drop 1 (drop 1 parts)))
statement_of form.Insert parts = Insert (first_word parts) (first_names (drop 1 parts))
    (first_word (drop 1 (drop 1 parts))) (first_values (drop 1 (drop 1 (drop 1 parts))))
statement_of form.Delete parts = Delete (first_word parts) (first_conditions (drop 1 parts))
statement_of form.Select parts =
    Select (first_columns parts) (first_word (drop 1 parts)) (first_conditions (drop 1 (drop 1 parts)))
statement_of form.Flush parts = Flush
statement_of form.CompactSequence parts = CompactInner Sequence
statement_of form.CompactUnsequence parts = CompactInner Unsequence
statement_of form.CompactCross parts = CompactCross
statement_of form.ShowFiles parts = ShowFiles

-- a list that wants a part has one
abbrev pub HasNeededParts : Syntax → Type 0
HasNeededParts (Insert device names time values) = (0 < length names) × (0 < length values)
HasNeededParts (Select columns device conditions) = 0 < length columns
HasNeededParts syntax = Unit {0}

-- the tokens fit the form of this statement
pub record Fits (tokens : List Token) (syntax : Syntax) : Type 0 where
  pub form : Form
  pub parts : List SyntaxPart
  pub stand : Stand (places form) tokens parts
  pub says : statement_of form parts ≡ syntax

-- the tokens fit no form, which is a fault of kind 3
abbrev pub HasNoForm : List Token → ℕ → Type 0
HasNoForm tokens kind = ((syntax : Syntax) → ¬ Fits tokens syntax) × (kind ≡ 3)
