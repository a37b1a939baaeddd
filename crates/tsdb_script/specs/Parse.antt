-- What the parser finds, step by step, as functions on lists of tokens. No public clause cites them.
use Rattle.std.specs.Prelude.{◌≡◌, ℕ, zero, suc, length, ◌&&◌, Bool, true, false, List, [], ◌∷◌, Option, None, Some}
use Rattle.std.specs.Prelude.{Result, Ok, Err, option_map, if◌then◌else◌}
use Rattle.tsdb_script.specs.Types.{SyntaxColumn, Comparison, Condition, Form, LineFault, Operand, SyntaxPart}
use Rattle.tsdb_script.specs.Types.{FormPlace, Syntax, Token}
use Rattle.tsdb_script.specs.declared.form.Keyword.TheVariants as key
use Rattle.tsdb_script.specs.declared.form.FormPlace.TheVariants as place
use Rattle.tsdb_script.specs.declared.syntax.Comparison.TheVariants as compared
use Rattle.tsdb_script.specs.declared.syntax.Operand.TheVariants as operand
use Rattle.tsdb_script.specs.declared.syntax.SyntaxPart.TheVariants as part
use Rattle.tsdb_script.specs.declared.fault.LineFault.TheVariants.{Bad, Memory}
use Rattle.tsdb_script.specs.declared.form.TheConstants.{FORMS}
use Rattle.tsdb_script.specs.declared.token.Token.TheVariants.{Word, Text, Semicolon, Equal, Less}
use Rattle.tsdb_script.specs.declared.token.Token.TheVariants.{LessEqual, Greater, GreaterEqual}
use Rattle.tsdb_script.specs.Forms.{is_at, places, statement_of}
use Rattle.tsdb_script.specs.Steps.{onto}
use Rattle.tsdb_script.specs.Tokens.{is_keyword}

infixl 10 ◌>>=◌
abbrev pub ◌>>=◌ : {A B : Type 0} → Option A → (A → Option B) → Option B
None >>= f = None
(Some x) >>= f = f x

-- what a step of the parser returned, seen by a view, is what it finds; where it finds nothing the fault is of kind 3
abbrev pub ParsesTo : {X Y : Type 0} → (X → Y) → Result X LineFault → Option Y → Type 0
ParsesTo view (Ok x) found = found ≡ Some (view x)
ParsesTo view (Err (Bad kind)) found = (found ≡ None) × (kind ≡ 3)
ParsesTo view (Err Memory) found = Unit {0}

abbrev pub Tokens : Type 0
Tokens = List Token

abbrev pub says : List ℕ → Token → Bool
says name (Word word) = is_keyword word name
says name token = false

abbrev pub stands_at : FormPlace → Tokens → Bool
stands_at place [] = false
stands_at place (token ∷ rest) = is_at place token

abbrev pub fixed_at : FormPlace → Tokens → Option Tokens
fixed_at place [] = None
fixed_at place (token ∷ rest) = if is_at place token then Some rest else None

abbrev pub word_at : Tokens → Option (List ℕ × Tokens)
word_at (Word word ∷ rest) = Some (word, rest)
word_at tokens = None

abbrev pub end_at : Tokens → Option (Unit {0})
end_at [] = Some tt
end_at (Semicolon ∷ []) = Some tt
end_at tokens = None

abbrev pub operand_at : Tokens → Option (Operand × Tokens)
operand_at (Word word ∷ rest) = Some (operand.Word word, rest)
operand_at (Text text ∷ rest) = Some (operand.Text text, rest)
operand_at tokens = None

abbrev pub comparison_at : Tokens → Option (Comparison × Tokens)
comparison_at (Less ∷ rest) = Some (compared.Less, rest)
comparison_at (LessEqual ∷ rest) = Some (compared.LessEqual, rest)
comparison_at (Greater ∷ rest) = Some (compared.Greater, rest)
comparison_at (GreaterEqual ∷ rest) = Some (compared.GreaterEqual, rest)
comparison_at (Equal ∷ rest) = Some (compared.Equal, rest)
comparison_at tokens = None

unfoldable pub condition_at : Tokens → Option (Condition × Tokens)
condition_at tokens = do
  rest ← fixed_at (place.Keyword key.Time) tokens
  comparison ← comparison_at rest
  number ← word_at comparison.1
  Some (record { comparison = comparison.0; number = number.0 }, number.1)

unfoldable pub called_at : List ℕ → Tokens → Option (SyntaxColumn × Tokens)
called_at aggregate tokens = do
  rest ← fixed_at place.Open tokens
  measurement ← word_at rest
  rest ← fixed_at place.Close measurement.1
  Some (record { aggregate = Some aggregate; measurement = measurement.0 }, rest)

unfoldable pub column_at : Tokens → Option (SyntaxColumn × Tokens)
column_at tokens = do
  first ← word_at tokens
  if stands_at place.Open first.1 then called_at first.0 first.1
      else Some (record { aggregate = None; measurement = first.0 }, first.1)

-- the items as long as there are more, but at most so many
abbrev pub items_at : {X : Type 0} → FormPlace → (Tokens → Option (X × Tokens)) → ℕ → Tokens → Option (List X × Tokens)
items_at between item zero tokens = Some ([], tokens)
items_at between item (suc n) tokens =
    if stands_at between tokens
    then fixed_at between tokens >>= (λ rest. item rest >>= (λ x. option_map (onto x.0) (items_at between item n x.1)))
    else Some ([], tokens)

-- one item, and more behind it
abbrev pub list_at : {X : Type 0} → FormPlace → (Tokens → Option (X × Tokens)) → Tokens → Option (List X × Tokens)
list_at between item tokens = item tokens >>= (λ x. option_map (onto x.0) (items_at between item (length x.1) x.1))

unfoldable pub conditions_at : Tokens → Option (List Condition × Tokens)
conditions_at tokens =
    if stands_at (place.Keyword key.Where) tokens
    then fixed_at (place.Keyword key.Where) tokens >>= list_at (place.Keyword key.And) condition_at
    else Some ([], tokens)

-- what stands at a place: its part, where it has one
unfoldable pub part_at : FormPlace → Tokens → Option (Option SyntaxPart × Tokens)
part_at place.Word tokens = do
  word ← word_at tokens
  Some (Some (part.Word word.0), word.1)
part_at place.Names tokens = do
  names ← list_at place.Comma word_at tokens
  Some (Some (part.Names names.0), names.1)
part_at place.Values tokens = do
  values ← list_at place.Comma operand_at tokens
  Some (Some (part.Values values.0), values.1)
part_at place.Columns tokens = do
  columns ← list_at place.Comma column_at tokens
  Some (Some (part.Columns columns.0), columns.1)
part_at place.Where tokens = do
  conditions ← conditions_at tokens
  Some (Some (part.Conditions conditions.0), conditions.1)
part_at place tokens = do
  rest ← fixed_at place tokens
  Some (None, rest)

-- a part, where there is one, put before others
abbrev pub before_parts : Option SyntaxPart → List SyntaxPart → List SyntaxPart
before_parts None parts = parts
before_parts (Some part) parts = part ∷ parts

-- the parts that stand at the places
abbrev pub parts_at : List FormPlace → Tokens → Option (List SyntaxPart)
parts_at [] tokens = end_at tokens >>= (λ nothing. Some [])
parts_at (place ∷ places) tokens =
    part_at place tokens >>= (λ found. option_map (before_parts found.0) (parts_at places found.1))

abbrev pub is_keyword_place : FormPlace → Bool
is_keyword_place (place.Keyword keyword) = true
is_keyword_place place = false

-- the tokens begin with the keywords that the places begin with
abbrev pub begins_at : List FormPlace → Tokens → Bool
begins_at [] tokens = true
begins_at (place ∷ places) [] = if is_keyword_place place then false else true
begins_at (place ∷ places) (token ∷ tokens) = if is_keyword_place place then is_at place token && begins_at places tokens else true

-- the first of these forms whose keywords the tokens begin with
abbrev pub form_at : List Form → Tokens → Option Form
form_at [] tokens = None
form_at (form ∷ forms) tokens = if begins_at (places form) tokens then Some form else form_at forms tokens

unfoldable pub statement_at : Tokens → Option Syntax
statement_at tokens = do
  form ← form_at FORMS.now tokens
  parts ← parts_at (places form) tokens
  Some (statement_of form parts)
