-- A word names one type, encoding or aggregate at most, and writes one value at most.
use Rattle.std.proofs.Common.{◌≡◌, ◌≤◌, ℕ, ℤ, true, false, List, [], ◌∷◌, Option, None, Some, refl, sym, ap, ◌∙◌, true≢false, arith}
use Rattle.std.specs.Prelude.{codes}
use Rattle.std.specs.Char.{to_ascii_lowercase}
use Rattle.std.specs.Str.{str_to_ascii_lowercase}
use Rattle.std.proofs.lemmas.Bool.{ne_eqb}
use Rattle.std.proofs.lemmas.Bool.Decides.{nat_tests}
use Rattle.std.proofs.lemmas.Slice.Eq.{bytes_eq-Decides}
use Rattle.std.proofs.lemmas.Str.Parse.{digit_from_value}
use Rattle.tsdb_script.specs.Types.{Aggregate, DataType, Encoding, Literal, Operand}
use Rattle.tsdb_base.specs.Notation.{aggregate_name}
use Rattle.tsdb_base.specs.declared.answers.Aggregate.TheVariants as aggregate
use Rattle.tsdb_base.specs.declared.value.DataType.TheVariants as type
use Rattle.tsdb_base.specs.declared.value.Encoding.TheVariants as encoding
use Rattle.tsdb_model.specs.declared.command.Literal.TheVariants as literal
use Rattle.tsdb_script.specs.declared.syntax.Operand.TheVariants as operand
use Rattle.tsdb_script.specs.Meaning.{IsInteger, IsLiteral, NamesAggregate, SpellsName, encoding_name, type_name}
use Rattle.tsdb_script.specs.Tokens.{is_keyword}

lower_names : (word name : List ℕ) → SpellsName word name → str_to_ascii_lowercase word ≡ str_to_ascii_lowercase name
lower_names word name names = (bytes_eq-Decides (str_to_ascii_lowercase word) (str_to_ascii_lowercase name)).0 names

-- two names of one word are one name in any case
pub same_name : (word one other : List ℕ) → SpellsName word one → SpellsName word other → is_keyword one other ≡ true
same_name word one other names again =
    (bytes_eq-Decides (str_to_ascii_lowercase one) (str_to_ascii_lowercase other)).1 (sym (lower_names word one names) ∙ lower_names word other again)

-- the names of two types differ
pub types_differ : (one other : DataType) → is_keyword (type_name one) (type_name other) ≡ true → one ≡ other
types_differ type.Boolean type.Boolean same = refl
types_differ type.Int32 type.Int32 same = refl
types_differ type.Int64 type.Int64 same = refl
types_differ type.Text type.Text same = refl
types_differ one other same = absurd (true≢false (sym same))

-- the names of two encodings differ
encodings_differ : (one other : Encoding) → is_keyword (encoding_name one) (encoding_name other) ≡ true → one ≡ other
encodings_differ encoding.Plain encoding.Plain same = refl
encodings_differ encoding.Dictionary encoding.Dictionary same = refl
encodings_differ encoding.Rle encoding.Rle same = refl
encodings_differ encoding.Ts2diff encoding.Ts2diff same = refl
encodings_differ one other same = absurd (true≢false (sym same))

-- the names of two aggregates differ
aggregates_differ : (one other : Aggregate) → is_keyword (aggregate_name one) (aggregate_name other) ≡ true → one ≡ other
aggregates_differ aggregate.Count aggregate.Count same = refl
aggregates_differ aggregate.FirstValue aggregate.FirstValue same = refl
aggregates_differ aggregate.LastValue aggregate.LastValue same = refl
aggregates_differ aggregate.MinValue aggregate.MinValue same = refl
aggregates_differ aggregate.MaxValue aggregate.MaxValue same = refl
aggregates_differ aggregate.MinTime aggregate.MinTime same = refl
aggregates_differ aggregate.MaxTime aggregate.MaxTime same = refl
aggregates_differ aggregate.Sum aggregate.Sum same = refl
aggregates_differ one other same = absurd (true≢false (sym same))

pub one_encoding : (word : List ℕ) (one other : Encoding) → SpellsName word (encoding_name one) → SpellsName word (encoding_name other) → one ≡ other
one_encoding word one other names again = encodings_differ one other (same_name word (encoding_name one) (encoding_name other) names again)

-- an aggregate or none
pub one_named : (word : Option (List ℕ)) (one other : Option Aggregate) → NamesAggregate word one → NamesAggregate word other → one ≡ other
one_named None None None is again = refl
one_named (Some word) (Some one) (Some other) is again = ap Some (aggregates_differ one other (same_name word _ _ is again))
one_named None None (Some other) is again = absurd again
one_named (Some word) (Some one) None is again = absurd again
one_named word one other is again = absurd is

pub one_integer : (word : List ℕ) (one other : ℤ) → IsInteger word one → IsInteger word other → one ≡ other
one_integer word one other is again = is.value ∙ sym again.value

-- a letter by its lower case
letter : (b c : ℕ) → to_ascii_lowercase b ≡ c → 97 ≤ c → 65 ≤ b
letter b c e low = grind (arith, nat_tests)

-- a word that names what begins with a letter is no integer
no_integer : (name : List ℕ) (c : ℕ) (others word : List ℕ) (number : ℤ)
    → str_to_ascii_lowercase name ≡ c ∷ others → 97 ≤ c → SpellsName word name → ¬ IsInteger word number
no_integer name c others [] number lower low names is = omega (arith, is.digits.0)
no_integer name c others (b ∷ word) number lower low names is =
    let same = lower_names (b ∷ word) name names in
    let first : to_ascii_lowercase b ≡ c = cc in
    let large : 65 ≤ b = letter b c first low in
    let digits = rw (ne_eqb b 45 (λ e. omega arith), ne_eqb b 43 (λ e. omega arith)) at is.digits in
    omega (arith, digit_from_value b digits.1.0)

pub one_literal : (operand : Operand) (one other : Literal) → IsLiteral operand one → IsLiteral operand other → one ≡ other
one_literal (operand.Text content) (literal.Text one) (literal.Text other) is again = ap literal.Text (is ∙ sym again)
one_literal (operand.Word word) (literal.Bool true) (literal.Bool true) is again = refl
one_literal (operand.Word word) (literal.Bool false) (literal.Bool false) is again = refl
one_literal (operand.Word word) (literal.Int one) (literal.Int other) is again = ap literal.Int (one_integer word one other is again)
one_literal (operand.Word word) (literal.Bool true) (literal.Bool false) is again = absurd (true≢false (sym (same_name word (codes "true") (codes "false") is again)))
one_literal (operand.Word word) (literal.Bool false) (literal.Bool true) is again = absurd (true≢false (sym (same_name word (codes "false") (codes "true") is again)))
one_literal (operand.Word w) (literal.Bool true) (literal.Int n) is again = absurd (no_integer (codes "true") 116 _ w n refl (omega arith) is again)
one_literal (operand.Word w) (literal.Bool false) (literal.Int n) is again = absurd (no_integer (codes "false") 102 _ w n refl (omega arith) is again)
one_literal (operand.Word w) (literal.Int n) (literal.Bool true) is again = absurd (no_integer (codes "true") 116 _ w n refl (omega arith) again is)
one_literal (operand.Word w) (literal.Int n) (literal.Bool false) is again = absurd (no_integer (codes "false") 102 _ w n refl (omega arith) again is)
one_literal (operand.Text content) (literal.Text one) other is again = absurd again
one_literal (operand.Text content) one other is again = absurd is
one_literal (operand.Word word) one (literal.Text text) is again = absurd again
one_literal (operand.Word word) (literal.Text text) other is again = absurd is
