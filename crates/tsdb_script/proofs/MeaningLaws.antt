-- A statement says one command at most, or has an objection of one kind at most, and not both. What it says is well-formed.
use Rattle.std.proofs.Common.{◌≡◌, ℕ, ◌<◌, true, List, [], ◌∷◌, ◌++◌, Option, None, Some, Result, Ok, Err, length, map, inl, inr, refl, sym, ap, subst, ◌∙◌, true≢false, arith}
use Rattle.std.specs.Prelude.{◌≤ℤ◌, All, IfOk}
use Rattle.std.specs.List.{AllByRecursion, AllZip, flat_map}
use Rattle.std.specs.Option.{IsSome}
use Rattle.std.proofs.lemmas.Int.{ints}
use Rattle.std.proofs.lemmas.List.{length-map}
use Rattle.std.proofs.lemmas.List.Elements.{All-head, All-tail, All-cons, All-nil}
use Rattle.std.proofs.lemmas.Slice.Zip.{AllZip-long}
use Rattle.tsdb_script.specs.Types.{Aggregate, Cell, SyntaxColumn, Command, Condition, DataType, Encoding, Item, LineFault, Operand, Range, Syntax}
use Rattle.tsdb_model.specs.declared.command.Command.TheVariants as command
use Rattle.tsdb_base.specs.Values.{is_suitable}
use Rattle.tsdb_model.specs.declared.command.Row.{Row}
use Rattle.tsdb_model.specs.declared.command.Schema.{Schema}
use Rattle.tsdb_model.specs.Commands.{AreDifferent, AreItems, IsDevice, IsRow, IsSeries, IsSchema, IsWellFormed}
use Rattle.tsdb_script.specs.declared.syntax.Syntax.TheVariants.{Create, Insert, Delete, Select, Flush, CompactInner, CompactCross, ShowFiles}
use Rattle.tsdb_script.specs.Forms.{HasNeededParts}
use Rattle.tsdb_script.specs.Meaning.{HasBadWord, AreColumnsAlike, ArePaired, IsGood, IsItem, IsLiteral, NamesAggregate, IsRangeOf, Means, Objects, Role, DeviceOf, Says, column_role, condition_roles, roles}
use Rattle.tsdb_script.proofs.Ranges.{not_before, not_behind, within}
use Rattle.tsdb_script.proofs.WordLists.{AllByRecursion-split, earlier, later, order, same_place}
use Rattle.tsdb_script.proofs.SameWords.{one_encoding, one_integer, one_literal, one_named, same_name, types_differ}

-- ---- lists

one_each : {A B : Type 0} (Is : A → B → Type 0) → ((a : A) (b c : B) → Is a b → Is a c → b ≡ c) → (xs : List A) (ys zs : List B)
    → AllZip Is xs ys → AllZip Is xs zs → ys ≡ zs
one_each Is one [] [] [] each again = refl
one_each Is one [] [] (z ∷ zs) each again = absurd again
one_each Is one (x ∷ xs) (y ∷ ys) [] each again = absurd again
one_each Is one (x ∷ xs) (y ∷ ys) (z ∷ zs) each again =
    let first = one x y z each.0 again.0 in
    let others = one_each Is one xs ys zs each.1 again.1 in
    cc
one_each Is one xs ys zs each again = absurd each

-- what is made of the same parts is the same
pub made_same : {A B C : Type 0} (make : A → B → C) (a other : A) (b another : B) → a ≡ other → b ≡ another → make a b ≡ make other another
made_same make a other b another first second = cc

-- cells are their names and their values
same_cells : (cells others : List Cell) → map (λ cell. cell.measurement) cells ≡ map (λ cell. cell.measurement) others
    → map (λ cell. cell.value) cells ≡ map (λ cell. cell.value) others → cells ≡ others
same_cells [] [] names values = refl
same_cells [] (d ∷ others) names values = absurd cc
same_cells (c ∷ cells) [] names values = absurd cc
same_cells (c ∷ cells) (d ∷ others) names values =
    let name : c.measurement ≡ d.measurement = cc in
    let value : c.value ≡ d.value = cc in
    let first : c ≡ d = made_same {C = Cell} (λ name value. record { measurement = name; value = value }) c.measurement d.measurement c.value d.value name value in
    let more_names : map (λ (cell : Cell). cell.measurement) cells ≡ map (λ cell. cell.measurement) others = cc in
    let more_values : map (λ (cell : Cell). cell.value) cells ≡ map (λ cell. cell.value) others = cc in
    let others_same = same_cells cells others more_names more_values in
    cc

one_item : (column : SyntaxColumn) (item other : Item) → IsItem column item → IsItem column other → item ≡ other
one_item column item other is again =
    made_same {C = Item} (λ name aggregate. record { measurement = name; aggregate = aggregate }) item.measurement other.measurement item.aggregate other.aggregate
    (is.0 ∙ sym again.0) (one_named column.aggregate item.aggregate other.aggregate is.1 again.1)

-- ---- ranges

module _ (conditions : List Condition) where
  -- a range that is not empty lies in any range of the same conditions
  lies_in : (range other : Range) → IsRangeOf conditions range → IsRangeOf conditions other → range.from ≤ℤ range.to
      → (other.from ≤ℤ range.from) × (range.from ≤ℤ other.to) × (range.to ≤ℤ other.to)
  lies_in range other is again some =
      let first = (again.times range.from is.from).1 ((is.times range.from is.from).0 (within range.from range.to _ (omega (arith, ints)) some)) in
      let last = (again.times range.to is.to).1 ((is.times range.to is.to).0 (within range.from range.to range.to some (omega (arith, ints)))) in
      (not_before other.from other.to range.from first, not_behind other.from other.to range.from first, not_behind other.from other.to range.to last)

  same_ends : (range other : Range) → range.from ≡ other.from → range.to ≡ other.to → range ≡ other
  same_ends range other first last = made_same {C = Range} (λ from to. record { from = from; to = to }) range.from other.from range.to other.to first last

  one_range : (range other : Range) → IsRangeOf conditions range → IsRangeOf conditions other → range ≡ other
  one_range range other is again =
      elim is.form [
        | inl some ↦ (let here = lies_in range other is again some in elim again.form [
          | inl more ↦ (let there = lies_in other range again is more in same_ends range other (omega (arith, ints, here.0, there.0)) (omega (arith, ints, here.2, there.2)))
          | inr none ↦ absurd (omega (arith, ints, here.0, here.1, none.0, none.1))
        ])
        | inr none ↦ elim again.form [
          | inl more ↦ (let there = lies_in other range again is more in absurd (omega (arith, ints, there.0, there.1, none.0, none.1)))
          | inr empty ↦ same_ends range other (none.0 ∙ sym empty.0) (none.1 ∙ sym empty.1)
        ]
      ]

-- ---- words

among : (before : List Role) (word : Role) (behind : List Role) → AllByRecursion IsGood (before ++ word ∷ behind) → IsGood word
among before word behind good = (AllByRecursion-split IsGood before (word ∷ behind) good).1.0

-- the first bad word is one
one_bad_word : (words : List Role) (kind other : ℕ) → HasBadWord words kind → HasBadWord words other → kind ≡ other
one_bad_word words kind other h k = elim (order h.before h.word h.behind k.before k.word k.behind (sym h.stands ∙ k.stands)) [
  | earlier more is ↦ absurd (h.bad (among h.before h.word more (subst (AllByRecursion IsGood) is k.good)))
  | later more is ↦ absurd (k.bad (among k.before k.word more (subst (AllByRecursion IsGood) is h.good)))
  | same_place fronts is ↦ rw (h.decides, is, k.decides) refl
]

no_bad_word : (words : List Role) (kind : ℕ) → AllByRecursion IsGood words → ¬ HasBadWord words kind
no_bad_word words kind good h = h.bad (among h.before h.word h.behind (subst (AllByRecursion IsGood) h.stands good))

-- ---- statements

one_said : (syntax : Syntax) (command other : Command) → Says syntax command → Says syntax other → command ≡ other
one_said (Create path data_type encoding) (command.Create schema) (command.Create other) says again =
    let made : List ℕ → DataType → Encoding → Schema = λ path data_type encoding. record { path = path; data_type = data_type; encoding = encoding } in
    let paths : schema.path ≡ other.path = says.0 ∙ sym again.0 in
    let types = types_differ schema.data_type other.data_type (same_name data_type _ _ says.1 again.1) in
    let encodings = one_encoding encoding schema.encoding other.encoding says.2 again.2 in
    let same : made schema.path schema.data_type schema.encoding ≡ made other.path other.data_type other.encoding = cc in
    ap command.Create same
one_said (Insert device names time values) (command.Insert path row) (command.Insert other rows) says again =
    let paths : path ≡ other = says.0 ∙ sym again.0 in
    let literals = one_each IsLiteral one_literal values (map (λ cell. cell.value) row.cells) (map (λ cell. cell.value) rows.cells) says.3 again.3 in
    let same : row ≡ rows = made_same {C = Row} (λ time cells. record { time = time; cells = cells }) _ _ _ _
    (one_integer time row.time rows.time says.1 again.1) (same_cells row.cells rows.cells (says.2 ∙ sym again.2) literals) in
    cc
one_said (Delete path conditions) (command.Delete series range) (command.Delete other ranges) says again =
    let paths : series ≡ other = says.0 ∙ sym again.0 in
    let same = one_range conditions range ranges says.1 again.1 in
    cc
one_said (Select columns device conditions) (command.Select path items range) (command.Select other others ranges) says again =
    let paths : path ≡ other = says.0 ∙ sym again.0 in
    let each = one_each IsItem one_item columns items others says.1 again.1 in
    let same = one_range conditions range ranges says.2 again.2 in
    cc
one_said Flush command.Flush command.Flush says again = refl
one_said (CompactInner space) (command.CompactInner one) (command.CompactInner other) says again = ap command.CompactInner (says ∙ sym again)
one_said CompactCross command.CompactCross command.CompactCross says again = refl
one_said ShowFiles command.ShowFiles command.ShowFiles says again = refl
one_said (Create path data_type encoding) (command.Create schema) other says again = absurd again
one_said (Insert device names time values) (command.Insert path row) other says again = absurd again
one_said (Delete path conditions) (command.Delete series range) other says again = absurd again
one_said (Select columns device conditions) (command.Select path items range) other says again = absurd again
one_said Flush command.Flush other says again = absurd again
one_said (CompactInner space) (command.CompactInner one) other says again = absurd again
one_said CompactCross command.CompactCross other says again = absurd again
one_said ShowFiles command.ShowFiles other says again = absurd again
one_said syntax command other says again = absurd says

-- a statement means one command
pub one_command : (syntax : Syntax) (command other : Command) → Means syntax command → Means syntax other → command ≡ other
one_command syntax command other means again = one_said syntax command other means.says again.says

-- what is objected to a statement is of one kind
pub one_objection : (syntax : Syntax) (kind other : ℕ) → Objects syntax kind → Objects syntax other → kind ≡ other
one_objection syntax kind other (inl h) (inl k) = one_bad_word (roles syntax) kind other h k
one_objection syntax kind other (inl h) (inr k) = absurd (no_bad_word (roles syntax) kind k.0 h)
one_objection syntax kind other (inr h) (inl k) = absurd (no_bad_word (roles syntax) other h.0 k)
one_objection syntax kind other (inr h) (inr k) = h.2 ∙ sym k.2

-- nothing is objected to a statement that means a command
pub no_objection : (syntax : Syntax) (command : Command) (kind : ℕ) → Means syntax command → ¬ Objects syntax kind
no_objection syntax command kind means (inl h) = no_bad_word (roles syntax) kind means.words h
no_objection syntax command kind means (inr h) = h.1 means.balanced

-- ---- what is said is well-formed

well_formed_create : (path data_type encoding : List ℕ) (schema : Schema) → Means (Create path data_type encoding) (command.Create schema) → IsSchema schema
well_formed_create path data_type encoding schema means =
    let good = means.words in
    let named = good.1.1.0 in
    let same : named.0 ≡ schema.encoding = one_encoding encoding named.0 schema.encoding named.1 means.says.2 in
    record {
      series = subst IsSeries (sym means.says.0) good.0.1;
      suits = subst (λ e. is_suitable schema.data_type e ≡ true) same (named.2 schema.data_type means.says.1);
    }

well_formed_row : (device : List ℕ) (names : List (List ℕ)) (time : List ℕ) (values : List Operand) (row : Row) → 0 < length names → ArePaired names values
    → map (λ cell. cell.measurement) row.cells ≡ names → IsRow row
well_formed_row device names time values row some paired same =
    let long : length row.cells ≡ length names = sym (length-map row.cells (λ (cell : Cell). cell.measurement)) ∙ ap length same in
    record { some = omega arith; few = omega (arith, paired.few); different = subst AreDifferent (sym same) paired.different }

named_none : (word : Option (List ℕ)) (aggregate : Option Aggregate) → NamesAggregate word aggregate → word ≡ None → aggregate ≡ None
named_none None None is none = refl
named_none None (Some aggregate) is none = absurd is
named_none (Some word) aggregate is none = absurd cc

named_some : (word : Option (List ℕ)) (aggregate : Option Aggregate) → NamesAggregate word aggregate → IsSome word → IsSome aggregate
named_some None aggregate is some = absurd (true≢false (sym some))
named_some (Some word) None is some = absurd is
named_some (Some word) (Some aggregate) is some = refl

-- what follows for an item's aggregate from the column's, for all items
each_item : (P : Option (List ℕ) → Type 0) (Q : Option Aggregate → Type 0) → ((word : Option (List ℕ)) (aggregate : Option Aggregate) → NamesAggregate word aggregate → P word → Q aggregate)
    → (columns : List SyntaxColumn) (items : List Item) → AllZip IsItem columns items → All (λ column. P column.aggregate) columns → All (λ item. Q item.aggregate) items
each_item P Q step columns [] each all = All-nil (λ item. Q item.aggregate)
each_item P Q step [] (i ∷ items) each all = absurd each
each_item P Q step (c ∷ columns) (i ∷ items) each all =
    All-cons (λ item. Q item.aggregate) i items (step c.aggregate i.aggregate each.0.1 (All-head (λ column. P column.aggregate) c columns all))
    (each_item P Q step columns items each.1 (All-tail (λ column. P column.aggregate) c columns all))

well_formed_items : (columns : List SyntaxColumn) (items : List Item) → 0 < length columns → AreColumnsAlike columns → AllZip IsItem columns items → AreItems items
well_formed_items columns items some alike each =
    let long : length items ≡ length columns = AllZip-long IsItem columns items each in
    record {
      some = omega arith;
      few = omega (arith, alike.few);
      alike = elim alike.alike [
        | inl none ↦ inl (each_item (λ word. word ≡ None) (λ aggregate. aggregate ≡ None) named_none columns items each none)
        | inr all ↦ inr (each_item IsSome IsSome named_some columns items each all)
      ];
    }

-- what a statement with its parts means is well-formed
pub well_formed : (syntax : Syntax) (command : Command) → HasNeededParts syntax → Means syntax command → IsWellFormed command
well_formed (Create path data_type encoding) (command.Create schema) parts means = well_formed_create path data_type encoding schema means
well_formed (Insert device names time values) (command.Insert path row) parts means =
    (subst IsDevice (sym means.says.0) means.words.0.1, well_formed_row device names time values row parts.0 means.balanced means.says.2)
well_formed (Delete path conditions) (command.Delete series range) parts means = subst IsSeries (sym means.says.0) means.words.0.1
well_formed (Select columns device conditions) (command.Select path items range) parts means = (
  subst IsDevice (sym means.says.0)
      (AllByRecursion-split IsGood (flat_map column_role columns) (DeviceOf (map (λ column. column.measurement) columns) device ∷ condition_roles conditions) means.words).1.0.1,
  well_formed_items columns items parts means.balanced means.says.1,
)
well_formed Flush command.Flush parts means = tt
well_formed (CompactInner space) (command.CompactInner one) parts means = tt
well_formed CompactCross command.CompactCross parts means = tt
well_formed ShowFiles command.ShowFiles parts means = tt
well_formed syntax command parts means = absurd means.says

-- what is returned is
pub well_formed_result : (syntax : Syntax) (result : Result Command LineFault) → HasNeededParts syntax → IfOk result (Means syntax) → IfOk result IsWellFormed
well_formed_result syntax (Ok command) parts means = well_formed syntax command parts means
well_formed_result syntax (Err fault) parts means = tt
