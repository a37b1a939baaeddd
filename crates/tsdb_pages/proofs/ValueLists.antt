-- Lists of values as lists of one type of the language.
use Rattle.std.proofs.Common.{◌≡◌, ℕ, List, [], ◌∷◌, length, map, get_or, refl, sym, ap, ◌∙◌}
use Rattle.std.specs.List.{AllByRecursion}
use Rattle.std.proofs.lemmas.List.{length-map}
use Rattle.std.proofs.lemmas.List.Elements.{recursion_from_All, All-from_recursion, All-map}
use Rattle.tsdb_base.specs.declared.value.DataType.{DataType}
use Rattle.tsdb_base.specs.declared.value.Encoding.{Encoding}
use Rattle.tsdb_base.specs.declared.value.Value.{Value}
use Rattle.tsdb_base.specs.Values.{IsValueOf}
use Rattle.tsdb_bits.specs.Lists.{IsListOf, IsSpelling, SpellNone, HasOneSpelling, IsShort}
use Rattle.tsdb_pages.specs.ListSpelling.{spelling}
use Rattle.tsdb_pages.specs.ListSteps.{MakesValues, spelling_of}

-- f and g agree on the items of a list
pub map_same : {A B : Type 0} (f g : A → B) (items : List A) → AllByRecursion (λ item. f item ≡ g item) items → map f items ≡ map g items
map_same f g [] same = refl
map_same f g (item ∷ items) same =
    let first : f item ≡ g item = same.0 in
    let rest : map f items ≡ map g items = map_same f g items same.1 in
    cc

-- values that were made of a list of one type of the language
record IsMade {A : Type 0} (as_value : A → Value) (IsValue : A → Type 0) (values : List Value) : Type 0 where
  list : List A
  typed : AllByRecursion IsValue list
  made : values ≡ map as_value list

made_of : {A : Type 0} (data_type : DataType) (as_value : A → Value) (IsValue : A → Type 0) (makes : MakesValues data_type as_value IsValue) (values : List Value) → AllByRecursion (IsValueOf data_type) values → IsMade as_value IsValue values
made_of data_type as_value IsValue makes [] typed = record { list = []; typed = tt; made = refl }
made_of data_type as_value IsValue makes (v ∷ values) typed =
    let first = makes.all v typed.0 in
    let rest = made_of data_type as_value IsValue makes values typed.1 in
    let head : v ≡ as_value first.0 = first.2 in
    let tail : values ≡ map as_value rest.list = rest.made in
    record { list = first.0 ∷ rest.list; typed = (first.1, rest.typed); made = cc }

-- a list of values is made of a list
record IsMadeList {A : Type 0} (as_value : A → Value) (IsValue : A → Type 0) (values : List Value) : Type 0 where
  list : List A
  is : IsListOf IsValue list
  made : values ≡ map as_value list

made_list : {A : Type 0} (data_type : DataType) (as_value : A → Value) (IsValue : A → Type 0) (makes : MakesValues data_type as_value IsValue) (values : List Value) → IsListOf (IsValueOf data_type) values → IsMadeList as_value IsValue values
made_list {A} data_type as_value IsValue makes values is =
    let m = made_of data_type as_value IsValue makes values (recursion_from_All (IsValueOf data_type) values is.typed) in
    let same : length values ≡ length m.list = ap length m.made ∙ length-map m.list as_value in
    record { list = m.list; is = record { few = rw (sym same) is.few; typed = All-from_recursion IsValue m.list m.typed }; made = m.made }

-- what a list spells, the values that are made of it do
pub values_spell : {A : Type 0} (data_type : DataType) (as_value : A → Value) (IsValue : A → Type 0) (makes : MakesValues data_type as_value IsValue) (encoding : Encoding) (bytes : List ℕ) (list : List A) (values : List Value) → values ≡ map as_value list
    → IsSpelling (spelling_of as_value encoding) IsValue bytes list → IsSpelling (spelling encoding) (IsValueOf data_type) bytes values
values_spell data_type as_value IsValue makes encoding bytes list values made is = record {
  list = record {
    few = rw (ap length made ∙ length-map list as_value) is.list.few;
    typed = rw made (All-map (IsValueOf data_type) as_value list (λ k d lt. makes.typed (get_or list k d) (is.list.typed k d lt)));
  };
  bytes_are = is.bytes_are ∙ ap (spelling encoding) (sym made);
}

-- where no list spells the bytes, no values do
pub no_values_spell : {A : Type 0} (data_type : DataType) (as_value : A → Value) (IsValue : A → Type 0) (makes : MakesValues data_type as_value IsValue) (encoding : Encoding) (bytes : List ℕ)
    → SpellNone (spelling_of as_value encoding) IsValue bytes → SpellNone (spelling encoding) (IsValueOf data_type) bytes
no_values_spell data_type as_value IsValue makes encoding bytes none = λ values is.
    let m = made_list data_type as_value IsValue makes values is.list in
    none m.list (record { list = m.is; bytes_are = is.bytes_are ∙ ap (spelling encoding) m.made })

-- where two lists with the same bytes are equal, two lists of the values are
pub values_have_one_spelling : {A : Type 0} (data_type : DataType) (as_value : A → Value) (IsValue : A → Type 0) (makes : MakesValues data_type as_value IsValue) (encoding : Encoding)
    → HasOneSpelling (spelling_of as_value encoding) IsValue → HasOneSpelling (spelling encoding) (IsValueOf data_type)
values_have_one_spelling data_type as_value IsValue makes encoding one = λ xs ys is_x is_y e.
    let m = made_list data_type as_value IsValue makes xs is_x in
    let n = made_list data_type as_value IsValue makes ys is_y in
    m.made ∙ ap (map as_value) (one m.list n.list m.is n.is (ap (spelling encoding) (sym m.made) ∙ e ∙ ap (spelling encoding) n.made)) ∙ sym n.made

-- where lists are short, lists of the values are
pub values_are_short : {A : Type 0} (data_type : DataType) (as_value : A → Value) (IsValue : A → Type 0) (makes : MakesValues data_type as_value IsValue) (encoding : Encoding)
    → IsShort (spelling_of as_value encoding) IsValue → IsShort (spelling encoding) (IsValueOf data_type)
values_are_short data_type as_value IsValue makes encoding short = λ values is.
    let m = made_list data_type as_value IsValue makes values is in
    rw (ap (spelling encoding) m.made) (short m.list m.is)
