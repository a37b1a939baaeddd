-- Steps of the proofs: the values of one type, as the language's own type has them.
use Rattle.std.specs.Prelude.{◌≡◌, ℕ, Bool, false, List, map}
use Rattle.tsdb_base.specs.declared.value.DataType.{DataType}
use Rattle.tsdb_base.specs.declared.value.Encoding.{Encoding}
use Rattle.tsdb_base.specs.declared.value.Value.{Value}
use Rattle.tsdb_base.specs.declared.value.Value.TheVariants as value
use Rattle.tsdb_base.specs.Values.{IsValueOf}
use Rattle.tsdb_pages.specs.ListSpelling.{spelling}

-- the values of the type are those that `as_value` makes
pub record MakesValues {A : Type 0} (data_type : DataType) (as_value : A → Value) (IsValue : A → Type 0) : Type 0 where
  pub typed : (a : A) → IsValue a → IsValueOf data_type (as_value a)
  pub all : (v : Value) → IsValueOf data_type v → (a : A) × IsValue a × (v ≡ as_value a)

-- the bytes of the values that `as_value` makes of a list
abbrev pub spelling_of : {A : Type 0} → (A → Value) → Encoding → List A → List ℕ
spelling_of as_value encoding list = spelling encoding (map as_value list)

-- the truth value of a value; false where there is none
abbrev pub truth_of : Value → Bool
truth_of (value.Bool truth) = truth
truth_of (value.I32 number) = false
truth_of (value.I64 number) = false
truth_of (value.Text bytes) = false
