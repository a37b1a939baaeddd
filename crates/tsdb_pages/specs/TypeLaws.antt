-- Each type's values are those of one type of the language.
use Rattle.std.proofs.Common.{◌≡◌, Bool, ℕ, ℤ, List, refl, FitsSigned}
use Rattle.std.specs.Int.{w32, w64}
use Rattle.tsdb_base.specs.declared.value.DataType.TheVariants.{Boolean, Int32, Int64, Text as TextType}
use Rattle.tsdb_base.specs.declared.value.Value.{Value}
use Rattle.tsdb_base.specs.declared.value.Value.TheVariants as value
use Rattle.tsdb_base.specs.Plain.{IsText}
use Rattle.tsdb_base.specs.Values.{IsValueOf}
use Rattle.tsdb_pages.specs.ListSteps.{MakesValues}

boolean_in : (v : Value) → IsValueOf Boolean v → (a : Bool) × Unit {0} × (v ≡ value.Bool a)
boolean_in (value.Bool truth) is = (truth, tt, refl)
boolean_in (value.I32 number) is = absurd cc
boolean_in (value.I64 number) is = absurd cc
boolean_in (value.Text bytes) is = absurd cc

int32_in : (v : Value) → IsValueOf Int32 v → (a : ℤ) × FitsSigned w32 a × (v ≡ value.I32 a)
int32_in (value.Bool truth) is = absurd cc
int32_in (value.I32 number) is = (number, is.fits, refl)
int32_in (value.I64 number) is = absurd cc
int32_in (value.Text bytes) is = absurd cc

int64_in : (v : Value) → IsValueOf Int64 v → (a : ℤ) × FitsSigned w64 a × (v ≡ value.I64 a)
int64_in (value.Bool truth) is = absurd cc
int64_in (value.I32 number) is = absurd cc
int64_in (value.I64 number) is = (number, is.fits, refl)
int64_in (value.Text bytes) is = absurd cc

text_in : (v : Value) → IsValueOf TextType v → (a : List ℕ) × IsText a × (v ≡ value.Text a)
text_in (value.Bool truth) is = absurd cc
text_in (value.I32 number) is = absurd cc
text_in (value.I64 number) is = absurd cc
text_in (value.Text bytes) is = (bytes, is.fits, refl)

pub makes_booleans : MakesValues Boolean value.Bool (λ _. Unit {0})
makes_booleans = record { typed = λ a is. record { typed = refl; fits = is }; all = boolean_in }

pub makes_int32 : MakesValues Int32 value.I32 (FitsSigned w32)
makes_int32 = record { typed = λ a is. record { typed = refl; fits = is }; all = int32_in }

pub makes_int64 : MakesValues Int64 value.I64 (FitsSigned w64)
makes_int64 = record { typed = λ a is. record { typed = refl; fits = is }; all = int64_in }

pub makes_texts : MakesValues TextType value.Text IsText
makes_texts = record { typed = λ a is. record { typed = refl; fits = is }; all = text_in }
