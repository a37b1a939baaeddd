-- Where a part of a field is missing, the field is.
use Rattle.std.proofs.Common.{◌≡◌, ℕ, Bool, true, List, ◌++◌, Err, refl, sym, ap, ◌∙◌, append_assoc}
use Rattle.std.specs.Prelude.{ℤ, ◌<◌, ◌^◌, ◌&&◌, Option, None, Some, FitsSigned}
use Rattle.std.specs.Int.{w64, w128}
use Rattle.std.proofs.lemmas.Bool.{false≢true}
use Rattle.tsdb_base.specs.declared.value.DataType.{DataType}
use Rattle.tsdb_base.specs.declared.value.Value.{Value}
use Rattle.tsdb_base.specs.Fields.{number64, value_field, pair_field, IsPair}
use Rattle.tsdb_base.specs.FieldLaws.{number64-prefix_free, pair_field-prefix_free, plain_i128-prefix_free}
use Rattle.tsdb_base.specs.Plain.{plain_i64, plain_i128, BeginsWithNone}
use Rattle.tsdb_base.specs.PlainLaws.{plain_i64-prefix_free}
use Rattle.tsdb_base.proofs.PlainLists.{IsPrefixFree}
use Rattle.tsdb_base.specs.Values.{IsValueOf}
use Rattle.tsdb_fields.specs.declared.fault.FieldFault.{FieldFault}
use Rattle.tsdb_fields.specs.declared.fault.FieldFault.TheVariants.{Bad, Memory}
use Rattle.tsdb_fields.specs.declared.rest.Rest.{Rest}
use Rattle.tsdb_fields.specs.Reading.{Reads, ReadsParts}
use Rattle.tsdb_fields.specs.Statistics.{optional_field, optional_sum, stats_field, is_numeric, IsExtremeOf, IsStatsOf, IsSumIf}
use Rattle.tsdb_fields.proofs.Laws.{value_field-prefix_free}

-- the first of two is missing
pub no_first : {A B : Type 0} (first : A → List ℕ) (second : B → List ℕ) (IsFirst : A → Type 0) (IsSecond : B → Type 0) (bytes : List ℕ)
    → BeginsWithNone first IsFirst bytes → BeginsWithNone (pair_field first second) (IsPair IsFirst IsSecond) bytes
no_first first second IsFirst IsSecond bytes none = λ pair behind is e.
    none pair.0 (second pair.1 ++ behind) is.0 (e ∙ append_assoc (first pair.0) (second pair.1) behind)

-- the second of two is missing
pub no_second : {A B : Type 0} (first : A → List ℕ) (second : B → List ℕ) (IsFirst : A → Type 0) (IsSecond : B → Type 0) (free : IsPrefixFree first IsFirst)
    (a : A) (bytes middle : List ℕ) → IsFirst a → bytes ≡ first a ++ middle → BeginsWithNone second IsSecond middle
    → BeginsWithNone (pair_field first second) (IsPair IsFirst IsSecond) bytes
no_second first second IsFirst IsSecond free a bytes middle is_a found none = λ pair behind is e.
    let same = free a pair.0 middle (second pair.1 ++ behind) is_a is.0 (sym found ∙ e ∙ append_assoc (first pair.0) (second pair.1) behind) in
    none pair.1 behind is.1 same.1

-- a fault that reading one part gave
pub part_fault : {A B C D : Type 0} (part : A → List ℕ) (IsPart : A → Type 0) (whole : B → List ℕ) (IsWhole : B → Type 0) (old middle : Rest) (view : C → A) (view_whole : D → B) (fault : FieldFault)
    → (BeginsWithNone part IsPart middle.bytes.now → BeginsWithNone whole IsWhole old.bytes.now)
    → ReadsParts part IsPart middle view (Err fault) → ReadsParts whole IsWhole old view_whole (Err fault)
part_fault part IsPart whole IsWhole old middle view view_whole (Bad at) lacks reads = lacks reads
part_fault part IsPart whole IsWhole old middle view view_whole Memory lacks reads = tt

-- the place of a field that is one part is not asked for
pub parts_of : {A B : Type 0} (spelling : A → List ℕ) (IsField : A → Type 0) (old : Rest) (view : B → A) (fault : FieldFault)
    → Reads spelling IsField old view (Err fault) → ReadsParts spelling IsField old view (Err fault)
parts_of spelling IsField old view (Bad at) reads = reads.none
parts_of spelling IsField old view Memory reads = tt

-- the three parts of statistics: the number and the times, two values, and two more for numbers
abbrev pub times : ℕ × (ℤ × ℤ) → List ℕ
times = pair_field number64 (pair_field plain_i64 plain_i64)

abbrev pub AreTimes : ℕ × (ℤ × ℤ) → Type 0
AreTimes = IsPair (λ n. n < 2 ^ 64) (IsPair (FitsSigned w64) (FitsSigned w64))

pub times-prefix_free : IsPrefixFree times AreTimes
times-prefix_free = pair_field-prefix_free number64 (pair_field plain_i64 plain_i64) (λ n. n < 2 ^ 64) (IsPair (FitsSigned w64) (FitsSigned w64)) number64-prefix_free
    (pair_field-prefix_free plain_i64 plain_i64 (FitsSigned w64) (FitsSigned w64) plain_i64-prefix_free plain_i64-prefix_free)

abbrev pub ends : Value × Value → List ℕ
ends = pair_field value_field value_field

abbrev pub AreEnds : DataType → Value × Value → Type 0
AreEnds t = IsPair (IsValueOf t) (IsValueOf t)

pub ends-prefix_free : (t : DataType) → IsPrefixFree ends (AreEnds t)
ends-prefix_free t = pair_field-prefix_free value_field value_field (IsValueOf t) (IsValueOf t) (value_field-prefix_free t) (value_field-prefix_free t)

abbrev pub extremes : Option Value × Option Value → List ℕ
extremes = pair_field optional_field optional_field

abbrev pub AreExtremes : DataType → Option Value × Option Value → Type 0
AreExtremes t = IsPair (IsExtremeOf t) (IsExtremeOf t)

optional_field-prefix_free : (t : DataType) → IsPrefixFree optional_field (IsExtremeOf t)
optional_field-prefix_free t None None x y is_a is_b e = (refl, e)
optional_field-prefix_free t None (Some b) x y is_a is_b e = let u = is_b.0 in absurd cc
optional_field-prefix_free t (Some a) None x y is_a is_b e = let u = is_a.0 in absurd cc
optional_field-prefix_free t (Some a) (Some b) x y is_a is_b e = let same = value_field-prefix_free t a b x y is_a.1 is_b.1 e in (ap (λ v. Some v) same.0, same.1)

pub extremes-prefix_free : (t : DataType) → IsPrefixFree extremes (AreExtremes t)
extremes-prefix_free t = pair_field-prefix_free optional_field optional_field (IsExtremeOf t) (IsExtremeOf t) (optional_field-prefix_free t) (optional_field-prefix_free t)

-- what only numbers have: the least and the greatest, and a sum or none
abbrev pub numbers : (Option Value × Option Value) × Option ℤ → List ℕ
numbers = pair_field extremes optional_sum

abbrev pub AreNumbers : Bool → DataType → (Option Value × Option Value) × Option ℤ → Type 0
AreNumbers s t = IsPair (AreExtremes t) (IsSumIf (s && is_numeric t))

optional_sum-prefix_free : (there : Bool) → IsPrefixFree optional_sum (IsSumIf there)
optional_sum-prefix_free there None None x y is_a is_b e = (refl, e)
optional_sum-prefix_free there None (Some b) x y is_a is_b e = let u = is_b.0 in absurd cc
optional_sum-prefix_free there (Some a) None x y is_a is_b e = let u = is_a.0 in absurd cc
optional_sum-prefix_free there (Some a) (Some b) x y is_a is_b e = let same = plain_i128-prefix_free a b x y is_a.1 is_b.1 e in (ap (λ v. Some v) same.0, same.1)

pub numbers-prefix_free : (s : Bool) (t : DataType) → IsPrefixFree numbers (AreNumbers s t)
numbers-prefix_free s t = pair_field-prefix_free extremes optional_sum (AreExtremes t) (IsSumIf (s && is_numeric t)) (extremes-prefix_free t) (optional_sum-prefix_free (s && is_numeric t))

-- where a sum is to be there and is none, there is no sum or none
pub no_sum : (there : Bool) (old : Rest) (fault : FieldFault) → there ≡ true → Reads {B = ℤ} plain_i128 (FitsSigned w128) old (λ sum. sum) (Err fault) → Reads {B = Option ℤ} optional_sum (IsSumIf there) old (λ sum. sum) (Err fault)
no_sum there old (Bad at) is reads = record { place = reads.place; none = none_of old.bytes.now reads.none }
  where
    none_of : (bytes : List ℕ) → BeginsWithNone plain_i128 (FitsSigned w128) bytes → BeginsWithNone optional_sum (IsSumIf there) bytes
    none_of bytes none None behind lacks e = false≢true (sym lacks ∙ is)
    none_of bytes none (Some sum) behind has e = none sum behind has.1 e
no_sum there old Memory is reads = tt

-- no such parts, no such statistics
no_stats : (s : Bool) (t : DataType) (bytes : List ℕ) → BeginsWithNone (pair_field times (pair_field ends numbers)) (IsPair AreTimes (IsPair (AreEnds t) (AreNumbers s t))) bytes → BeginsWithNone stats_field (IsStatsOf s t) bytes
no_stats s t bytes none = λ stats behind is e.
    none ((stats.count, (stats.start, stats.end)), ((stats.first, stats.last), ((stats.least, stats.greatest), stats.sum))) behind
    ((is.count, (is.start, is.end)), ((is.first, is.last), ((is.least, is.greatest), is.sum))) e

pub no_times : (s : Bool) (t : DataType) (bytes : List ℕ) → BeginsWithNone times AreTimes bytes → BeginsWithNone stats_field (IsStatsOf s t) bytes
no_times s t bytes none = no_stats s t bytes (no_first times (pair_field ends numbers) AreTimes (IsPair (AreEnds t) (AreNumbers s t)) bytes none)

pub no_ends : (s : Bool) (t : DataType) (a : ℕ × (ℤ × ℤ)) (bytes middle : List ℕ) → AreTimes a → bytes ≡ times a ++ middle → BeginsWithNone ends (AreEnds t) middle → BeginsWithNone stats_field (IsStatsOf s t) bytes
no_ends s t a bytes middle is found none = no_stats s t bytes
    (no_second times (pair_field ends numbers) AreTimes (IsPair (AreEnds t) (AreNumbers s t)) times-prefix_free a bytes middle is found
    (no_first ends numbers (AreEnds t) (AreNumbers s t) middle none))

pub no_numbers : (s : Bool) (t : DataType) (a : ℕ × (ℤ × ℤ)) (b : Value × Value) (bytes middle behind : List ℕ) → AreTimes a → bytes ≡ times a ++ middle → AreEnds t b → middle ≡ ends b ++ behind
    → BeginsWithNone numbers (AreNumbers s t) behind → BeginsWithNone stats_field (IsStatsOf s t) bytes
no_numbers s t a b bytes middle behind is found is_ends found_ends none = no_stats s t bytes
    (no_second times (pair_field ends numbers) AreTimes (IsPair (AreEnds t) (AreNumbers s t)) times-prefix_free a bytes middle is found
    (no_second ends numbers (AreEnds t) (AreNumbers s t) (ends-prefix_free t) b middle behind is_ends found_ends none))
