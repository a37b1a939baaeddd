-- What an insert and a select say, where all their words are good.
use Rattle.std.proofs.Common.{◌≡◌, ℕ, ℤ, List, [], ◌∷◌, map, inr, refl}
use Rattle.std.specs.List.{AllByRecursion, AllZip, flat_map}
use Rattle.tsdb_script.specs.Types.{Cell, SyntaxColumn, Condition, Literal, Operand}
use Rattle.tsdb_model.specs.declared.command.Command.TheVariants as command
use Rattle.tsdb_script.specs.declared.syntax.Syntax.TheVariants.{Insert, Select}
use Rattle.tsdb_script.specs.Meaning.{ArePaired, HasBadWord, IsGood, IsInteger, IsLiteral, Means, Objects, column_role, condition_roles, roles}
use Rattle.tsdb_script.specs.Meaning.{DevicePath, Measurement, DeviceOf, Number, Scalar}
use Rattle.tsdb_script.proofs.WordLists.{AllByRecursion-append, bad_later}

-- each operand that says a literal is good
good_values : (values : List Operand) (literals : List Literal) → AllZip IsLiteral values literals → AllByRecursion IsGood (map Scalar values)
good_values [] [] each = tt
good_values (v ∷ values) (l ∷ literals) each = ((l, each.0), good_values values literals each.1)
good_values values literals each = absurd each

module _ (device : List ℕ) (names : List (List ℕ)) (time : List ℕ) (values : List Operand) where
  -- all words are good
  pub insert_words : IsGood (DevicePath device) → AllByRecursion IsGood (map (Measurement device) names) → IsGood (Number time)
      → AllByRecursion IsGood (map Scalar values) → AllByRecursion IsGood (roles (Insert device names time values))
  insert_words good named number said =
      (good, AllByRecursion-append IsGood (map (Measurement device) names) (Number time ∷ map Scalar values) named (number, said))

  -- a bad value behind good words
  pub bad_value : (kind : ℕ) → IsGood (DevicePath device) → AllByRecursion IsGood (map (Measurement device) names) → IsGood (Number time)
      → HasBadWord (map Scalar values) kind → HasBadWord (roles (Insert device names time values)) kind
  bad_value kind good named number bad =
      bad_later (DevicePath device ∷ []) _ kind (good, tt)
      (bad_later (map (Measurement device) names) _ kind named (bad_later (Number time ∷ []) _ kind (number, tt) bad))

  pub insert_whole : IsGood (DevicePath device) → AllByRecursion IsGood (map (Measurement device) names) → IsGood (Number time)
      → AllByRecursion IsGood (map Scalar values) → ¬ ArePaired names values → Objects (Insert device names time values) 7
  insert_whole good named number said unpaired = inr (insert_words good named number said, unpaired, refl)

  pub insert_means : (its_device : List ℕ) (number : ℤ) (cells : List Cell) → its_device ≡ device → IsGood (DevicePath device)
      → AllByRecursion IsGood (map (Measurement device) names) → IsInteger time number → ArePaired names values
      → map (λ cell. cell.measurement) cells ≡ names → AllZip IsLiteral values (map (λ cell. cell.value) cells)
      → Means (Insert device names time values) (command.Insert its_device (record { time = number; cells = cells }))
  insert_means its_device number cells same good named integer paired measured said = record {
    words = insert_words good named (number, integer) (good_values values (map (λ cell. cell.value) cells) said);
    balanced = paired;
    says = (same, integer, measured, said);
  }

module _ (columns : List SyntaxColumn) (device : List ℕ) (conditions : List Condition) where
  -- all words are good
  pub select_words : AllByRecursion IsGood (flat_map column_role columns) → IsGood (DeviceOf (map (λ column. column.measurement) columns) device) → AllByRecursion IsGood (condition_roles conditions)
      → AllByRecursion IsGood (roles (Select columns device conditions))
  select_words good path ranged =
      AllByRecursion-append IsGood (flat_map column_role columns) (DeviceOf (map (λ column. column.measurement) columns) device ∷ condition_roles conditions) good (path, ranged)
