-- What the words of the command line ask for.
use Rattle.std.specs.Prelude.{◌≡◌, ◌≢◌, ◌⊎◌, ℕ, ◌<◌, ◌≤◌, Bool, true, false, IsTrue, List, [], ◌∷◌, ◌++◌, filter, length}
use Rattle.std.specs.Prelude.{slice_index, codes}
use Rattle.std.specs.List.{AllByRecursion}
use Rattle.std.specs.Str.Parse.{IsNumeral, digits_value}
use Rattle.tsdb_base.specs.Limits.{default_pair_points, max_pair_points, max_workers}
use Rattle.tsdb_run.specs.Limits.{default_workers, max_digits}

-- what a list of words asks for
pub record Asked : Type 0 where
  -- the directory of the store
  pub directory : List ℕ
  -- the most points of a pair
  pub pair_points : ℕ
  -- how many workers of each kind are started
  pub workers : ℕ

-- ---- parts of the command line

-- a word that can name a directory: it is not empty, and does not begin with `-` (45)
abbrev pub IsDirectory : List ℕ → Type 0
IsDirectory word = (0 < length word) × (slice_index word 0 ≢ 45)

-- a number: one to seven decimal digits, of which the first may be 0
pub record IsNumber (word : List ℕ) (number : ℕ) : Type 0 where
  pub digits : IsNumeral 10 word
  pub short : length word ≤ max_digits
  pub value : number ≡ digits_value 10 word

-- the words up to the rest are this name and these digits: two words, or one with `=` (61) between them
abbrev pub HasDigits : List ℕ → List ℕ → List (List ℕ) → List (List ℕ) → Type 0
HasDigits name digits words rest = (words ≡ name ∷ digits ∷ rest) ⊎ (words ≡ (name ++ 61 ∷ digits) ∷ rest)

-- the words up to the rest are the option of this name with its number
abbrev pub IsOption : List ℕ → ℕ → List (List ℕ) → List (List ℕ) → Type 0
IsOption name number words rest = (digits : List ℕ) × IsNumber digits number × HasDigits name digits words rest

pub data Argument : Type 0 where
  Directory : List ℕ → Argument
  Pair : ℕ → Argument
  Workers : ℕ → Argument
  -- a lone `--`
  End : Argument

-- the words up to the rest are this part
abbrev pub IsArgument : Argument → List (List ℕ) → List (List ℕ) → Type 0
IsArgument (Directory word) words rest = IsDirectory word × (words ≡ word ∷ rest)
IsArgument (Pair number) words rest =
    IsOption (codes "--pair") number words rest × (1 ≤ number) × (number ≤ max_pair_points)
IsArgument (Workers number) words rest = IsOption (codes "--workers") number words rest × (number ≤ max_workers)
IsArgument End words rest = words ≡ codes "--" ∷ rest

-- the words are these parts, one behind another
abbrev pub AreArguments : List Argument → List (List ℕ) → Type 0
AreArguments [] words = words ≡ []
AreArguments (part ∷ parts) words = (rest : List (List ℕ)) × IsArgument part words rest × AreArguments parts rest

-- ---- which parts may stand together

abbrev pub is_directory : Argument → Bool
is_directory (Directory word) = true
is_directory part = false

abbrev pub is_pair : Argument → Bool
is_pair (Pair number) = true
is_pair part = false

abbrev pub is_workers : Argument → Bool
is_workers (Workers number) = true
is_workers part = false

-- behind a lone `--` stand neither options nor a second one
abbrev pub HasNoOptionBehindEnd : List Argument → Type 0
HasNoOptionBehindEnd [] = Unit {0}
HasNoOptionBehindEnd (End ∷ parts) = AllByRecursion (λ part. IsTrue (is_directory part)) parts
HasNoOptionBehindEnd (part ∷ parts) = HasNoOptionBehindEnd parts

-- an option is given once, with this number, or not at all, and the number is the default
abbrev pub IsOptionGiven : (ℕ → Argument) → List Argument → ℕ → ℕ → Type 0
IsOptionGiven option given default number = (given ≡ option number ∷ []) ⊎ ((given ≡ []) × (number ≡ default))

-- the words ask for this: `run`, and behind it the parts in any order, with exactly one directory
pub record AreWords (words : List (List ℕ)) (asked : Asked) : Type 0 where
  pub parts : List Argument
  pub behind : List (List ℕ)
  pub run : words ≡ codes "run" ∷ behind
  pub are : AreArguments parts behind
  pub end : HasNoOptionBehindEnd parts
  pub directory : filter is_directory parts ≡ Directory asked.directory ∷ []
  pub pair_points : IsOptionGiven Pair (filter is_pair parts) default_pair_points asked.pair_points
  pub workers : IsOptionGiven Workers (filter is_workers parts) default_workers asked.workers

-- within the limits of the options
pub record AreOptionsWithinLimits (asked : Asked) : Type 0 where
  pub least : 1 ≤ asked.pair_points
  pub most : asked.pair_points ≤ max_pair_points
  pub workers : asked.workers ≤ max_workers
