-- What the reader of the words keeps between two parts. No public clause cites this.
use Rattle.std.specs.Prelude.{◌≡◌, ℕ, Bool, true, false, IsTrue, List, [], ◌∷◌, ◌++◌, filter, Option, None, Some}
use Rattle.std.specs.Borrow.{Bor}
use Rattle.std.specs.List.{AllByRecursion}
use Rattle.tsdb_run.specs.declared.part.WordPart.TheVariants as declared
use Rattle.tsdb_run.specs.declared.part.WordPart.{WordPart as DeclaredPart}
use Rattle.tsdb_run.specs.declared.seen.Seen.{Seen}
use Rattle.tsdb_base.specs.Limits.{default_pair_points}
use Rattle.tsdb_run.specs.Limits.{default_workers}
use Rattle.tsdb_run.specs.Words.{Asked, Argument, Directory, Pair, Workers, End, AreArguments, HasNoOptionBehindEnd}
use Rattle.tsdb_run.specs.Words.{IsOptionGiven, is_directory, is_pair, is_workers}

-- a part, with a directory as its bytes
abbrev pub argument_of : DeclaredPart → Argument
argument_of (declared.Directory word) = Directory word.now
argument_of (declared.Pair number) = Pair number
argument_of (declared.Workers number) = Workers number
argument_of declared.End = End

-- nothing was read
abbrev pub nothing : Seen
nothing = record { directory = None; pair_points = None; workers = None; ended = false }

-- the option with the number that was read, if there was one
abbrev pub option_in : (ℕ → Argument) → Option ℕ → List Argument
option_in option None = []
option_in option (Some number) = option number ∷ []

-- the directory that was read, if there was one
abbrev pub directory_in : Option (Bor (List ℕ)) → List Argument
directory_in None = []
directory_in (Some word) = Directory word.now ∷ []

-- a value is kept if none was kept before
abbrev pub KeepsFirst : {A : Type 0} → Option A → Option A → A → Bool → Type 0
KeepsFirst None kept value is_first = (kept ≡ Some value) × (is_first ≡ true)
KeepsFirst (Some first) kept value is_first = is_first ≡ false

-- the parts may follow, where a lone `--` stands before them or not
abbrev pub MayFollowArguments : Bool → List Argument → Type 0
MayFollowArguments true parts = AllByRecursion (λ part. IsTrue (is_directory part)) parts
MayFollowArguments false parts = HasNoOptionBehindEnd parts

-- what was read and these parts ask for this
pub record Completes (seen : Seen) (parts : List Argument) (asked : Asked) : Type 0 where
  pub end : MayFollowArguments seen.ended parts
  pub directory : directory_in seen.directory ++ filter is_directory parts ≡ Directory asked.directory ∷ []
  pub pair_points : IsOptionGiven Pair (option_in Pair seen.pair_points ++ filter is_pair parts) default_pair_points
      asked.pair_points
  pub workers : IsOptionGiven Workers (option_in Workers seen.workers
      ++ filter is_workers parts) default_workers asked.workers

-- what was read and these words ask for this
abbrev pub FollowsSeen : Seen → List (List ℕ) → Asked → Type 0
FollowsSeen seen words asked = (parts : List Argument) × AreArguments parts words × Completes seen parts asked
