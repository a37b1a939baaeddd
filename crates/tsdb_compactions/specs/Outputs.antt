-- The output of a job: at each place the value of the last input with a point that survives the marks at its beginning.
use Rattle.std.specs.Prelude.{◌≡◌, ◌≢◌, ◌⊎◌, ◌↔◌, ℕ, IsSome, List, Option, None, Some}
use Rattle.std.specs.FinMap.{get}
use Rattle.std.specs.List.{AllByRecursion as Each}
use Rattle.tsdb_base.specs.Values.{type_of}
use Rattle.tsdb_base.specs.declared.value.Value.{Value}
use Rattle.tsdb_flush.specs.BuiltParts.{HasPartPoint, IsPart, entry_of}
use Rattle.tsdb_compactions.specs.Jobs.{input_file, input_files}
use Rattle.tsdb_compactions.specs.declared.job.Input.{Input}
use Rattle.tsdb_compactions.specs.declared.job.Job.{Job}
use Rattle.tsdb_flush.specs.BuiltFile.{IsBuiltOf}
use Rattle.tsdb_flush.specs.Parts.{Filled}
use Rattle.tsdb_flush.specs.declared.job.Built.{Built}
use Rattle.tsdb_state.specs.Layers.{value_in}
use Rattle.tsdb_base.specs.Lists.{Among, EachPair}
use Rattle.tsdb_state.specs.Places.{Content, PointPlace}
use Rattle.tsdb_model.specs.declared.command.Schema.{Schema}
use Rattle.tsdb_outside.specs.Files.{NamedFile, Store}
use Rattle.tsdb_state.specs.File.{IsFile}
use Rattle.tsdb_state.specs.Trees.{IsMade, IsTree}
use Rattle.tsdb_state.specs.Tree.{Tree}
use Rattle.tsdb_state.specs.Stores.{IsTreeContent, IsWhole}
use Rattle.tsdb_state.specs.Jobs.{Describes}
use Rattle.tsdb_state.specs.State.{ToldContents}
use Rattle.tsdb_state.specs.Views.{file_layers}

-- the value at the place of the last input with a point there that survives the marks of the job
abbrev pub winner : {F S R P : Type 0} → ToldContents → Job F S R P → PointPlace → Option Value
winner told job place = value_in job.marks.marks place (file_layers told (input_files job))

-- later the input is told as it was
abbrev pub IsToldAs : {F S R P : Type 0} → ToldContents → ToldContents → Input F S R P → Type 0
IsToldAs told later input = later input.number.0 ≡ told input.number.0

-- the series at the place has a schema, and the value is of its type
pub record HasSchema (schemas : List Schema) (place : PointPlace) (value : Value) : Type 0 where
  pub schema : Schema
  pub among : Among schema schemas
  pub path : schema.path ≡ place.path
  pub typed : type_of value ≡ schema.data_type

-- rights name files by `name`, and tokens by `file`, with so many rights out
module _ {F S R P : Type 0} (name : R → NamedFile) where
  -- the right to read the input tells bytes, which are those of a tree with the points that are told
  abbrev pub IsInputRead : ToldContents → Input F S R P → Type 0
  IsInputRead told input = IsWhole (λ number. (name input.right).bytes) told (input_file input)

  -- one of two inputs tells its bytes
  abbrev pub IsOneTold : Input F S R P → Input F S R P → Type 0
  IsOneTold a b = IsSome (name a.right).bytes ⊎ IsSome (name b.right).bytes

  -- What is told is what those inputs have that tell their bytes: no other right is to their file, and each winner is of
  -- a series that has its schema.
  pub record TellsTruth (told : ToldContents) (job : Job F S R P) : Type 0 where
    pub read : Each (λ input. IsSome (name input.right).bytes → IsInputRead told input) job.inputs
    pub apart : EachPair (λ a b. IsOneTold a b → (name a.right).number ≢ (name b.right).number) job.inputs
    pub schemas : (place : PointPlace) (value : Value) → winner told job place ≡ Some value
        → HasSchema job.schemas place value

  -- and each input tells its bytes
  pub record TellsInputs (told : ToldContents) (job : Job F S R P) : Type 0 where
    pub truth : TellsTruth told job
    pub all : Each (λ input. IsSome (name input.right).bytes) job.inputs

  -- no place has a winner
  abbrev pub HasNoWinner : Job F S R P → Type 0
  HasNoWinner job = (told : ToldContents) → TellsInputs told job → (place : PointPlace) → winner told job place ≡ None

  -- the part has the winner of each place, and no other point
  abbrev pub HasWinners : Job F S R P → List Filled → Type 0
  HasWinners job part = (told : ToldContents) → TellsInputs told job → (place : PointPlace) (value : Value)
      → (winner told job place ≡ Some value) ↔ HasPartPoint part place value

  module _ (file : S → NamedFile) (rights : S → ℕ) where
    -- the file has the number and the born of the job, and the winners of its inputs
    pub record IsBuiltFor (job : Job F S R P) (built : Built F S R P) : Type 0 where
      pub store : Store
      pub part : List Filled
      pub file_is : IsBuiltOf store job.output.0 job.born.0 part (file built.sealed) (rights built.sealed) built.entry
          built.series
      pub is_part : IsPart part
      pub winners : HasWinners job part

    -- an output of a job: its file, or none where no place has a winner
    abbrev pub IsOutputOf : Job F S R P → Option (Built F S R P) → Type 0
    IsOutputOf job None = HasNoWinner job
    IsOutputOf job (Some built) = IsBuiltFor job built

-- A file has the winners of the job as its content; its token tells bytes, which are those of a tree with these points,
-- and what is kept of it says so.
pub record HasOutput {F S R P : Type 0} (told : ToldContents) (job : Job F S R P) (name : NamedFile)
    (built : Built F S R P)
    : Type 0 where
  pub content : Content
  pub winners : (place : PointPlace) → get content place ≡ winner told job place
  pub bytes : List ℕ
  pub tells : name.bytes ≡ Some bytes
  pub tree : Tree
  pub is_tree : IsTree tree
  pub is_made : IsMade tree
  pub is_file : IsFile tree bytes
  pub content_is : IsTreeContent tree content
  pub describes : Describes (entry_of built.entry built.series) content
