-- The inputs of a job as the sources of a stream.
use Rattle.std.specs.Prelude.{◌≡◌, IsSome}
use Rattle.tsdb_streams.specs.IndexedFiles.{IsIndexed, IsWholeFile, source_of}
use Rattle.tsdb_streams.specs.declared.source.IndexedFile.{IndexedFile}
use Rattle.tsdb_streams.specs.declared.source.StreamSource.{StreamSource}
use Rattle.tsdb_streams.specs.declared.source.StreamSource.TheVariants.{File, Part}
use Rattle.tsdb_compactions.specs.declared.job.Input.{Input}
use Rattle.tsdb_outside.specs.Files.{NamedFile, Store}

-- the input, lent
abbrev pub IsInputLent : {F S R P : Type 0} → Input F S R P → StreamSource R → Type 0
IsInputLent input (File right born) = (right.now ≡ input.right) × (born ≡ input.born)
IsInputLent input (Part points born) = ⊥

module _ {F S R P : Type 0} (file : R → NamedFile) where
  -- the input is a file of the store
  abbrev pub IsInputOf : Store → Input F S R P → Type 0
  IsInputOf store input = (file input.right).store ≡ store

  -- the right to read the input tells bytes
  abbrev pub TellsBytes : Input F S R P → Type 0
  TellsBytes input = IsSome (file input.right).bytes

  -- where the right to read the input tells bytes, they are those of a tree
  abbrev pub IsWholeInput : Input F S R P → Type 0
  IsWholeInput input = IsWholeFile (file input.right)

  -- the input, lent with the index that was read of it
  abbrev pub IsOpenedAs : Input F S R P → IndexedFile R → Type 0
  IsOpenedAs input indexed = IsInputLent input (source_of indexed) × IsIndexed file indexed
