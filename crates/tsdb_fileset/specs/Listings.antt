-- What a listing says of a store.
use Rattle.std.specs.Prelude.{◌≡◌, ℤ, ◌≤ℤ◌, List, ◌++◌, Some}
use Rattle.std.specs.FinMap.{get, len}
use Rattle.std.specs.List.{AllZip}
use Rattle.tsdb_base.specs.declared.ids.Space.{Space}
use Rattle.tsdb_base.specs.declared.ids.Space.TheVariants.{Sequence, Unsequence}
use Rattle.tsdb_base.specs.declared.value.Value.{Value}
use Rattle.tsdb_flush.specs.Places.{Content, PointPlace}
use Rattle.tsdb_model.specs.declared.reply.FileLine.{FileLine}
use Rattle.tsdb_flush.specs.State.{File, StoreState, ToldContents}

-- the content has a point at the time
pub record HasPointAt (content : Content) (time : ℤ) : Type 0 where
  pub place : PointPlace
  pub value : Value
  pub has : get content place ≡ Some value
  pub at : place.time ≡ time

-- The line has the space, the number and the born of the file, how many points it has, and their least and greatest time.
pub record TellsFile (told : ToldContents) (space : Space) (file : File) (line : FileLine) : Type 0 where
  pub space_is : line.space ≡ space
  pub number_is : line.number.0 ≡ file.number
  pub born_is : line.born.0 ≡ file.born
  pub points : line.points ≡ len (told file.number)
  pub between : (place : PointPlace) (value : Value) → get (told file.number) place ≡ Some value
      → (line.from ≤ℤ place.time) × (place.time ≤ℤ line.to)
  pub from : HasPointAt (told file.number) line.from
  pub to : HasPointAt (told file.number) line.to

-- The lines tell the sequence files and then the unsequence files of the store, each list in its order.
pub record TellFiles (told : ToldContents) (store : StoreState) (lines : List FileLine) : Type 0 where
  pub sequence : List FileLine
  pub unsequence : List FileLine
  pub are : lines ≡ sequence ++ unsequence
  pub tell_sequence : AllZip (TellsFile told Sequence) store.sequence sequence
  pub tell_unsequence : AllZip (TellsFile told Unsequence) store.unsequence unsequence
