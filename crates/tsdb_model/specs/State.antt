-- A state of the plain model: a world, and how many commands have changed it. And the listings that it may have.
use Rattle.std.specs.Prelude.{◌≡◌, ℕ, ◌≤◌, ◌≤ℤ◌, [], All, map}
use Rattle.tsdb_model.specs.Commands.{AreDifferent}
use Rattle.tsdb_model.specs.declared.reply.FileLine.{FileLine}
use Rattle.tsdb_model.specs.declared.reply.Listing.{Listing}
use Rattle.tsdb_model.specs.World.{World, HasNoPoint}

-- a world, and the number of creates, inserts and deletes that were accepted since the store began
pub record State : Type 0 where
  pub world : World
  pub stamp : ℕ

-- a file of a listing has a point, and was frozen at a stamp that the state has reached
pub record IsFileLine (stamp : ℕ) (file : FileLine) : Type 0 where
  pub born : file.born.0 ≤ stamp
  pub some : 1 ≤ file.points
  pub times : file.from ≤ℤ file.to

-- no file, no frozen pair and no point of the working pair is listed
pub record ListsNothing (listing : Listing) : Type 0 where
  pub files : listing.files ≡ []
  pub frozen : listing.frozen ≡ 0
  pub working : All (λ points. points ≡ 0) listing.working

-- a listing that a store with this world and this stamp may have
pub record IsPossible (state : State) (listing : Listing) : Type 0 where
  pub numbers : AreDifferent (map (λ file. file.number.0) listing.files)
  pub files : All (IsFileLine state.stamp) listing.files
  pub frozen : listing.frozen ≤ 2
  pub nothing : ListsNothing listing → HasNoPoint state.world
