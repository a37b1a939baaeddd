-- What a place has, and the words for its store: what it stands for, whether it is sound, where it is damaged, and what
-- is left of it. Replay, the state of the engine, and the bytes of logs and files stand behind these words alone;
-- docs/DEFINITIONS.md says why they need not be read.
use Rattle.std.specs.Prelude.{◌≡◌, ◌⊎◌, ℕ, List, Option, None, Some}
use Rattle.std.specs.FinMap.{empty}
use Rattle.std.specs.Option.{IsSomeAnd}
use Rattle.tsdb_history.specs.Listings.{AreAllListed, IsAllInFiles, IsListingOf}
use Rattle.tsdb_state.specs.StoredEngine.{kept_bytes}
use Rattle.tsdb_model.specs.State as plain
use Rattle.tsdb_model.specs.declared.reply.Listing.{Listing}
use Rattle.tsdb_outside.specs.Disk.{Image, Keeps, DiskState}
use Rattle.tsdb_outside.specs.Files.{StoredFile}
use Rattle.tsdb_outside.specs.declared.disk.Slot.TheVariants.{A}
use Rattle.tsdb_recover.specs.declared.fault.Part.{Part}
use Rattle.tsdb_recover.specs.Damage.{IsDamagedIn}
use Rattle.tsdb_recover.specs.Strays.{AreLeft, IsStray}
use Rattle.tsdb_recover.specs.OpenedStore as recovery
use Rattle.tsdb_recover.specs.StoredFiles.{AreStored}
use Rattle.tsdb_recover.specs.Taking.{HaveLengths}
use Rattle.tsdb_state.specs.Replays.{IsReplayOf}
use Rattle.tsdb_state.specs.Stores as store
use Rattle.tsdb_history.specs.Serving.{AreHeldWith}

-- What a place has: what its disk means, and the files of its store where it tells them.
pub record Contents : Type 1 where
  pub disk : DiskState
  pub stored : Option (List StoredFile)

abbrev pub contents : DiskState → Option (List StoredFile) → Contents
contents disk stored = record { disk = disk; stored = stored }

-- It tells what reads of its slots give, and these files, which are stored as files are.
pub record TellsPlace (place : Contents) (image : Image) (files : List StoredFile) : Type 0 where
  pub slots : place.disk.seen ≡ Some image
  pub told : place.stored ≡ Some files
  pub are_stored : AreStored files

-- the state of a new store: there is no series, and nothing was changed
abbrev pub new_state : plain.State
new_state = record { world = empty; stamp = 0 }

-- ---- what a store stands for

-- with whatever files hold these, the log in slot A of what a stop left stands for the state
abbrev pub SlotsStandFor : List StoredFile → Image → plain.State → Type 0
SlotsStandFor files image at =
    (kept : store.BytesByNumber) → store.HoldsKept files kept → store.StoreStandsFor kept image.a at

-- The log in slot A is sound, and stands with these files for the state.
abbrev pub IsSoundWith : List StoredFile → DiskState → plain.State → Type 0
IsSoundWith files disk at = store.IsSound A disk (kept_bytes files) at

-- The place has a sound store, which stands for the state.
pub record IsSoundPlace (place : Contents) (at : plain.State) : Type 0 where
  pub files : List StoredFile
  pub told : place.stored ≡ Some files
  pub are_stored : AreStored files
  pub sound : IsSoundWith files place.disk at

-- the place does not tell its files, or has a sound store
abbrev pub IsSoundOrSilent : Contents → Type 0
IsSoundOrSilent place = (place.stored ≡ None) ⊎ ((at : plain.State) × IsSoundPlace place at)

-- ---- damage

-- The place tells a store that is damaged in this part, at this place in it.
pub record HasDamage (place : Contents) (part : Part) (at : ℕ) : Type 0 where
  pub image : Image
  pub files : List StoredFile
  pub tells : TellsPlace place image files
  pub lengths : HaveLengths files
  pub damaged : IsDamagedIn (kept_bytes files) image.a part at

-- where the place tells its store, the store is damaged in this part, at this place in it
abbrev pub IsPlaceDamaged : Contents → Part → ℕ → Type 0
IsPlaceDamaged place part at = (image : Image) (files : List StoredFile) → TellsPlace place image files
    → IsDamagedIn (kept_bytes files) image.a part at

-- ---- what a run begins with, and what it leaves

-- The number of the next file of a place with these files: one more than the greatest that a record of its log has named
-- or that a file has.
pub record IsNextNumberOfPlace (place : Contents) (files : List StoredFile) (next : ℕ) : Type 0 where
  pub image : Image
  pub slots : place.disk.seen ≡ Some image
  pub recorded : store.Recorded
  pub replayed : IsReplayOf store.store_steps image.a recorded
  pub above : recovery.IsNextNumber next files recorded.named

-- The place stores these files, as files are stored, and none but those of a run: whoever holds the run's holds these.
pub record Stores (place : Contents) (stored run : List StoredFile) : Type 0 where
  pub told : place.stored ≡ Some stored
  pub are_stored : AreStored stored
  pub held : AreHeldWith stored run

-- the listing is that of the place's store, whatever a stop leaves of its slots
abbrev pub IsListed : Contents → Listing → Type 0
IsListed place listing = (stored : List StoredFile) (image : Image) → place.stored ≡ Some stored
    → place.disk.may_leave image → IsListingOf (kept_bytes stored) image.a listing

-- all points of the place's store are in files, whatever a stop leaves of its slots
abbrev pub HasAllInFiles : Contents → Type 0
HasAllInFiles place = (image : Image) → place.disk.may_leave image → IsAllInFiles image.a

-- the log lists each file that the place stores, whatever a stop leaves of its slots
abbrev pub HasNoStrays : Contents → Type 0
HasNoStrays place = (stored : List StoredFile) (image : Image) → place.stored ≡ Some stored
    → place.disk.may_leave image → AreAllListed image.a stored

-- each of these files is stored as it was, or it is gone, and the log in slot A does not list it
abbrev pub KeepsAllListed : Image → List StoredFile → Contents → Type 0
KeepsAllListed image files new = IsSomeAnd new.stored (AreLeft (IsStray image.a) files)

-- so is each file of the store
abbrev pub KeepsListed : Contents → Contents → Type 0
KeepsListed old new = (image : Image) (files : List StoredFile) → TellsPlace old image files
    → KeepsAllListed image files new

-- The store was left alone: its log means what it meant, and each file is as it was, but that some which the log does not
-- list may be gone.
pub record IsLeftAlone (old new : Contents) : Type 0 where
  pub log : Keeps old.disk new.disk
  pub files : KeepsListed old new
