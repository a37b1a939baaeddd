-- What a core leaves that is closed.
use Rattle.std.specs.Prelude.{◌≡◌, ◌≢◌, ◌⊎◌, List, [], Option, None}
use Rattle.std.specs.List.{AllByRecursion as Each}
use Rattle.tsdb_querying.specs.Core.{files_of}
use Rattle.tsdb_querying.specs.Listings.{TellsStore}
use Rattle.tsdb_querying.specs.CoreType.{Core}
use Rattle.tsdb_history.specs.Listings.{AreAllListed, IsAllInFiles, IsListingOf}
use Rattle.tsdb_history.specs.Serves.{HasFlushed}
use Rattle.tsdb_state.specs.StoredEngine.{LeavesOneOf, kept_bytes}
use Rattle.tsdb_base.specs.Lists.{EachPair}
use Rattle.tsdb_model.specs.State as plain
use Rattle.tsdb_model.specs.declared.reply.Listing.{Listing}
use Rattle.tsdb_outside.specs.Disk.{Image, DiskState, in_slot}
use Rattle.tsdb_outside.specs.Files.{IsFileNumber, StoredFile}
use Rattle.tsdb_outside.specs.Moments.{LeavesOnly}
use Rattle.tsdb_outside.specs.declared.disk.Disk as disk
use Rattle.tsdb_outside.specs.declared.faults.Counted as counted
use Rattle.tsdb_state.specs.Stores.{IsSound}
use Rattle.tsdb_querying.specs.Serving.{AreHeldWith, disk_under, slot_under}

module _ {J F S R P : Type 0} {means : disk.Ghosts J} {counts : counted.Ghosts J} where
  -- A core was closed that is in the state; these files are stored then, of different numbers that files may have. `rose`
  -- says that the journal failed meanwhile.
  -- A stop at any moment left the state, or the one in doubt. What is left stands with the stored files for the state, or
  -- for the one in doubt. Unless the journal failed, and wherever nothing is in doubt, it is a sound store, a listing of
  -- the core is the store's, where all points of the core are in files so are those of the store, and where no file was on
  -- its way out each that is stored is listed.
  pub record IsCoreClosed (core : Core J F S R P means counts) (new : DiskState) (stored : List StoredFile)
      (rose : Type 0)
      (files : List StoredFile) (at : plain.State) (next : Option plain.State)
      : Type 0 where
    pub differ : EachPair (λ (a b : StoredFile). a.number ≢ b.number) stored
    pub numbers : Each (λ (file : StoredFile). IsFileNumber file.number) stored
    pub held : AreHeldWith stored files
    pub moments : LeavesOnly (disk_under core) new (LeavesOneOf files (slot_under core) at next)
    pub holds : (image : Image) → new.may_leave image → LeavesOneOf stored (slot_under core) at next image
    pub sound : (¬ rose) ⊎ (next ≡ None) → IsSound (slot_under core) new (kept_bytes stored) at
    pub listed : (¬ rose) ⊎ (next ≡ None) → (listing : Listing) → TellsStore core listing → (image : Image)
        → new.may_leave image → IsListingOf (kept_bytes stored) (in_slot (slot_under core) image) listing
    pub flushed : (¬ rose) ⊎ (next ≡ None) → HasFlushed core → (image : Image) → new.may_leave image
        → IsAllInFiles (in_slot (slot_under core) image)
    pub swept : (¬ rose) ⊎ (next ≡ None) → (files_of core).outgoing ≡ [] → (image : Image) → new.may_leave image
        → AreAllListed (in_slot (slot_under core) image) stored
