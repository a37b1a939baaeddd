-- The store that a listing lists, one whose files are all listed, and one whose points are all in files.
use Rattle.std.specs.Prelude.{◌≡◌, ℕ, List, [], ◌++◌}
use Rattle.std.specs.List.{AllByRecursion as Each}
use Rattle.tsdb_querying.specs.Listings.{ListsStore}
use Rattle.tsdb_model.specs.declared.reply.Listing.{Listing}
use Rattle.tsdb_base.specs.Lists.{Among}
use Rattle.tsdb_outside.specs.Files.{StoredFile}
use Rattle.tsdb_state.specs.Limit.{IsEmptyPair}
use Rattle.tsdb_state.specs.Records.{numbers_of}
use Rattle.tsdb_state.specs.Replays.{IsReplayOf}
use Rattle.tsdb_state.specs.Stores.{BytesByNumber, IsWhole, Recorded, store_steps}
use Rattle.tsdb_state.specs.State.{ToldContents}

-- The log in these bytes of a slot has a replay, and with the points that these files have the listing is that of its
-- store.
pub record IsListingOf (files : BytesByNumber) (bytes : List ℕ) (listing : Listing) : Type 0 where
  pub recorded : Recorded
  pub replayed : IsReplayOf store_steps bytes recorded
  pub told : ToldContents
  pub whole : Each (IsWhole files told) (recorded.store.sequence ++ recorded.store.unsequence)
  pub lists : ListsStore told recorded.store listing

-- The log in these bytes of a slot has a replay, which lists each of these files.
pub record AreAllListed (bytes : List ℕ) (stored : List StoredFile) : Type 0 where
  pub recorded : Recorded
  pub replayed : IsReplayOf store_steps bytes recorded
  pub listed : Each (λ (file : StoredFile). Among file.number
      (numbers_of (recorded.store.sequence ++ recorded.store.unsequence))) stored

-- The log in these bytes of a slot has a replay, and all points of its store are in files: no pair is frozen, and the
-- working pair is empty.
pub record IsAllInFiles (bytes : List ℕ) : Type 0 where
  pub recorded : Recorded
  pub replayed : IsReplayOf store_steps bytes recorded
  pub frozen : recorded.store.frozen ≡ []
  pub working : IsEmptyPair recorded.store.working
