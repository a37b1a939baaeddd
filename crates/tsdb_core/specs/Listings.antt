-- The listing of a core.
use Rattle.std.specs.Prelude.{◌≡◌, ◌++◌, [], ◌∷◌, length}
use Rattle.std.specs.FinMap.{len}
use Rattle.tsdb_base.specs.declared.ids.Space.TheVariants.{Sequence, Unsequence}
use Rattle.tsdb_core.specs.Core.{IsSeen, files_of, logged_of}
use Rattle.tsdb_core.specs.declared.engine.Core.{Core}
use Rattle.tsdb_fileset.specs.Lines.{file_lines_of}
use Rattle.tsdb_fileset.specs.Listings.{TellFiles}
use Rattle.tsdb_memory.specs.LogState.{Outside, memory_of}
use Rattle.tsdb_model.specs.declared.reply.Listing.{Listing}
use Rattle.tsdb_outside.specs.declared.disk.Disk as disk
use Rattle.tsdb_outside.specs.declared.faults.Counted as counted
use Rattle.tsdb_state.specs.State.{EngineState, StoreState, ToldContents}

-- The listing says of a store its files with their points, how many pairs are frozen, how many points the working pair has
-- in each space, and how many marks there are.
pub record ListsStore (told : ToldContents) (store : StoreState) (listing : Listing) : Type 0 where
  pub files : TellFiles told store listing.files
  pub frozen : listing.frozen ≡ length store.frozen
  pub working : listing.working ≡ len store.working.sequence ∷ len store.working.unsequence ∷ []
  pub marks : listing.marks ≡ length store.marks

module _ {J F S R P : Type 0} {means : disk.Ghosts J} {counts : counted.Ghosts J} where
  -- what the listing says of what the core keeps, whatever is told
  pub record IsListing (core : Core J F S R P means counts) (listing : Listing) : Type 0 where
    pub files : listing.files
        ≡ file_lines_of Sequence (files_of core).sequence ++ file_lines_of Unsequence (files_of core).unsequence
    pub frozen : listing.frozen ≡ length (memory_of (logged_of core)).frozen
    pub marks : listing.marks ≡ length (memory_of (logged_of core)).marks.marks

  -- it is the listing of each state that the core shows
  abbrev pub TellsStore : Core J F S R P means counts → Listing → Type 0
  TellsStore core listing = (outside : Outside) (state : EngineState) → IsSeen core outside state
      → ListsStore outside.told state.store listing
