-- What holds of the files as they are kept.
use Rattle.tsdb_fileset.specs.declared.files.KeptFiles.TheInside.{Inside}
use Rattle.tsdb_fileset.specs.Files.{AreKept, KeptFiles, listed_borns}
use Rattle.tsdb_fileset.specs.Growth.{HasRoomLeft}
use Rattle.tsdb_fileset.specs.Places.{AreOfStore}
use Rattle.tsdb_flush.specs.Least.{IsLeastOf}
use Rattle.tsdb_outside.specs.Files.{Store}

module _ {F S R P : Type 0} (store_of : F → Store) where
  abbrev pub view_of : Inside F S R P → KeptFiles
  view_of inside = record {
    store = store_of inside.store.value;
    places = inside.tokens.entries;
    sequence = inside.sequence.items;
    unsequence = inside.unsequence.items;
    outgoing = inside.outgoing.items;
    spare = inside.spare;
  }

  -- the files are kept and of the store, the places that were promised are there, and the least of the listed borns is
  -- known
  pub record AreSound (inside : Inside F S R P) : Type 0 where
    pub kept : AreKept (view_of inside)
    pub of_store : AreOfStore (view_of inside).store (view_of inside).places
    pub room : HasRoomLeft inside.spare inside.sequence inside.unsequence inside.outgoing
    pub least : IsLeastOf inside.least (listed_borns (view_of inside))
