-- What is in memory, as contracts see it.
use Rattle.std.specs.Prelude.{ℕ, List, [], ◌∷◌, ◌++◌}
use Rattle.tsdb_model.specs.declared.command.Schema.{Schema}
use Rattle.tsdb_marks.specs.Lists.{Marks}
use Rattle.tsdb_memtable.specs.Pairs.{Pair}
use Rattle.tsdb_memtable.specs.Watermarks.{Watermarks}

-- a pair, and the stamp at its freeze
pub record FrozenPair : Type 0 where
  pub born : ℕ
  pub pair : Pair

-- how many more series and frozen pairs have a place
pub record SparePlaces : Type 0 where
  pub series : ℕ
  pub frozen : ℕ

-- the series in the order of their numbers, the number of commands that were accepted, the watermarks, the marks, the
-- frozen pairs from the oldest on, the pair that rows are put into, and the places for more. Marks, watermarks and pairs
-- have their own room.
pub record MemoryState : Type 0 where
  pub series : List Schema
  pub stamp : ℕ
  pub watermarks : Watermarks
  pub marks : Marks
  pub frozen : List FrozenPair
  pub working : Pair
  pub places : SparePlaces

-- the frozen pairs after a freeze: the working pair stands behind the others, and its born is the stamp
abbrev pub frozen_with_working : MemoryState → List FrozenPair
frozen_with_working store = store.frozen ++ record { born = store.stamp; pair = store.working } ∷ []
