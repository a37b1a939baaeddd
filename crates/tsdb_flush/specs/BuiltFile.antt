-- The file of a part, and what is kept of it.
use Rattle.std.specs.Prelude.{◌≡◌, ℕ, ℤ, ◌≤ℤ◌, List, length, map, sum_by, false, Option, None, Some, ⊤}
use Rattle.std.specs.List.{AllByRecursion as Each}
use Rattle.tsdb_base.specs.declared.point.Point.{Point}
use Rattle.tsdb_base.specs.declared.ids.FileNumber.{FileNumber}
use Rattle.tsdb_flush.specs.Parts.{Filled, builder_series}
use Rattle.tsdb_flush.specs.declared.job.Built.{Built}
use Rattle.tsdb_base.specs.Lists.{Among}
use Rattle.tsdb_outside.specs.Files.{NamedFile, Names, Store}
use Rattle.tsfile_writer.specs.File.{IsFile}
use Rattle.tsfile_writer.specs.Trees.{IsMade}
use Rattle.tsfile_writer.specs.Tree.{Tree}
use Rattle.tsdb_path.specs.Nodes.{device_of}
use Rattle.tsdb_plan.specs.Files.{AreHullsRising}
use Rattle.tsdb_plan.specs.declared.entry.FileEntry.{FileEntry}
use Rattle.tsdb_plan.specs.declared.entry.Hull.{Hull}
use Rattle.tsfile_writer.specs.BuilderInput.{IsTreeOf}

-- the bytes are those of the tree of these series, with pages that are filled in turn
pub record IsFileOf (part : List Filled) (bytes : List ℕ) : Type 0 where
  pub tree : Tree
  pub of : IsTreeOf (map builder_series part) tree
  pub made : IsMade tree
  pub is : IsFile tree bytes

-- a hull is of the device, and over the time
pub record HasHullOver (hulls : List Hull) (device : List ℕ) (time : ℤ) : Type 0 where
  pub hull : Hull
  pub among : Among hull hulls
  pub of_device : hull.device ≡ device
  pub from : hull.from ≤ℤ time
  pub to : time ≤ℤ hull.to

-- a series of the device has a point at the time
pub record HasFilledTime (part : List Filled) (device : List ℕ) (time : ℤ) : Type 0 where
  pub filled : Filled
  pub among : Among filled part
  pub of_device : device_of filled.schema.path ≡ device
  pub point : Point
  pub in_series : Among point filled.points
  pub at : point.time ≡ time

-- one hull for each device of the part, in order of device bytes, from its least time to its greatest
pub record AreHullsOf (part : List Filled) (hulls : List Hull) : Type 0 where
  pub rising : AreHullsRising hulls
  pub over : Each (λ filled. Each (λ point. HasHullOver hulls (device_of filled.schema.path) point.time) filled.points)
      part
  pub tight : Each (λ hull. HasFilledTime part hull.device hull.from × HasFilledTime part hull.device hull.to) hulls

-- the entry of a file of the part, which no job has claimed
pub record IsFileEntryOf (number born : ℕ) (bytes : List ℕ) (part : List Filled) (entry : FileEntry) : Type 0 where
  pub number_is : entry.number.0 ≡ number
  pub born_is : entry.born.0 ≡ born
  pub bytes_are : entry.size ≡ length bytes
  pub points_are : entry.points ≡ sum_by (λ filled. length filled.points) part
  pub hulls_are : AreHullsOf part entry.hulls
  pub free : entry.claimed ≡ false

-- the paths of the series
abbrev pub paths_of : List Filled → List (List ℕ)
paths_of part = map (λ filled. filled.schema.path) part

-- the file of the part in the store under this number: its token, of which no right is out, its entry, and its series in
-- the order of a tree
pub record IsBuiltOf (store : Store) (number born : ℕ) (part : List Filled) (name : NamedFile) (rights : ℕ) (entry : FileEntry)
    (series : List (List ℕ))
    : Type 0 where
  pub bytes : List ℕ
  pub names : Names number bytes name
  pub in_store : name.store ≡ store
  pub unread : rights ≡ 0
  pub file : IsFileOf part bytes
  pub kept : IsFileEntryOf number born bytes part entry
  pub paths : series ≡ paths_of part

module _ {F S R P : Type 0} (file : S → NamedFile) (rights : S → ℕ) (store : Store) where
  -- the part has its file exactly where a number is drawn for it, in the store, where tokens name these files and count these rights
  abbrev pub IsPartDone : ℕ → List Filled → Option FileNumber → Option (Built F S R P) → Type 0
  IsPartDone born part None None = ⊤
  IsPartDone born part None (Some built) = ⊥
  IsPartDone born part (Some number) None = ⊥
  IsPartDone born part (Some number) (Some built) =
      IsBuiltOf store number.0 born part (file built.sealed) (rights built.sealed) built.entry built.series
