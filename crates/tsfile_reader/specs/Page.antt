-- One page of a file.
use Rattle.std.specs.Prelude.{◌≡◌, ◌≤ℤ◌, ℕ, List, ◌++◌, drop, slice_get, Some, true, All, Contains}
use Rattle.tsdb_base.specs.declared.point.Point.{Point}
use Rattle.tsdb_base.specs.declared.point.Stats.{Stats}
use Rattle.tsdb_base.specs.declared.value.DataType.{DataType}
use Rattle.tsdb_base.specs.declared.value.Encoding.{Encoding}
use Rattle.tsdb_base.specs.Values.{is_suitable}
use Rattle.tsdb_index.specs.declared.index.IndexEntry.{IndexEntry}
use Rattle.tsdb_index.specs.declared.index.PageEntry.{PageEntry}
use Rattle.tsdb_pages.specs.declared.tree.Chunk.{Chunk}
use Rattle.tsdb_pages.specs.declared.tree.Group.{Group}
use Rattle.tsdb_pages.specs.declared.tree.Page.{Page}
use Rattle.tsdb_pages.specs.declared.tree.Tree.{Tree}
use Rattle.tsdb_pages.specs.File.{AreEntriesIn, IsChunkEntry, page_bytes}
use Rattle.tsdb_pages.specs.Pages.{ArePoints, IsInRange}

-- points of a page of this type
abbrev pub AreGood : DataType → List Point → Type 0
AreGood data_type points = ArePoints data_type points × All IsInRange points

-- these bytes begin with a page of these points
pub record BeginsWithPage (data_type : DataType) (encoding : Encoding) (bytes : List ℕ)
    (points : List Point) : Type 0 where
  pub suits : is_suitable data_type encoding ≡ true
  pub good : AreGood data_type points
  pub behind : List ℕ
  pub split : bytes ≡ page_bytes encoding points ++ behind

-- each point lies between the first and the last time of the statistics
abbrev pub LieIn : Stats → List Point → Type 0
LieIn stats points = All (λ point. (stats.start ≤ℤ point.time) × (point.time ≤ℤ stats.end)) points

-- the page of which the entry says this stands at its place in the file, and has these points
pub record HasPage (bytes : List ℕ) (entry : IndexEntry) (page : PageEntry) (points : List Point) : Type 0 where
  pub stands : BeginsWithPage entry.data_type entry.encoding (drop page.place bytes) points
  pub within : LieIn page.stats points

-- at the place of which the entry says this stands no page of its type, its encoding and these times
abbrev pub HasNoPage : List ℕ → IndexEntry → PageEntry → Type 0
HasNoPage bytes entry page = (points : List Point) → HasPage bytes entry page points → ⊥

-- what the entry says of its page with this number
abbrev pub SaysOfPage : IndexEntry → ℕ → PageEntry → Type 0
SaysOfPage entry number page = slice_get entry.pages number ≡ Some page

-- the entry is one of the tree's index
pub record IsEntryOf (tree : Tree) (entry : IndexEntry) : Type 0 where
  pub entries : List IndexEntry
  pub say : AreEntriesIn tree entries
  pub there : Contains entries entry

-- these are the points of the page with this number in the tree's chunk of which the entry speaks
pub record ArePagePoints (tree : Tree) (entry : IndexEntry) (number : ℕ) (points : List Point) : Type 0 where
  pub group : Group
  pub chunk : Chunk
  pub in_tree : Contains tree.groups group
  pub in_group : Contains group.chunks chunk
  pub says : IsChunkEntry group.device entry.place chunk entry
  pub page : Page
  pub page_is : slice_get chunk.pages number ≡ Some page
  pub points_are : points ≡ page.points
