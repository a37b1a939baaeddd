-- The conditions on a tree.
use Rattle.std.specs.Prelude.{◌≡◌, ℕ, ◌<◌, ◌≤◌, List, length, true, All, AllPairs}
use Rattle.std.specs.Cmp.Lexicographic.{slice_cmp}
use Rattle.std.specs.List.{flat_map}
use Rattle.std.specs.declared.cmp.Ordering.TheVariants.{Less}
use Rattle.std.specs.Ordering.{nat_cmp}
use Rattle.tsdb_base.specs.declared.point.Point.{Point}
use Rattle.tsdb_base.specs.Values.{is_suitable}
use Rattle.tsdb_stats.specs.Nodes.{IsName, IsPath}
use Rattle.tsdb_pages.specs.declared.tree.Page.{Page}
use Rattle.tsdb_pages.specs.declared.tree.Chunk.{Chunk}
use Rattle.tsdb_pages.specs.declared.tree.Group.{Group}
use Rattle.tsdb_pages.specs.declared.tree.Tree.{Tree}
use Rattle.tsdb_base.specs.Limits.{max_entries, max_pages}
use Rattle.tsdb_base.specs.Points.{IsRising}
use Rattle.tsdb_pages.specs.Pages.{ArePoints, IsInRange}

-- all points of the pages, in their order
abbrev pub page_points : List Page → List Point
page_points pages = flat_map (λ page. page.points) pages

-- all chunks of the groups, in their order
abbrev pub chunks_of : List Group → List Chunk
chunks_of groups = flat_map (λ group. group.chunks) groups

-- the bytes come first in the order of bytes
abbrev pub IsBefore : List ℕ → List ℕ → Type 0
IsBefore a b = slice_cmp nat_cmp a b ≡ Less

-- one page or more of the chunk's type, in an encoding that suits it; times rise through all pages
pub record IsChunk (chunk : Chunk) : Type 0 where
  pub suits : is_suitable chunk.data_type chunk.encoding ≡ true
  pub some : 0 < length chunk.pages
  pub few : length chunk.pages ≤ max_pages
  pub pages : All (λ page. ArePoints chunk.data_type page.points) chunk.pages
  pub rising : IsRising (page_points chunk.pages)

-- one chunk or more, in rising order of their measurements
pub record IsGroup (group : Group) : Type 0 where
  pub some : 0 < length group.chunks
  pub chunks : All IsChunk group.chunks
  pub rising : AllPairs (λ a b. IsBefore a.measurement b.measurement) group.chunks

-- one group or more, in rising order of their devices
pub record IsTree (tree : Tree) : Type 0 where
  pub some : 0 < length tree.groups
  pub few : length (chunks_of tree.groups) ≤ max_entries
  pub groups : All IsGroup tree.groups
  pub rising : AllPairs (λ a b. IsBefore a.device b.device) tree.groups

-- what the types of a chunk's parts say: a name, and points in the ranges of their types
pub record HasParts (chunk : Chunk) : Type 0 where
  pub measurement : IsName chunk.measurement
  pub points : All IsInRange (page_points chunk.pages)

-- what the types of a tree's parts say: devices that are paths, names, and points in the ranges of their types
pub record IsMade (tree : Tree) : Type 0 where
  pub devices : All (λ group. IsPath group.device) tree.groups
  pub chunks : All HasParts (chunks_of tree.groups)
