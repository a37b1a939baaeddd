-- What a builder is given, and the tree of it whose pages are filled in turn.
use Rattle.std.specs.Prelude.{◌≡◌, ℕ, ◌<◌, ◌≤◌, ◌<ℤ◌, List, [], ◌∷◌, ◌++◌, length, map, All}
use Rattle.std.specs.List.{flat_map}
use Rattle.tsdb_base.specs.declared.point.Point.{Point}
use Rattle.tsdb_base.specs.declared.value.DataType.{DataType}
use Rattle.tsdb_base.specs.declared.value.Encoding.{Encoding}
use Rattle.tsdb_base.specs.Limits.{max_values}
use Rattle.tsdb_base.specs.Values.{type_of}
use Rattle.tsdb_path.specs.Nodes.{IsName, IsPath, device_of, measurement_of}
use Rattle.tsdb_path.specs.Order.{AreNamesBefore}
use Rattle.tsdb_pages.specs.declared.tree.Page.{Page}
use Rattle.tsdb_pages.specs.declared.tree.Chunk.{Chunk}
use Rattle.tsdb_pages.specs.declared.tree.Group.{Group}
use Rattle.tsdb_pages.specs.declared.tree.Tree.{Tree}
use Rattle.tsdb_pages.specs.Pages.{IsInRange}
use Rattle.tsdb_pages.specs.Trees.{IsTree, page_points}

-- a series as it is given: its names, type and encoding, and its points in their order
pub record GivenSeries : Type 0 where
  pub device : List ℕ
  pub measurement : List ℕ
  pub data_type : DataType
  pub encoding : Encoding
  pub points : List Point

-- what the types of a series' parts say: a device that is a path, a name, and points in the ranges of their types
pub record IsMadeSeries (series : GivenSeries) : Type 0 where
  pub device : IsPath series.device
  pub measurement : IsName series.measurement
  pub points : All IsInRange series.points

-- the series at this path, without points
abbrev pub given_series : List ℕ → DataType → Encoding → GivenSeries
given_series path data_type encoding = record {
  device = device_of path;
  measurement = measurement_of path;
  data_type = data_type;
  encoding = encoding;
  points = [];
}

-- a series with one point more
abbrev pub with_last_point : Point → GivenSeries → GivenSeries
with_last_point point series = record {
  device = series.device;
  measurement = series.measurement;
  data_type = series.data_type;
  encoding = series.encoding;
  points = series.points ++ point ∷ [];
}

-- the series has a point, and its device comes before this one, or is this one and its measurement comes before
pub record MayBeFollowedBy (device measurement : List ℕ) (series : GivenSeries) : Type 0 where
  pub some : 0 < length series.points
  pub before : AreNamesBefore (series.device, series.measurement) (device, measurement)

-- the point is of the series' type and later than its points
pub record MayTake (point : Point) (series : GivenSeries) : Type 0 where
  pub typed : type_of point.value ≡ series.data_type
  pub later : All (λ before. before.time <ℤ point.time) series.points

-- pages that are filled in turn: each has 1,000 points, and the last 1 to 1,000
abbrev pub AreFilled : List Page → Type 0
AreFilled [] = ⊥
AreFilled (last ∷ []) = (0 < length last.points) × (length last.points ≤ max_values)
AreFilled (page ∷ next ∷ pages) = (length page.points ≡ max_values) × AreFilled (next ∷ pages)

-- the chunk of a series: its points in pages that are filled in turn
pub record IsChunkOf (series : GivenSeries) (chunk : Chunk) : Type 0 where
  pub measurement_is : chunk.measurement ≡ series.measurement
  pub type_is : chunk.data_type ≡ series.data_type
  pub encoding_is : chunk.encoding ≡ series.encoding
  pub filled : AreFilled chunk.pages
  pub points_are : page_points chunk.pages ≡ series.points

-- each chunk of the groups beside its device
abbrev pub placed : List Group → List (List ℕ × Chunk)
placed groups = flat_map (λ group. map (λ chunk. (group.device, chunk)) group.chunks) groups

-- these are the chunks of these series, each at its device
abbrev pub AreChunksOf : List GivenSeries → List (List ℕ × Chunk) → Type 0
AreChunksOf [] [] = Unit {0}
AreChunksOf [] (chunk ∷ chunks) = ⊥
AreChunksOf (series ∷ others) [] = ⊥
AreChunksOf (series ∷ others) (chunk ∷ chunks) =
    (chunk.0 ≡ series.device) × IsChunkOf series chunk.1 × AreChunksOf others chunks

-- the tree of these series, with pages that are filled in turn
pub record IsTreeOf (given : List GivenSeries) (tree : Tree) : Type 0 where
  pub is_tree : IsTree tree
  pub chunks : AreChunksOf given (placed tree.groups)
