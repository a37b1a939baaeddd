-- The series of a tree, as a flush has those of a part.
use Rattle.std.specs.Prelude.{ℕ, List, map}
use Rattle.std.specs.List.{AllByRecursion as Each, flat_map}
use Rattle.tsdb_flush.specs.Parts.{Filled}
use Rattle.tsdb_pages.specs.Trees.{page_points}
use Rattle.tsdb_pages.specs.declared.tree.Chunk.{Chunk}
use Rattle.tsdb_pages.specs.declared.tree.Group.{Group}
use Rattle.tsdb_pages.specs.declared.tree.Tree.{Tree}
use Rattle.tsdb_path.specs.Nodes.{IsPath, child_of}

-- the series of a chunk of the device, with its points
abbrev pub filled_of : List ℕ → Chunk → Filled
filled_of device chunk = record {
  schema = record {
    path = child_of device chunk.measurement;
    data_type = chunk.data_type;
    encoding = chunk.encoding;
  };
  points = page_points chunk.pages;
}

-- the series of a group
abbrev pub group_part : Group → List Filled
group_part group = map (filled_of group.device) group.chunks

-- the series of a tree, in its order
abbrev pub tree_part : Tree → List Filled
tree_part tree = flat_map group_part tree.groups

-- the bytes that name each series are a path: they are not too long
abbrev pub HaveShortPaths : Tree → Type 0
HaveShortPaths tree = Each (λ filled. IsPath filled.schema.path) (tree_part tree)
