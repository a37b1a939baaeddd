-- The series of a tree are those of a part, with the same points.
use Rattle.std.proofs.Common.{◌≡◌, ◌≢◌, ℕ, ◌<◌, ◌≤◌, List, [], ◌∷◌, length, length-append, map, sym, subst, arith}
use Rattle.std.specs.List.{AllByRecursion as Each, flat_map}
use Rattle.std.proofs.lemmas.List.{length-map}
use Rattle.std.proofs.lemmas.List.Elements.{recursion_from_All}
use Rattle.tsdb_base.specs.declared.value.DataType.{DataType}
use Rattle.tsdb_base.specs.declared.value.Value.{Value}
use Rattle.tsdb_flush.proofs.Entries.{described}
use Rattle.tsdb_flush.specs.BuiltParts.{HasPartPoint, IsContentOfPart, IsPart, IsFilledSeries, entry_of}
use Rattle.tsdb_recover.proofs.Order.{Comes, in_tree, is_in_part, chunk_among, tree_rises}
use Rattle.tsdb_recover.specs.DescribedTrees.{filled_of, group_part, tree_part}
use Rattle.tsdb_path.proofs.Order.{not_itself}
use Rattle.tsdb_path.specs.Order.{AreNamesBefore}
use Rattle.tsdb_flush.specs.BuiltFile.{IsFileEntryOf, paths_of}
use Rattle.tsdb_flush.specs.Parts.{Filled, schema_names}
use Rattle.tsdb_base.proofs.Lists.{each_among, each_from_among, each_weaker}
use Rattle.tsdb_base.specs.Lists.{Among, EachPair}
use Rattle.tsdb_state.specs.Places.{Content, PointPlace}
use Rattle.tsdb_model.specs.declared.command.Schema.{Schema}
use Rattle.tsdb_pages.specs.Pages.{ArePoints}
use Rattle.tsdb_pages.specs.Trees.{HasParts, IsChunk, IsGroup, IsMade, IsTree, chunks_of, page_points}
use Rattle.tsdb_pages.specs.declared.tree.Chunk.{Chunk}
use Rattle.tsdb_pages.specs.declared.tree.Group.{Group}
use Rattle.tsdb_pages.specs.declared.tree.Page.{Page}
use Rattle.tsdb_pages.specs.declared.tree.Tree.{Tree}
use Rattle.tsdb_path.proofs.Bytes.{IsNode-dotless}
use Rattle.tsdb_path.proofs.Parts.{node_count-child, parts_some}
use Rattle.tsdb_path.specs.Nodes.{child_of, device_of, measurement_of, node_count}
use Rattle.tsdb_plan.specs.declared.entry.FileEntry.{FileEntry}
use Rattle.tsdb_state.specs.Stores.{HasTreePoint, IsTreeContent}
use Rattle.tsdb_state.specs.Jobs.{Describes}

pairs_weaker : {X : Type 0} (R S : X → X → Type 0) → ((x y : X) → R x y → S x y) → (xs : List X) → EachPair R xs
    → EachPair S xs
pairs_weaker R S weaker [] pairs = tt
pairs_weaker R S weaker (x ∷ xs) pairs =
    (each_weaker (R x) (S x) (weaker x) xs pairs.0, pairs_weaker R S weaker xs pairs.1)

-- a chunk has a point
points_some : (data_type : DataType) (pages : List Page) → 0 < length pages
    → Each (λ page. ArePoints data_type page.points) pages → 0 < length (page_points pages)
points_some data_type [] some good = absurd (omega (arith, some))
points_some data_type (page ∷ pages) some good =
    let all = length-append page.points (page_points pages) in
    let first = good.0.some in
    omega (arith, all, first)

series_some : (groups : List Group) → 0 < length groups → Each IsGroup groups → 0 < length (flat_map group_part groups)
series_some [] some good = absurd (omega (arith, some))
series_some (group ∷ groups) some good =
    let all = length-append (group_part group) (flat_map group_part groups) in
    let first = length-map {B = Filled} group.chunks (filled_of group.device) in
    let chunks = good.0.some in
    omega (arith, all, first, chunks)

series_of : (device : List ℕ) (chunk : Chunk) → IsChunk chunk → HasParts chunk → IsFilledSeries (filled_of device chunk)
series_of device chunk good parts =
    let nodes = node_count-child device chunk.measurement
    (IsNode-dotless chunk.measurement parts.measurement.node) in
    let some = parts_some device in
    record {
      nodes = omega (arith, nodes, some);
      some = points_some chunk.data_type chunk.pages good.some
          (recursion_from_All (λ (page : Page). ArePoints chunk.data_type page.points) chunk.pages good.pages);
      rising = good.rising;
    }

-- two that stand in order have two paths
paths_differ : (a b : Filled) → Comes a b → a.schema.path ≢ b.schema.path
paths_differ a b before same = not_itself (schema_names b.schema)
    (subst (λ path. AreNamesBefore (device_of path, measurement_of path)
    (schema_names b.schema)) same before)

pub tree_is_part : (tree : Tree) → IsTree tree → IsMade tree → IsPart (tree_part tree)
tree_is_part tree is made = record {
  some = series_some tree.groups is.some groups;
  each = each_from_among IsFilledSeries (tree_part tree) each;
  differ = pairs_weaker Comes (λ a b. a.schema.path ≢ b.schema.path) paths_differ (tree_part tree)
      (tree_rises tree is made);
}
  where
    groups : Each IsGroup tree.groups
    groups = recursion_from_All IsGroup tree.groups is.groups

    each : (filled : Filled) → Among filled (tree_part tree) → IsFilledSeries filled
    each filled among =
        let found = in_tree tree.groups filled among in
        let group = each_among IsGroup tree.groups found.group groups found.in_tree in
        subst IsFilledSeries found.is (series_of found.group.device found.chunk
        (each_among IsChunk found.group.chunks found.chunk (recursion_from_All IsChunk found.group.chunks group.chunks)
        found.in_group)
        (each_among HasParts (chunks_of tree.groups) found.chunk
        (recursion_from_All HasParts (chunks_of tree.groups) made.chunks)
        (chunk_among tree.groups found.group found.chunk found.in_tree found.in_group)))

-- the points of the tree are those of the part
to_part : (tree : Tree) (place : PointPlace) (value : Value) → HasTreePoint tree place value
    → HasPartPoint (tree_part tree) place value
to_part tree place value has = record {
  filled = filled_of has.group.device has.chunk;
  in_part = is_in_part tree.groups has.group has.chunk has.in_tree has.in_group;
  point = has.point;
  in_series = has.in_chunk;
  path = has.path;
  time = has.time;
  has = has.has;
}

to_tree : (tree : Tree) (place : PointPlace) (value : Value) → HasPartPoint (tree_part tree) place value
    → HasTreePoint tree place value
to_tree tree place value has =
    let found = in_tree tree.groups has.filled has.in_part in
    record {
      group = found.group;
      chunk = found.chunk;
      point = has.point;
      in_tree = found.in_tree;
      in_group = found.in_group;
      in_chunk = subst (λ (f : Filled). Among has.point f.points) (sym found.is) has.in_series;
      path = subst (λ (f : Filled). f.schema.path ≡ place.path) (sym found.is) has.path;
      time = has.time;
      has = has.has;
    }

pub content_of_part : (tree : Tree) (content : Content) → IsTreeContent tree content
    → IsContentOfPart (tree_part tree) content
content_of_part tree content is = λ place value. (
  λ has. to_part tree place value ((is place value).0 has),
  λ has. (is place value).1 (to_tree tree place value has),
)

-- what is kept of the file says the points of the tree
pub says_its_points : (tree : Tree) (number born : ℕ) (bytes : List ℕ) (entry : FileEntry) (content : Content)
    → IsTree tree → IsMade tree → IsFileEntryOf number born bytes (tree_part tree) entry → IsTreeContent tree content
    → Describes (entry_of entry (paths_of (tree_part tree))) content
says_its_points tree number born bytes entry content is made kept of =
    described (tree_part tree) content (content_of_part tree content of) number born bytes entry
    (tree_is_part tree is made) kept
