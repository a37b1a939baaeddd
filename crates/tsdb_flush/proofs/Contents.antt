-- The points of a part, and those of the tree that a builder makes of it.
use Rattle.std.proofs.Common.{◌≡◌, ℕ, List, [], ◌∷◌, map, inl, inr, ⊎_elim, refl, sym, ap, ◌∙◌, subst}
use Rattle.std.specs.List.{AllByRecursion as Each}
use Rattle.tsdb_base.specs.declared.value.Value.{Value}
use Rattle.tsdb_flush.specs.BuiltParts.{HasPartPoint, IsContentOfPart, IsPart, IsFilledSeries}
use Rattle.tsdb_flush.specs.BuiltFile.{IsFileOf}
use Rattle.tsdb_flush.specs.Parts.{Filled, builder_series}
use Rattle.tsdb_base.proofs.Lists.{among_left, among_map, among_right, each_among}
use Rattle.tsdb_base.specs.Lists.{Among}
use Rattle.tsdb_memory.specs.Places.{Content, PointPlace}
use Rattle.tsdb_memory.proofs.Counts.{among_either}
use Rattle.tsdb_memory.proofs.Frozen.{image_of}
use Rattle.tsfile_writer.specs.File.{IsFile}
use Rattle.tsfile_writer.specs.Trees.{IsMade, IsTree}
use Rattle.tsfile_writer.specs.Chunk.{Chunk}
use Rattle.tsfile_writer.specs.Group.{Group}
use Rattle.tsfile_writer.specs.Tree.{Tree}
use Rattle.tsdb_path.proofs.Parts.{child_of-device_of}
use Rattle.tsdb_path.specs.Nodes.{child_of, device_of, measurement_of}
use Rattle.tsdb_memory.specs.Stores.{HasTreePoint, IsTreeContent}
use Rattle.tsfile_writer.specs.BuilderInput.{AreChunksOf, IsChunkOf, IsTreeOf, GivenSeries, placed}

-- ---- chunks and series side by side

-- the chunk is that of one of the series, at its device
pub record OfSeries (given : List GivenSeries) (chunk : List ℕ × Chunk) : Type 0 where
  pub series : GivenSeries
  pub among : Among series given
  pub device : chunk.0 ≡ series.device
  pub is : IsChunkOf series chunk.1

pub of_series : (given : List GivenSeries) (chunks : List (List ℕ × Chunk)) (chunk : List ℕ × Chunk) → AreChunksOf given chunks → Among chunk chunks → OfSeries given chunk
of_series [] [] chunk are there = absurd there
of_series [] (c ∷ chunks) chunk are there = absurd are
of_series (s ∷ given) [] chunk are there = absurd are
of_series (s ∷ given) (c ∷ chunks) chunk are (inl is) = subst (OfSeries (s ∷ given)) is (record { series = s; among = inl refl; device = are.0; is = are.1 })
of_series (s ∷ given) (c ∷ chunks) chunk are (inr there) =
    let found = of_series given chunks chunk are.2 there in
    record { series = found.series; among = inr found.among; device = found.device; is = found.is }

-- the series has a chunk among these
pub record HasChunk (series : GivenSeries) (chunks : List (List ℕ × Chunk)) : Type 0 where
  pub chunk : List ℕ × Chunk
  pub among : Among chunk chunks
  pub device : chunk.0 ≡ series.device
  pub is : IsChunkOf series chunk.1

pub has_chunk : (given : List GivenSeries) (chunks : List (List ℕ × Chunk)) (series : GivenSeries) → AreChunksOf given chunks → Among series given → HasChunk series chunks
has_chunk [] chunks series are there = absurd there
has_chunk (s ∷ given) [] series are there = absurd are
has_chunk (s ∷ given) (c ∷ chunks) series are (inl is) = subst (λ (x : GivenSeries). HasChunk x (c ∷ chunks)) is (record { chunk = c; among = inl refl; device = are.0; is = are.1 })
has_chunk (s ∷ given) (c ∷ chunks) series are (inr there) =
    let found = has_chunk given chunks series are.2 there in
    record { chunk = found.chunk; among = inr found.among; device = found.device; is = found.is }

-- ---- chunks of a tree beside their devices

abbrev pub beside : List ℕ → Chunk → List ℕ × Chunk
beside device chunk = (device, chunk)

pub record InGroup (groups : List Group) (chunk : List ℕ × Chunk) : Type 0 where
  pub group : Group
  pub in_tree : Among group groups
  pub in_group : Among chunk.1 group.chunks
  pub device : group.device ≡ chunk.0

pub in_group : (groups : List Group) (chunk : List ℕ × Chunk) → Among chunk (placed groups) → InGroup groups chunk
in_group [] chunk there = absurd there
in_group (g ∷ groups) chunk there = ⊎_elim here (λ among. behind (in_group groups chunk among)) (among_either (map (beside g.device) g.chunks) (placed groups) chunk there)
  where
    here : Among chunk (map (beside g.device) g.chunks) → InGroup (g ∷ groups) chunk
    here among =
        let image = image_of (beside g.device) g.chunks chunk among in
        subst (InGroup (g ∷ groups)) image.is (record { group = g; in_tree = inl refl; in_group = image.among; device = refl })

    behind : InGroup groups chunk → InGroup (g ∷ groups) chunk
    behind found = record { group = found.group; in_tree = inr found.in_tree; in_group = found.in_group; device = found.device }

pub is_placed : (groups : List Group) (group : Group) (chunk : Chunk) → Among group groups → Among chunk group.chunks → Among (beside group.device chunk) (placed groups)
is_placed [] group chunk there among = absurd there
is_placed (g ∷ groups) group chunk (inl is) among =
    among_left (map (beside g.device) g.chunks) (placed groups) (beside group.device chunk)
    (subst (λ (h : Group). Among (beside h.device chunk) (map (beside g.device) g.chunks)) is
    (among_map (beside g.device) g.chunks chunk (subst (λ (h : Group). Among chunk h.chunks) (sym is) among)))
is_placed (g ∷ groups) group chunk (inr there) among =
    among_right (map (beside g.device) g.chunks) (placed groups) (beside group.device chunk) (is_placed groups group chunk there among)

-- ---- points

to_part : (part : List Filled) (tree : Tree) (place : PointPlace) (value : Value) → Each IsFilledSeries part → IsTreeOf (map builder_series part) tree → HasTreePoint tree place value → HasPartPoint part place value
to_part part tree place value each of has =
    let found = of_series (map builder_series part) (placed tree.groups) (beside has.group.device has.chunk) of.chunks (is_placed tree.groups has.group has.chunk has.in_tree has.in_group) in
    let image = image_of builder_series part found.series found.among in
    let filled = image.element in
    let series : IsChunkOf (builder_series filled) has.chunk = subst (λ (s : GivenSeries). IsChunkOf s has.chunk) (sym image.is) found.is in
    let device : has.group.device ≡ device_of filled.schema.path = found.device ∙ ap (λ (s : GivenSeries). s.device) (sym image.is) in
    record {
      filled = filled;
      in_part = image.among;
      point = has.point;
      in_series = subst (Among has.point) series.points_are has.in_chunk;
      path = sym (child_of-device_of filled.schema.path (each_among IsFilledSeries part filled each image.among).nodes)
          ∙ ap (λ (d : List ℕ). child_of d (measurement_of filled.schema.path)) (sym device)
          ∙ ap (child_of has.group.device) (sym series.measurement_is) ∙ has.path;
      time = has.time;
      has = has.has;
    }

to_tree : (part : List Filled) (tree : Tree) (place : PointPlace) (value : Value) → Each IsFilledSeries part → IsTreeOf (map builder_series part) tree → HasPartPoint part place value → HasTreePoint tree place value
to_tree part tree place value each of has =
    let found = has_chunk (map builder_series part) (placed tree.groups) (builder_series has.filled) of.chunks (among_map builder_series part has.filled has.in_part) in
    let at = in_group tree.groups found.chunk found.among in
    let path = has.filled.schema.path in
    record {
      group = at.group;
      chunk = found.chunk.1;
      point = has.point;
      in_tree = at.in_tree;
      in_group = at.in_group;
      in_chunk = subst (Among has.point) (sym found.is.points_are) has.in_series;
      path = ap (λ (d : List ℕ). child_of d found.chunk.1.measurement) (at.device ∙ found.device) ∙ ap (child_of (device_of path)) found.is.measurement_is
          ∙ child_of-device_of path (each_among IsFilledSeries part has.filled each has.in_part).nodes ∙ has.path;
      time = has.time;
      has = has.has;
    }

pub tree_of_part : (part : List Filled) (bytes : List ℕ) (content : Content) → IsPart part → IsFileOf part bytes → IsContentOfPart part content
    → (tree : Tree) × IsTree tree × IsMade tree × IsFile tree bytes × IsTreeContent tree content
tree_of_part part bytes content whole file is = (
  file.tree,
  file.of.is_tree,
  file.made,
  file.is,
  λ place value. (
    λ has. to_tree part file.tree place value whole.each file.of ((is place value).0 has),
    λ has. (is place value).1 (to_part part file.tree place value whole.each file.of has),
  ),
)
