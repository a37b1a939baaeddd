-- What a builder was given of a part, and the tree that comes of it.
use Rattle.std.proofs.Common.{◌≡◌, ℕ, ◌<◌, List, [], ◌∷◌, ◌++◌, length, map, inl, inr, refl, sym, ap, ◌∙◌, subst, arith}
use Rattle.std.specs.Prelude.{◌⊎◌, All}
use Rattle.std.specs.List.{AllByRecursion as Each}
use Rattle.std.proofs.lemmas.List.Elements.{All-from_recursion, recursion_from_All}
use Rattle.tsdb_flush.specs.MakingSteps.{ComeBefore, IsSoundSeries}
use Rattle.tsdb_path.specs.Order.{AreNamesBefore}
use Rattle.tsdb_flush.specs.BuiltFile.{IsFileOf}
use Rattle.tsdb_flush.specs.Parts.{Filled, schema_names, builder_series}
use Rattle.tsdb_base.proofs.Lists.{each_append, each_left, each_middle, each_of_map, each_right, each_weaker}
use Rattle.tsdb_model.specs.declared.command.Schema.{Schema}
use Rattle.tsfile_writer.specs.File.{IsFile}
use Rattle.tsfile_writer.specs.Pages.{IsInRange}
use Rattle.tsfile_writer.specs.Trees.{HasParts, IsGroup, chunks_of}
use Rattle.tsfile_writer.specs.Chunk.{Chunk}
use Rattle.tsfile_writer.specs.Group.{Group}
use Rattle.tsfile_writer.specs.Tree.{Tree}
use Rattle.tsdb_path.specs.Nodes.{IsName, IsPath, device_of, measurement_of}
use Rattle.tsfile_writer.specs.Building.{WasGiven}
use Rattle.tsfile_writer.specs.BuilderInput.{AreChunksOf, IsChunkOf, IsTreeOf, MayBeFollowedBy, GivenSeries, placed}
use Rattle.tsfile_writer.specs.declared.builder.Builder.{Builder}

map_push : (part : List Filled) (filled : Filled) → map builder_series (part ++ filled ∷ []) ≡ map builder_series part ++ builder_series filled ∷ []
map_push [] filled = refl
map_push (f ∷ part) filled = ap (λ (l : List GivenSeries). builder_series f ∷ l) (map_push part filled)

-- the last series of a part that has one
pub record EndsIn (part : List Filled) : Type 0 where
  pub front : List Filled
  pub last : Filled
  pub is : part ≡ front ++ last ∷ []

pub ends_in : (first : Filled) (part : List Filled) → EndsIn (first ∷ part)
ends_in first [] = record { front = []; last = first; is = refl }
ends_in first (second ∷ part) =
    let rest = ends_in second part in
    record { front = first ∷ rest.front; last = rest.last; is = ap (λ (l : List Filled). first ∷ l) rest.is }

-- a builder that was given nothing, or series of which the last may be followed by this one
abbrev pub MayFollow : Builder → Schema → Type 0
MayFollow builder schema = WasGiven builder [] ⊎ ((front : List GivenSeries) × (last : GivenSeries) × WasGiven builder (front ++ last ∷ [])
    × MayBeFollowedBy (device_of schema.path) (measurement_of schema.path) last)

pub may_follow : (builder : Builder) (part : List Filled) (schema : Schema) → WasGiven builder (map builder_series part) → ComeBefore part schema → Each IsSoundSeries part → MayFollow builder schema
may_follow builder [] schema given before sound = inl given
may_follow builder (first ∷ part) schema given before sound = inr (map builder_series ends.front, builder_series ends.last, was, follows)
  where
    ends : EndsIn (first ∷ part)
    ends = ends_in first part

    was : WasGiven builder (map builder_series ends.front ++ builder_series ends.last ∷ [])
    was = subst (WasGiven builder) (ap (map builder_series) ends.is ∙ map_push ends.front ends.last) given

    here : IsSoundSeries ends.last
    here = each_middle IsSoundSeries ends.front ends.last [] (subst (Each IsSoundSeries) ends.is sound)

    earlier : AreNamesBefore (schema_names ends.last.schema) (schema_names schema)
    earlier = each_middle (λ f. AreNamesBefore (schema_names f.schema) (schema_names schema)) ends.front ends.last [] (subst (Each (λ f. AreNamesBefore (schema_names f.schema) (schema_names schema))) ends.is before)

    follows : MayBeFollowedBy (device_of schema.path) (measurement_of schema.path) (builder_series ends.last)
    follows = record { some = here.some; before = earlier }

pub given_more : (builder : Builder) (part : List Filled) (filled : Filled) → WasGiven builder (map builder_series part ++ builder_series filled ∷ []) → WasGiven builder (map builder_series (part ++ filled ∷ []))
given_more builder part filled was = subst (WasGiven builder) (sym (map_push part filled)) was

pub given_last : (builder : Builder) (part : List Filled) (filled : Filled) → WasGiven builder (map builder_series (part ++ filled ∷ [])) → WasGiven builder (map builder_series part ++ builder_series filled ∷ [])
given_last builder part filled was = subst (WasGiven builder) (map_push part filled) was

-- a builder that was given a part with a series can end the file
pub can_finish : (builder : Builder) (part : List Filled) → WasGiven builder (map builder_series part) → Each IsSoundSeries part → 0 < length part
    → (front : List GivenSeries) × (last : GivenSeries) × WasGiven builder (front ++ last ∷ []) × (0 < length last.points)
can_finish builder [] given sound some = absurd (omega (arith, some))
can_finish builder (first ∷ part) given sound some =
    let ends = ends_in first part in
    (map builder_series ends.front, builder_series ends.last, subst (WasGiven builder) (ap (map builder_series) ends.is ∙ map_push ends.front ends.last) given, (each_middle IsSoundSeries ends.front ends.last [] (subst (Each IsSoundSeries) ends.is sound)).some)

-- ---- the tree of a part

-- a chunk beside its device, as their types have them
pub record IsPlaced (placed : List ℕ × Chunk) : Type 0 where
  pub device : IsPath placed.0
  pub parts : HasParts placed.1

placed_of : (filled : Filled) (device : List ℕ) (chunk : Chunk) → IsSoundSeries filled → device ≡ device_of filled.schema.path → IsChunkOf (builder_series filled) chunk → IsPlaced (device, chunk)
placed_of filled device chunk sound at is = record {
  device = subst IsPath (sym at) sound.device;
  parts = record {
    measurement = subst IsName (sym is.measurement_is) sound.measurement;
    points = subst (All IsInRange) (sym is.points_are) (All-from_recursion IsInRange filled.points sound.points);
  };
}

chunks_placed : (part : List Filled) (chunks : List (List ℕ × Chunk)) → Each IsSoundSeries part → AreChunksOf (map builder_series part) chunks → Each IsPlaced chunks
chunks_placed [] [] sound are = tt
chunks_placed [] (c ∷ chunks) sound are = absurd are
chunks_placed (f ∷ part) [] sound are = absurd are
chunks_placed (f ∷ part) (c ∷ chunks) sound are = (placed_of f c.0 c.1 sound.0 are.0 are.1, chunks_placed part chunks sound.1 are.2)

-- of one group
group_parts : (group : Group) → Each IsPlaced (map (λ chunk. (group.device, chunk)) group.chunks) → Each HasParts group.chunks
group_parts group all = each_weaker (λ (c : Chunk). IsPlaced (group.device, c)) HasParts (λ c is. is.parts) group.chunks (each_of_map IsPlaced (λ (c : Chunk). (group.device, c)) group.chunks all)

group_device : (device : List ℕ) (chunks : List Chunk) → 0 < length chunks → Each IsPlaced (map (λ chunk. (device, chunk)) chunks) → IsPath device
group_device device [] some all = absurd (omega (arith, some))
group_device device (c ∷ chunks) some all = all.0.device

devices_made : (groups : List Group) → Each IsGroup groups → Each IsPlaced (placed groups) → Each (λ (g : Group). IsPath g.device) groups
devices_made [] good all = tt
devices_made (g ∷ groups) good all =
    let here = map (λ chunk. (g.device, chunk)) g.chunks in
    (group_device g.device g.chunks good.0.some (each_left IsPlaced here (placed groups) all), devices_made groups good.1 (each_right IsPlaced here (placed groups) all))

chunks_made : (groups : List Group) → Each IsPlaced (placed groups) → Each HasParts (chunks_of groups)
chunks_made [] all = tt
chunks_made (g ∷ groups) all =
    let here = map (λ chunk. (g.device, chunk)) g.chunks in
    each_append HasParts g.chunks (chunks_of groups) (group_parts g (each_left IsPlaced here (placed groups) all)) (chunks_made groups (each_right IsPlaced here (placed groups) all))

-- the tree of sound series is one whose parts are as their types have them
pub file_of_part : (part : List Filled) (bytes : List ℕ) (tree : Tree) → Each IsSoundSeries part → IsTreeOf (map builder_series part) tree → IsFile tree bytes → IsFileOf part bytes
file_of_part part bytes tree sound of is = record {
  tree = tree;
  of = of;
  made = record {
    devices = All-from_recursion (λ (g : Group). IsPath g.device) tree.groups (devices_made tree.groups (recursion_from_All IsGroup tree.groups of.is_tree.groups) all);
    chunks = All-from_recursion HasParts (chunks_of tree.groups) (chunks_made tree.groups all);
  };
  is = is;
}
  where
    all : Each IsPlaced (placed tree.groups)
    all = chunks_placed part (placed tree.groups) sound of.chunks
