-- The entries of a tree's index, beside its series.
use Rattle.std.proofs.Common.{◌≡◌, ℕ, ◌+◌, List, [], ◌∷◌, ◌++◌, length, map, sym, ap, ◌∙◌, subst}
use Rattle.std.specs.List.{AllByRecursion as Each, AllZip, flat_map}
use Rattle.std.proofs.lemmas.List.Elements.{recursion_from_All}
use Rattle.tsdb_recover.specs.DescribedSteps.{SaysSeries}
use Rattle.tsdb_recover.specs.DescribedTrees.{filled_of, group_part, tree_part}
use Rattle.tsdb_index.specs.declared.index.IndexEntry.{IndexEntry}
use Rattle.tsdb_base.proofs.Lists.{each_left, each_right}
use Rattle.tsdb_pages.specs.File.{AreEntries, AreEntriesIn, AreEntriesOf, IsChunkEntry, chunk_field, group_field, group_head, head_length}
use Rattle.tsdb_pages.specs.Trees.{HasParts, IsChunk, IsGroup, IsMade, IsTree, chunks_of}
use Rattle.tsdb_pages.specs.declared.tree.Chunk.{Chunk}
use Rattle.tsdb_pages.specs.declared.tree.Group.{Group}
use Rattle.tsdb_pages.specs.declared.tree.Tree.{Tree}
use Rattle.tsdb_path.proofs.Bytes.{IsNode-dotless}
use Rattle.tsdb_path.proofs.Parts.{device_of-child}
use Rattle.tsdb_path.specs.Nodes.{child_of, device_of}

pub zip_append : {X Y : Type 0} (R : X → Y → Type 0) (xs : List X) (ys : List Y) (zs : List X) (ws : List Y)
    → AllZip R xs ys → AllZip R zs ws → AllZip R (xs ++ zs) (ys ++ ws)
zip_append R [] [] zs ws zip more = more
zip_append R [] (y ∷ ys) zs ws zip more = absurd zip
zip_append R (x ∷ xs) [] zs ws zip more = absurd zip
zip_append R (x ∷ xs) (y ∷ ys) zs ws zip more = (zip.0, zip_append R xs ys zs ws zip.1 more)

-- the device of a chunk's series
pub device_of_filled : (device : List ℕ) (chunk : Chunk) → HasParts chunk
    → device_of (filled_of device chunk).schema.path ≡ device
device_of_filled device chunk parts =
    device_of-child device chunk.measurement (IsNode-dotless chunk.measurement parts.measurement.node)

says_of : (device : List ℕ) (place : ℕ) (chunk : Chunk) (entry : IndexEntry) → IsChunkEntry device place chunk entry
    → IsChunk chunk → HasParts chunk → SaysSeries entry (filled_of device chunk)
says_of device place chunk entry is good parts = record {
  path = ap (child_of device) (sym is.measurement_is) ∙ ap (λ d. child_of d entry.measurement) (sym is.device_is);
  device = device_of_filled device chunk parts ∙ sym is.device_is;
  stats = is.stats;
  rising = good.rising;
}

chunks_say : (device : List ℕ) (place : ℕ) (chunks : List Chunk) (entries : List IndexEntry)
    → AreEntries device place chunks entries → Each IsChunk chunks → Each HasParts chunks
    → AllZip SaysSeries entries (map (filled_of device) chunks)
chunks_say device place [] [] are good parts = tt
chunks_say device place [] (entry ∷ entries) are good parts = absurd are
chunks_say device place (chunk ∷ chunks) [] are good parts = absurd are
chunks_say device place (chunk ∷ chunks) (entry ∷ entries) are good parts = (
  says_of device place chunk entry are.0 good.0 parts.0,
  chunks_say device (place + length (chunk_field chunk)) chunks entries are.1 good.1 parts.1,
)

groups_say : (place : ℕ) (groups : List Group) (by_group : List (List IndexEntry)) → AreEntriesOf place groups by_group
    → Each IsGroup groups → Each HasParts (chunks_of groups)
    → AllZip SaysSeries (flat_map (λ list. list) by_group) (flat_map group_part groups)
groups_say place [] [] are good parts = tt
groups_say place [] (entries ∷ others) are good parts = absurd are
groups_say place (group ∷ groups) [] are good parts = absurd are
groups_say place (group ∷ groups) (entries ∷ others) are good parts =
    zip_append SaysSeries entries (group_part group) (flat_map (λ list. list) others) (flat_map group_part groups)
    (chunks_say group.device (place + length (group_head group)) group.chunks entries are.0
    (recursion_from_All IsChunk group.chunks good.0.chunks) (each_left HasParts group.chunks (chunks_of groups) parts))
    (groups_say (place + length (group_field group)) groups others are.1 good.1
    (each_right HasParts group.chunks (chunks_of groups) parts))

-- each entry is that of the series at its place
pub entries_say : (tree : Tree) (entries : List IndexEntry) → IsTree tree → IsMade tree → AreEntriesIn tree entries
    → AllZip SaysSeries entries (tree_part tree)
entries_say tree entries is made are = subst (λ list. AllZip SaysSeries list (tree_part tree)) are.all
    (groups_say (head_length) tree.groups are.by_group are.say (recursion_from_All IsGroup tree.groups is.groups)
    (recursion_from_All HasParts (chunks_of tree.groups) made.chunks))
