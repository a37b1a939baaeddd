-- Trees whose parts are as their types say: that of series which are so, and that of groups which are.
use Rattle.std.proofs.Common.{◌≡◌, ℕ, ◌+◌, ◌<◌, ◌≤◌, List, [], ◌∷◌, ◌++◌, length, map, get_or, take, sym, subst, arith}
use Rattle.std.specs.Prelude.{All}
use Rattle.std.specs.List.{AllByRecursion as Each}
use Rattle.std.proofs.lemmas.List.{take_all}
use Rattle.std.proofs.lemmas.List.Elements.{All-append, All-from_recursion, All-nil, All-push, All-weaker, recursion_from_All}
use Rattle.tsdb_path.specs.Nodes.{IsName, IsPath}
use Rattle.tsdb_pages.specs.declared.tree.Page.{Page}
use Rattle.tsdb_pages.specs.declared.tree.Chunk.{Chunk}
use Rattle.tsdb_pages.specs.declared.tree.Group.{Group}
use Rattle.tsdb_pages.specs.declared.tree.Tree.{Tree}
use Rattle.tsdb_pages.specs.Pages.{IsInRange}
use Rattle.tsdb_pages.specs.Trees.{HasParts, IsGroup, IsMade, chunks_of, page_points}
use Rattle.tsfile_writer.specs.BuilderInput.{AreChunksOf, IsChunkOf, IsMadeSeries, IsTreeOf, GivenSeries, placed}
use Rattle.tsfile_writer.proofs.Appending.{more_taken}

-- ---- the tree of series

-- a chunk beside its device, as their types have them
record IsPlaced (placed : List ℕ × Chunk) : Type 0 where
  device : IsPath placed.0
  parts : HasParts placed.1

placed_of : (series : GivenSeries) (device : List ℕ) (chunk : Chunk) → IsMadeSeries series → device ≡ series.device → IsChunkOf series chunk → IsPlaced (device, chunk)
placed_of series device chunk made at is = record {
  device = subst IsPath (sym at) made.device;
  parts = record {
    measurement = subst IsName (sym is.measurement_is) made.measurement;
    points = subst (All IsInRange) (sym is.points_are) made.points;
  };
}

chunks_placed : (given : List GivenSeries) (chunks : List (List ℕ × Chunk)) → Each IsMadeSeries given → AreChunksOf given chunks → Each IsPlaced chunks
chunks_placed [] [] made are = tt
chunks_placed [] (c ∷ chunks) made are = absurd are
chunks_placed (s ∷ given) [] made are = absurd are
chunks_placed (s ∷ given) (c ∷ chunks) made are = (placed_of s c.0 c.1 made.0 are.0 are.1, chunks_placed given chunks made.1 are.2)

-- of the chunks of one device, and those behind them
split_placed : (device : List ℕ) (chunks : List Chunk) (behind : List (List ℕ × Chunk)) → Each IsPlaced (map {B = List ℕ × Chunk} (λ chunk. (device, chunk)) chunks ++ behind) → Each HasParts chunks × Each IsPlaced behind
split_placed device [] behind all = (tt, all)
split_placed device (c ∷ chunks) behind all =
    let others = split_placed device chunks behind all.1 in
    ((all.0.parts, others.0), others.1)

device_made : (device : List ℕ) (chunks : List Chunk) (behind : List (List ℕ × Chunk)) → 0 < length chunks → Each IsPlaced (map {B = List ℕ × Chunk} (λ chunk. (device, chunk)) chunks ++ behind) → IsPath device
device_made device [] behind some all = absurd (omega (arith, some))
device_made device (c ∷ chunks) behind some all = all.0.device

devices_made : (groups : List Group) → Each IsGroup groups → Each IsPlaced (placed groups) → Each (λ (g : Group). IsPath g.device) groups
devices_made [] good all = tt
devices_made (g ∷ groups) good all =
    let parts = split_placed g.device g.chunks (placed groups) all in
    (device_made g.device g.chunks (placed groups) good.0.some all, devices_made groups good.1 parts.1)

chunks_made : (groups : List Group) → Each IsPlaced (placed groups) → All HasParts (chunks_of groups)
chunks_made [] all = All-nil HasParts
chunks_made (g ∷ groups) all =
    let parts = split_placed g.device g.chunks (placed groups) all in
    All-append HasParts g.chunks (chunks_of groups) (All-from_recursion HasParts g.chunks parts.0) (chunks_made groups parts.1)

pub tree_made : (given : List GivenSeries) (tree : Tree) → All IsMadeSeries given → IsTreeOf given tree → IsMade tree
tree_made given tree made of = record {
  devices = All-from_recursion (λ (g : Group). IsPath g.device) tree.groups (devices_made tree.groups (recursion_from_All IsGroup tree.groups of.is_tree.groups) all);
  chunks = chunks_made tree.groups all;
}
  where
    all : Each IsPlaced (placed tree.groups)
    all = chunks_placed given (placed tree.groups) (recursion_from_All IsMadeSeries given made) of.chunks

-- ---- the tree of groups

-- what holds of the first items holds of one more
pub one_more_of : {A : Type 0} (P : A → Type 0) (items others : List A) (i : ℕ) (item : A) → others ≡ items → i < length others → item ≡ get_or others i item → All P (take i items) → P item → All P (take (i + 1) items)
one_more_of {A} P items others i item same lt is before here =
    subst (All P) (more_taken [] items others i item same lt is) (All-push P (take i items) item before here)

pub all_of_taken : {A : Type 0} (P : A → Type 0) (items : List A) (i : ℕ) → length items ≤ i → All P (take i items) → All P items
all_of_taken {A} P items i behind all = subst (All P) (take_all i items behind) all

pub record IsMadeGroup (group : Group) : Type 0 where
  pub device : IsPath group.device
  pub chunks : All HasParts group.chunks

pages_in_range : (pages : List Page) → Each (λ page. All IsInRange page.points) pages → All IsInRange (page_points pages)
pages_in_range [] all = All-nil IsInRange
pages_in_range (page ∷ pages) all = All-append IsInRange page.points (page_points pages) all.0 (pages_in_range pages all.1)

pub all_in_range : (pages : List Page) → All (λ page. All IsInRange page.points) pages → All IsInRange (page_points pages)
all_in_range pages all = pages_in_range pages (recursion_from_All (λ page. All IsInRange page.points) pages all)

group_chunks : (groups : List Group) → Each IsMadeGroup groups → All HasParts (chunks_of groups)
group_chunks [] all = All-nil HasParts
group_chunks (group ∷ groups) all = All-append HasParts group.chunks (chunks_of groups) all.0.chunks (group_chunks groups all.1)

pub groups_made : (tree : Tree) → All IsMadeGroup tree.groups → IsMade tree
groups_made tree all = record {
  devices = All-weaker IsMadeGroup (λ (g : Group). IsPath g.device) (λ g is. is.device) tree.groups all;
  chunks = group_chunks tree.groups (recursion_from_All IsMadeGroup tree.groups all);
}
