-- Where the parts of a tree's file stand.
use Rattle.std.specs.Prelude.{◌≡◌, ℕ, ◌+◌, ◌-◌, ◌<◌, ◌≤◌, List, ◌++◌, length, take, drop, get_or, Contains}
use Rattle.tsdb_base.specs.declared.value.Encoding.{Encoding}
use Rattle.tsdb_base.specs.Fields.{number64}
use Rattle.tsdb_index.specs.declared.index.IndexEntry.{IndexEntry}
use Rattle.tsdb_index.specs.declared.index.PageEntry.{PageEntry}
use Rattle.tsdb_index.specs.Spelling.{IsIndexSpelling, RootBegins}
use Rattle.tsdb_stats.specs.Statistics.{AreStatsOf}
use Rattle.tsdb_pages.specs.declared.tree.Page.{Page}
use Rattle.tsdb_pages.specs.declared.tree.Chunk.{Chunk}
use Rattle.tsdb_pages.specs.declared.tree.Group.{Group}
use Rattle.tsdb_pages.specs.declared.tree.Tree.{Tree}
use Rattle.tsdb_pages.specs.File.{IsChunkEntry, chunk_field, chunk_head, data_field, head, magic, page_field}

-- the part stands at this place of the bytes
pub record StandsAt (place : ℕ) (part bytes : List ℕ) : Type 0 where
  pub inside : place + length part ≤ length bytes
  pub bytes_are : take (length part) (drop place bytes) ≡ part

-- the page stands where the index says, with the statistics that it says
pub record IsPageAt (encoding : Encoding) (bytes : List ℕ) (page : Page) (said : PageEntry) : Type 0 where
  pub stands : StandsAt said.place (page_field encoding page) bytes
  pub stats : AreStatsOf page.points said.stats

-- the entry is that of a chunk of the tree, which stands where the entry says, as each page of the chunk does
pub record HasPlaces (tree : Tree) (bytes : List ℕ) (entry : IndexEntry) : Type 0 where
  pub group : Group
  pub chunk : Chunk
  pub in_tree : Contains tree.groups group
  pub in_group : Contains group.chunks chunk
  pub says : IsChunkEntry group.device entry.place chunk entry
  pub stands : StandsAt entry.place (chunk_field chunk) bytes
  pub head : StandsAt entry.place (chunk_head chunk) bytes
  pub count : length entry.pages ≡ length chunk.pages
  pub pages : (k : ℕ) (page : Page) (said : PageEntry) → k < length entry.pages
      → IsPageAt chunk.encoding bytes (get_or chunk.pages k page) (get_or entry.pages k said)

-- the head stands first, the tail last, and before it the index: its leaves from the end of the groups up to the root
pub record HasEnds (version : ℕ) (tree : Tree) (bytes : List ℕ) (entries : List IndexEntry) (root : ℕ) (index : List ℕ)
    : Type 0 where
  pub size : length bytes ≡ length (data_field version tree) + length index + 14
  pub head : StandsAt 0 (head version) bytes
  pub data_stands : StandsAt 0 (data_field version tree) bytes
  pub index_stands : StandsAt (length (data_field version tree)) index bytes
  pub index_is : IsIndexSpelling (length (data_field version tree)) root entries index
  pub begins : RootBegins (length (data_field version tree)) root entries index
  pub tail : drop (length bytes - 14) bytes ≡ number64 root ++ magic
