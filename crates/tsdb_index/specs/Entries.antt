-- The entries that an index of a version may have.
use Rattle.std.specs.Prelude.{◌≡◌, ℕ, ◌<◌, ◌≤◌, ◌^◌, true, List, [], ◌∷◌, length, map, All}
use Rattle.tsdb_base.specs.Values.{is_suitable}
use Rattle.tsdb_fields.specs.Statistics.{IsStatsOf}
use Rattle.tsdb_fields.specs.Nodes.{IsName, IsPath}
use Rattle.tsdb_fields.specs.Order.{AreNamesBefore}
use Rattle.tsdb_base.specs.declared.value.DataType.{DataType}
use Rattle.tsdb_index.specs.declared.index.IndexEntry.{IndexEntry}
use Rattle.tsdb_index.specs.declared.index.PageEntry.{PageEntry}
use Rattle.tsdb_base.specs.Limits.{max_entries, max_pages}
use Rattle.tsdb_index.specs.Versions.{has_sums}

-- a page of values of this type
pub record IsPageOf (version : ℕ) (data_type : DataType) (page : PageEntry) : Type 0 where
  pub place : page.place < 2 ^ 64
  pub stats : IsStatsOf (has_sums version) data_type page.stats

-- a chunk whose encoding suits its type, and whose statistics are of values of the type
pub record IsEntry (version : ℕ) (entry : IndexEntry) : Type 0 where
  pub device : IsPath entry.device
  pub measurement : IsName entry.measurement
  pub suits : is_suitable entry.data_type entry.encoding ≡ true
  pub place : entry.place < 2 ^ 64
  pub stats : IsStatsOf (has_sums version) entry.data_type entry.stats
  pub few : length entry.pages ≤ max_pages
  pub pages : All (IsPageOf version entry.data_type) entry.pages

-- the device and the measurement of an entry
abbrev pub names_of : IndexEntry → List ℕ × List ℕ
names_of entry = (entry.device, entry.measurement)

-- each item stands so to the next
abbrev pub AreInOrder : {A : Type 0} → (A → A → Type 0) → List A → Type 0
AreInOrder R [] = Unit {0}
AreInOrder R (x ∷ []) = Unit {0}
AreInOrder R (x ∷ y ∷ ys) = R x y × AreInOrder R (y ∷ ys)

-- the entries of an index: one at least, in rising order of their names
pub record IsIndex (version : ℕ) (entries : List IndexEntry) : Type 0 where
  pub some : 0 < length entries
  pub few : length entries ≤ max_entries
  pub good : All (IsEntry version) entries
  pub rising : AreInOrder AreNamesBefore (map names_of entries)
