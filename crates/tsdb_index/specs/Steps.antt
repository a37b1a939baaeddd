-- How the leaves are written and read one by one. No public clause speaks of these.
use Rattle.std.specs.Prelude.{◌≡◌, ℕ, ◌+◌, ◌-◌, ◌<◌, ◌≤◌, List, [], ◌∷◌, ◌++◌, length, get_or, All, Result, Ok, Err}
use Rattle.std.specs.List.{flat_map}
use Rattle.tsdb_index.specs.declared.index.IndexEntry.{IndexEntry}
use Rattle.tsdb_index.specs.declared.writing.Leaves.{Leaves}
use Rattle.tsdb_index.specs.declared.fault.IndexFault.{IndexFault}
use Rattle.tsdb_index.specs.declared.fault.IndexFault.TheVariants as fault
use Rattle.tsdb_index.specs.declared.pointer.Pointer.{Pointer}
use Rattle.tsdb_fields.specs.Order.{AreNamesBefore}
use Rattle.tsdb_index.specs.Parts.{AreLeavesAt, IsFirstBadLeaf, leaf_end, pointer_names}
use Rattle.tsdb_base.specs.Limits.{max_leaf_entries}
use Rattle.tsdb_index.specs.Spelling.{leaf_field, pointer_field, pointers, AreLeaves, StandIn}

-- a leaf was appended, and the pointer at it
pub record IsLeafAppended (leaf : List IndexEntry) (place : ℕ) (old new : Leaves) : Type 0 where
  pub first : IndexEntry
  pub others : List IndexEntry
  pub some : leaf ≡ first ∷ others
  pub bytes_are : new.bytes.items ≡ old.bytes.items ++ leaf_field leaf
  pub pointers_are : new.pointers.items ≡ old.pointers.items ++ pointer_field first (place + length old.bytes.items)
  pub number_is : new.count ≡ old.count + 1

-- the leaves of the entries are written, and the pointers at them
pub record AreWritten (place : ℕ) (entries : List IndexEntry) (written : Leaves) : Type 0 where
  pub leaves : List (List IndexEntry)
  pub stand : StandIn entries leaves
  pub bytes_are : written.bytes.items ≡ flat_map leaf_field leaves
  pub pointers_are : written.pointers.items ≡ pointers place leaves
  pub number_is : written.count ≡ length leaves

-- each of these leaves has 256 entries
abbrev pub AreFull : List (List IndexEntry) → Type 0
AreFull [] = Unit {0}
AreFull (leaf ∷ leaves) = (length leaf ≡ max_leaf_entries) × AreFull leaves

-- the entries before the rest are written
pub record IsWrittenTo (place : ℕ) (entries rest : List IndexEntry) (written : Leaves) : Type 0 where
  pub leaves : List (List IndexEntry)
  pub split : flat_map (λ leaf. leaf) leaves ++ rest ≡ entries
  pub full : 0 < length rest → AreFull leaves
  pub sizes : rest ≡ [] → AreLeaves leaves
  pub bytes_are : written.bytes.items ≡ flat_map leaf_field leaves
  pub pointers_are : written.pointers.items ≡ pointers place leaves
  pub number_is : written.count ≡ length leaves

-- these bytes are a mark, the number of the items, and the items
pub record IsCountedList {A : Type 0} (mark : ℕ) (number : ℕ → List ℕ) (limit : ℕ) (item : A → List ℕ)
    (IsItem : A → Type 0) (bytes : List ℕ) (items : List A) : Type 0 where
  pub few : length items < limit
  pub good : All IsItem items
  pub bytes_are : bytes ≡ mark ∷ number (length items) ++ flat_map item items

-- from the first pointer's place so many bytes are left up to the root, and each leaf ends where it begins or later
abbrev pub AreSpread : ℕ → List Pointer → ℕ → Type 0
AreSpread root [] left = left ≡ 0
AreSpread root (pointer ∷ behind) left =
    (pointer.place + left ≡ root) × (pointer.place ≤ leaf_end root behind)
    × AreSpread root behind (left - (leaf_end root behind - pointer.place))

-- the entries of the leaves that these bytes are, or the place of the first bad leaf
abbrev pub ReadsLeaves : {B : Type 0} → ℕ → ℕ → List Pointer → List ℕ → (B → List IndexEntry) → Result B IndexFault
    → Type 0
ReadsLeaves version root pointers bytes view (Ok found) =
    (leaves : List (List IndexEntry)) × AreLeavesAt version root pointers bytes leaves
    × (view found ≡ flat_map (λ leaf. leaf) leaves)
ReadsLeaves version root pointers bytes view (Err (fault.Bad at)) = IsFirstBadLeaf version root pointers bytes at
ReadsLeaves version root pointers bytes view (Err fault.Memory) = Unit {0}

-- the pointer at this place is the last one whose names do not come behind these
pub record IsLastFor (names : List ℕ × List ℕ) (pointers : List Pointer) (at : ℕ) : Type 0 where
  pub inside : at < length pointers
  pub until : (d : Pointer) → AreNamesBefore names (pointer_names (get_or pointers at d)) → ⊥
  pub later : (k : ℕ) (d : Pointer) → at < k → k < length pointers → AreNamesBefore names (pointer_names (get_or pointers k d))
