-- What a store stands for: the log in a slot, and the files that are there.
use Rattle.std.specs.Prelude.{◌≡◌, ◌⊎◌, ◌↔◌, ℕ, List, [], ◌++◌, Option, None, Some, IsSome, ⊤}
use Rattle.std.proofs.Common.{◌∙◌, sym}
use Rattle.std.specs.FinMap.{empty, get}
use Rattle.std.specs.List.{AllByRecursion as Each}
use Rattle.tsdb_base.specs.declared.point.Point.{Point}
use Rattle.tsdb_base.specs.declared.value.Value.{Value}
use Rattle.tsdb_frames.specs.Log.{IsSettled}
use Rattle.tsdb_base.specs.Lists.{Among}
use Rattle.tsdb_state.specs.Places.{Content, PointPlace}
use Rattle.tsdb_log.specs.Spelling.{IsRecord}
use Rattle.tsdb_log.specs.declared.record.LogRecord.{LogRecord}
use Rattle.tsdb_model.specs.State as plain
use Rattle.tsdb_outside.specs.Disk.{Image, DiskState, in_slot}
use Rattle.tsdb_outside.specs.Files.{StoredFile}
use Rattle.tsdb_outside.specs.declared.disk.Slot.{Slot}
use Rattle.tsdb_pages.specs.File.{IsFile}
use Rattle.tsdb_pages.specs.Trees.{IsMade, IsTree, page_points}
use Rattle.tsdb_pages.specs.declared.tree.Chunk.{Chunk}
use Rattle.tsdb_pages.specs.declared.tree.Group.{Group}
use Rattle.tsdb_pages.specs.declared.tree.Tree.{Tree}
use Rattle.tsdb_path.specs.Nodes.{child_of}
use Rattle.tsdb_state.specs.Replays.{IsDeterminate, IsReplayOf, RecordSteps, steps_by}
use Rattle.tsdb_state.specs.NewStore.{new_store}
use Rattle.tsdb_state.specs.Records.{CanFollow, after, names}
use Rattle.tsdb_state.specs.State.{File, StoreState, ToldContents}
use Rattle.tsdb_state.specs.StoreOrder.{StoreInOrder}
use Rattle.tsdb_state.specs.Worlds as state

-- what the records of a log give: the numbers of files that they have named, and the store
pub record Recorded : Type 0 where
  pub named : List ℕ
  pub store : StoreState

-- what each record does: it needs what the step of the record needs, and names its numbers
abbrev pub store_steps : RecordSteps Recorded
store_steps = steps_by (record { named = []; store = new_store })
    (λ item recorded. CanFollow recorded.named item recorded.store)
    (λ item recorded. record { named = names item ++ recorded.named; store = after item recorded.store })

-- a record leads to one store
pub store_steps_determinate : IsDeterminate store_steps
store_steps_determinate item old one other leads also = leads.1 ∙ sym also.1

-- the state of a new store: there is no series, and nothing was changed
abbrev pub no_changes : plain.State
no_changes = record { world = empty; stamp = 0 }

-- the tree has a point of this value at the place
pub record HasTreePoint (tree : Tree) (place : PointPlace) (value : Value) : Type 0 where
  pub group : Group
  pub chunk : Chunk
  pub point : Point
  pub in_tree : Among group tree.groups
  pub in_group : Among chunk group.chunks
  pub in_chunk : Among point (page_points chunk.pages)
  pub path : child_of group.device chunk.measurement ≡ place.path
  pub time : point.time ≡ place.time
  pub has : point.value ≡ value

-- the content has the points of the tree, and no others
abbrev pub IsTreeContent : Tree → Content → Type 0
IsTreeContent tree content = (place : PointPlace) (value : Value)
    → (get content place ≡ Some value) ↔ HasTreePoint tree place value

-- the bytes of the files that are there, by their numbers
abbrev pub BytesByNumber : Type 0
BytesByNumber = ℕ → Option (List ℕ)

-- a listed file is there, and its bytes are those of a tree with the points that are told
pub record IsWhole (files : BytesByNumber) (told : ToldContents) (file : File) : Type 0 where
  pub bytes : List ℕ
  pub tree : Tree
  pub there : files file.number ≡ Some bytes
  pub is_tree : IsTree tree
  pub is_made : IsMade tree
  pub is_file : IsFile tree bytes
  pub content : IsTreeContent tree (told file.number)

-- The store is in this state of the plain model: it stands for the world, and has the stamp.
pub record IsStateOf (told : ToldContents) (store : StoreState) (at : plain.State) : Type 0 where
  pub world : state.StandsFor told store at.world
  pub stamp : store.stamp ≡ at.stamp

-- A store with these files is in the state: its listed files are whole, and with their points it is in order.
pub record IsStoreOf (files : BytesByNumber) (store : StoreState) (at : plain.State) : Type 0 where
  pub told : ToldContents
  pub whole : Each (IsWhole files told) (store.sequence ++ store.unsequence)
  pub order : StoreInOrder told store
  pub stands : IsStateOf told store at

-- the log in these bytes of a slot has a replay, which with these files is in the state
pub record StoreStandsFor (files : BytesByNumber) (bytes : List ℕ) (at : plain.State) : Type 0 where
  pub recorded : Recorded
  pub replayed : IsReplayOf store_steps bytes recorded
  pub store : IsStoreOf files recorded.store at

-- the log stands for the state, or for the next one, if a record is in doubt that leads there
abbrev pub StandsForOneOf : BytesByNumber → List ℕ → plain.State → Option plain.State → Type 0
StandsForOneOf files bytes at None = StoreStandsFor files bytes at
StandsForOneOf files bytes at (Some next) = StoreStandsFor files bytes at ⊎ StoreStandsFor files bytes next

-- the record in doubt, if there is one, leads to a store that with these files is in the next state
abbrev pub LeadsToState : BytesByNumber → Recorded → Option LogRecord → Option plain.State → Type 0
LeadsToState files recorded None None = ⊤
LeadsToState files recorded None (Some next) = ⊥
LeadsToState files recorded (Some item) None = ⊥
LeadsToState files recorded (Some item) (Some next) =
    IsRecord item × CanFollow recorded.named item recorded.store × IsStoreOf files (after item recorded.store) next

-- A sound store: it tells its content, the slot of its log is settled, and what a read gives stands for this state.
pub record IsSound (slot : Slot) (disk : DiskState) (files : BytesByNumber) (at : plain.State) : Type 0 where
  pub told : IsSome disk.seen
  pub settled : IsSettled slot disk
  pub stands : (image : Image) → disk.seen ≡ Some image → StoreStandsFor files (in_slot slot image) at

-- each kept file is there
abbrev pub HoldsKept : List StoredFile → BytesByNumber → Type 0
HoldsKept kept files = Each (λ (file : StoredFile). files file.number ≡ Some file.bytes) kept
