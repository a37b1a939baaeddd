-- An engine with what it keeps outside: the acknowledged records of its log, and the files that are kept.
use Rattle.std.specs.Prelude.{ℕ, List, map, nat_eq, not, Option, None, Some, IfSome, ⊤}
use Rattle.std.specs.List.{All, AllByRecursion as Each, filter, find, list_any}
use Rattle.std.specs.Option.{option_map}
use Rattle.tsdb_base.specs.Lists.{Among}
use Rattle.tsdb_log.specs.Spelling.{IsRecord}
use Rattle.tsdb_log.specs.declared.record.LogRecord.{LogRecord}
use Rattle.tsdb_model.specs.State as plain
use Rattle.tsdb_outside.specs.Disk.{Image, in_slot}
use Rattle.tsdb_outside.specs.Files.{StoredFile}
use Rattle.tsdb_outside.specs.declared.disk.Slot.{Slot}
use Rattle.tsdb_state.specs.Replays.{Replays}
use Rattle.tsdb_state.specs.Stores.{BytesByNumber, HoldsKept, IsStateOf, IsWhole, StandsForOneOf, store_steps}
use Rattle.tsdb_state.specs.Jobs.{drawn_by}
use Rattle.tsdb_state.specs.Order.{IsInOrder, all_files}
use Rattle.tsdb_state.specs.Records.{after, numbers_of}
use Rattle.tsdb_state.specs.State.{EngineState, KnownFiles, File, FlushState, StoreState, ToldContents}

-- the bytes of the kept file of each number
abbrev pub kept_bytes : List StoredFile → BytesByNumber
kept_bytes kept number =
    option_map (λ (file : StoredFile). file.bytes) (find (λ (file : StoredFile). nat_eq file.number number) kept)

-- the file is kept, and its bytes are those of a tree with the points that are told
abbrev pub IsKeptWhole : List StoredFile → ToldContents → File → Type 0
IsKeptWhole kept told file = IsWhole (kept_bytes kept) told file

-- The engine is stored: the acknowledged records lead to its store, it is in order, and each of its files is kept, those
-- on their way out too.
pub record IsStored (items : List LogRecord) (kept : List StoredFile) (told : ToldContents) (known : KnownFiles)
    (state : EngineState)
    : Type 0 where
  pub named : List ℕ
  pub good : All IsRecord items
  pub replayed : Replays store_steps store_steps.new_store items (record { named = named; store = state.store })
  pub order : IsInOrder told known named state
  pub whole : Each (IsKeptWhole kept told) (all_files state)
  pub doubt : IfSome state.doubt IsRecord

-- the store after the record in doubt, if there is one, is in the next state
abbrev pub LeadsTo : ToldContents → StoreState → Option LogRecord → Option plain.State → Type 0
LeadsTo told store None None = ⊤
LeadsTo told store None (Some next) = ⊥
LeadsTo told store (Some item) None = ⊥
LeadsTo told store (Some item) (Some next) = IsStateOf told (after item store) next

-- With whatever files hold the kept ones, the log in this slot of what a stop left stands for the state, or for the
-- next one, if there is one.
abbrev pub LeavesOneOf : List StoredFile → Slot → plain.State → Option plain.State → Image → Type 0
LeavesOneOf kept slot at next image =
    (files : BytesByNumber) → HoldsKept kept files → StandsForOneOf files (in_slot slot image) at next

-- the files that a flush has built, one for each number that it has drawn
abbrev pub built_files : FlushState → List File
built_files flush = map (λ number. record { number = number; born = flush.born }) (drawn_by flush)

-- the kept files but those of these numbers
abbrev pub without_numbers : List ℕ → List StoredFile → List StoredFile
without_numbers numbers kept =
    filter (λ (file : StoredFile). not (list_any (nat_eq file.number) numbers)) kept

-- each of these numbers is of a file on its way out
abbrev pub AreOutgoing : List ℕ → EngineState → Type 0
AreOutgoing numbers state = Each (λ number. Among number (numbers_of state.outgoing)) numbers
