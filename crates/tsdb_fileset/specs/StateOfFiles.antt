-- Which state of the engine the files that a core keeps show.
use Rattle.std.specs.Prelude.{◌≡◌, ℕ, List, [], ◌∷◌, ◌++◌, map, Option, Some, IfSome}
use Rattle.std.specs.List.{AllByRecursion as Each, flat_map}
use Rattle.tsdb_base.specs.declared.ids.FileNumber.{FileNumber}
use Rattle.tsdb_base.specs.declared.ids.Space.{Space}
use Rattle.tsdb_base.specs.declared.ids.Space.TheVariants.{Sequence, Unsequence}
use Rattle.tsdb_flush.specs.StoredEngine.{AreOutgoing, kept_bytes}
use Rattle.tsdb_fileset.specs.Files.{Appends, KeptFiles, kept_file}
use Rattle.tsdb_fileset.specs.Places.{KeptFile, OthersStay}
use Rattle.tsdb_fileset.specs.Sweeps.{free_numbers}
use Rattle.tsdb_fileset.specs.declared.files.Outgoing.{Outgoing}
use Rattle.tsdb_base.specs.Lists.{Among, if_some}
use Rattle.tsdb_outside.specs.Files.{StoredFile}
use Rattle.tsdb_plan.specs.declared.entry.FileEntry.{FileEntry}
use Rattle.tsdb_flush.specs.Records.{names}
use Rattle.tsdb_flush.specs.State.{EngineState, KnownFiles, KnownFile, File}
use Rattle.tsdb_flush.specs.Steps.{Sweeps, swept}
pub use Rattle.tsdb_flush.specs.BuiltParts.{entry_of}

-- a listed file, and one on its way out, as the state has them
abbrev pub listed : FileEntry → File
listed entry = record { number = entry.number.0; born = entry.born.0 }

abbrev pub outgoing_file : Outgoing → File
outgoing_file file = record { number = file.number.0; born = file.born.0 }

-- The lists and the outgoing files are those of the state, rights are counted as there, and what is known of a listed file
-- is what is kept of it.
pub record AreFilesOf (files : KeptFiles) (known : KnownFiles) (state : EngineState) : Type 0 where
  pub sequence : map listed files.sequence ≡ state.store.sequence
  pub unsequence : map listed files.unsequence ≡ state.store.unsequence
  pub outgoing : map outgoing_file files.outgoing ≡ state.outgoing
  pub rights : (number : ℕ) → IfSome (kept_file number files) (λ file. file.rights ≡ state.rights number)
  pub entries_in_sequence : Each (λ entry. IfSome (kept_file entry.number.0 files)
      (λ file. known entry.number.0 ≡ entry_of entry file.series)) files.sequence
  pub entries_in_unsequence : Each (λ entry. IfSome (kept_file entry.number.0 files)
      (λ file. known entry.number.0 ≡ entry_of entry file.series)) files.unsequence

-- each token tells the bytes that are kept under its number
abbrev pub TellTheirBytes : KeptFiles → List StoredFile → Type 0
TellTheirBytes files kept = (number : ℕ) → IfSome (kept_file number files)
    (λ file. (file.name.number ≡ number) × (file.name.bytes ≡ kept_bytes kept number))

-- the numbers of the files that are told
abbrev pub told_numbers : List (Option FileNumber) → List ℕ
told_numbers doubted = map (λ (file : FileNumber). file.0) (flat_map if_some doubted)

-- these are the files that a record in doubt names, if one is in doubt
abbrev pub IsDoubtOf : List (Option FileNumber) → EngineState → Type 0
IsDoubtOf doubted state = IfSome state.doubt (λ item. names item ≡ told_numbers doubted)

-- the numbers of those of these outgoing files that may go
abbrev pub may_go : List (Option FileNumber) → KeptFiles → List Outgoing → List ℕ
may_go doubted files part = free_numbers doubted files.places part

-- these are outgoing files
abbrev pub AreSomeOf : KeptFiles → List Outgoing → Type 0
AreSomeOf files part = (file : Outgoing) → Among file part → Among file files.outgoing

-- the state can be swept of these files, which are on their way out, and the new files are those of the state after it
pub record IsSweep (numbers : List ℕ) (new : KeptFiles) (known : KnownFiles) (state : EngineState) : Type 0 where
  pub sweeps : Sweeps numbers state
  pub outgoing : AreOutgoing numbers state
  pub files : AreFilesOf new known (swept numbers state)

-- a file came among the outgoing ones, or to the end of a list; its token was put at its place, and no other was touched
pub record IsSentOut (file : Outgoing) (token : KeptFile) (old new : KeptFiles) : Type 0 where
  pub outgoing : new.outgoing ≡ old.outgoing ++ file ∷ []
  pub sequence : new.sequence ≡ old.sequence
  pub unsequence : new.unsequence ≡ old.unsequence
  pub here : kept_file file.number.0 new ≡ Some token
  pub others : OthersStay file.number.0 old.places new.places

pub record IsEnlisted (space : Space) (entry : FileEntry) (token : KeptFile) (old new : KeptFiles) : Type 0 where
  pub list : Appends space entry old new
  pub outgoing : new.outgoing ≡ old.outgoing
  pub here : kept_file entry.number.0 new ≡ Some token
  pub others : OthersStay entry.number.0 old.places new.places

-- no right to read the file is out, there and in the state
abbrev pub IsUnread : KeptFile → ℕ → EngineState → Type 0
IsUnread token number state = (token.rights ≡ 0) × (state.rights number ≡ 0)

-- the state with one file more among the outgoing ones, or at the end of a list
abbrev pub with_outgoing : Outgoing → EngineState → EngineState
with_outgoing file state = record state { outgoing = state.outgoing ++ outgoing_file file ∷ [] }

abbrev pub with_listed : Space → FileEntry → EngineState → EngineState
with_listed Sequence entry state =
    record state { store = record state.store { sequence = state.store.sequence ++ listed entry ∷ [] } }
with_listed Unsequence entry state =
    record state { store = record state.store { unsequence = state.store.unsequence ++ listed entry ∷ [] } }
