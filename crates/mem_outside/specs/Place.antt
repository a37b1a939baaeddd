-- What the places in memory mean: what their parts mean while they are in them.
use Rattle.std.specs.Prelude.{◌≡◌, ℕ, ◌+◌, ◌-◌, ◌^◌, min, max, List, [], ◌∷◌, ◌++◌, None, Some}
use Rattle.std.specs.Prelude.{Vec}
use Rattle.std.specs.Arc.{arc_value}
use Rattle.std.specs.Option.{option_map}
use Rattle.std.specs.declared.option.Option.{Option}
use Rattle.std.specs.declared.alloc.Global.{Global}
use Rattle.std.specs.List.{take_while}
use Rattle.tsdb_outside.specs.Disk.{Image, DiskState, silent_state}
use Rattle.tsdb_outside.specs.Files.{StoredFile}
use Rattle.mem_outside.specs.declared.files.MemFiles.{MemFiles}
use Rattle.mem_outside.specs.declared.journal.MemJournal.{MemJournal}
use Rattle.mem_outside.specs.declared.place.MemPlace.{MemPlace}
use Rattle.mem_outside.specs.declared.place.Parts.{Parts}
use Rattle.mem_outside.specs.declared.record.StopKind.{StopKind}
use Rattle.mem_outside.specs.Entry.{files_left, last_of}
use Rattle.mem_outside.specs.Files.{files_at_rest, files_gone, files_row, stored_files}
use Rattle.mem_outside.specs.Record.{LeavesOf, image_after_stop}
use Rattle.mem_outside.specs.RecordedDisk.{is_call_until, last_of_calls}
use Rattle.mem_outside.specs.Row.{failing_numbers}
use Rattle.mem_outside.specs.Journal.{journal_first, journal_calls, journal_state}

abbrev pub journal_in : Option Parts → Option MemJournal
journal_in None = None
journal_in (Some parts) = Some parts.journal

abbrev pub files_in : Option Parts → Option MemFiles
files_in None = None
files_in (Some parts) = Some parts.files

-- the journal in the place, if it is not out
abbrev pub place_journal : MemPlace → Option MemJournal
place_journal place = journal_in place.parts

-- the files in the place, if they are not out
abbrev pub place_files : MemPlace → Option MemFiles
place_files place = files_in place.parts

-- the directory whose store was taken up last, or none before the first
abbrev pub place_asked : MemPlace → Option (List ℕ)
place_asked place = option_map (λ name. (arc_value {X = Vec ℕ Global} name).items) place.asked

-- how often the place and the parts that it was given back have failed
abbrev pub place_faults : MemPlace → ℕ
place_faults place = place.faults

-- what a place with this journal in it means; while the journal is out it tells nothing
abbrev pub state_of_place : Option MemJournal → DiskState
state_of_place None = silent_state
state_of_place (Some j) = journal_state j

abbrev pub place_state : MemPlace → DiskState
place_state place = state_of_place (place_journal place)

-- the files of a place with these files in it
abbrev pub stored_in_place : Option MemFiles → Option (List StoredFile)
stored_in_place None = None
stored_in_place (Some files) = stored_files files

-- the numbers of the calls on these files that fail
abbrev pub failing_of : Option MemFiles → List ℕ
failing_of None = []
failing_of (Some files) = failing_numbers (files_row files)

abbrev pub place_stored : MemPlace → Option (List StoredFile)
place_stored place = stored_in_place (place_files place)

-- the same files with the same record, but for the count of faults
pub record SameFiles (old new : MemFiles) : Type 0 where
  pub at_rest : files_at_rest new ≡ files_at_rest old
  pub gone : files_gone new ≡ files_gone old
  pub row : files_row new ≡ files_row old

-- The moments that it can be stopped at: one before the first counted call, and one behind each up to the last that is
-- on a record.
abbrev pub moments_of : Option MemJournal → Option MemFiles → ℕ
moments_of None files = 0
moments_of (Some j) None = 0
moments_of (Some j) (Some f) = min
    (max (last_of_calls (journal_calls j)) (max (last_of (files_at_rest f)) (last_of (files_gone f))) + 1) (2 ^ 64 - 1)

-- a stop behind the first k counted calls may leave this
abbrev pub LeftAt : Option MemJournal → ℕ → Image → Type 0
LeftAt None k image = Unit {0}
LeftAt (Some j) k image = LeavesOf (journal_first j) (take_while (is_call_until k) (journal_calls j)) image

-- what a stop of this kind behind the first k counted calls leaves of the slots
abbrev pub stop_image : StopKind → Option MemJournal → ℕ → Option Image
stop_image kind None k = None
stop_image kind (Some j) k =
    Some (image_after_stop kind (journal_first j) (take_while (is_call_until k) (journal_calls j)))

-- what a stop of this kind behind the first k counted calls leaves of the files
abbrev pub stop_files : StopKind → ℕ → Option MemFiles → Option (List StoredFile)
stop_files kind k None = None
stop_files kind k (Some f) = Some (files_left kind k (files_at_rest f) ++ files_left kind k (files_gone f))

-- whatever a stop now leaves is this
abbrev pub IsDurable : Image → DiskState → Type 0
IsDurable bytes disk = (image : Image) → disk.may_leave image → image ≡ bytes

-- the bytes of two slots
abbrev pub slots_image : List (Vec ℕ Global) → Image
slots_image [] = record { a = []; b = [] }
slots_image (a ∷ []) = record { a = a.items; b = [] }
slots_image (a ∷ b ∷ rest) = record { a = a.items; b = b.items }
