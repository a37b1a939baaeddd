-- When the jobs and pins that are out are in order: flushes, compactions, numbers, entries, rights, room, and the
-- doubt.
use Rattle.std.specs.Prelude.{◌≡◌, ◌≢◌, ◌⊎◌, ◌↔◌, ℕ, ◌+◌, ◌*◌, ◌<◌, ◌≤◌, ◌≤ℤ◌, max, List, [], ◌∷◌, ◌++◌, length, map}
use Rattle.std.specs.Prelude.{Option, Some}
use Rattle.std.specs.Prelude.{None, IfSome, ⊤, sum_by}
use Rattle.std.specs.FinMap.{empty, get, len}
use Rattle.std.specs.List.{AllByRecursion as Each, flat_map}
use Rattle.tsdb_base.specs.declared.ids.Space.{Space}
use Rattle.tsdb_base.specs.declared.ids.Space.TheVariants.{Sequence, Unsequence}
use Rattle.tsdb_base.specs.declared.value.Value.{Value}
use Rattle.tsdb_state.specs.Layers.{survivor}
use Rattle.tsdb_state.specs.Marks.{marks_up_to}
use Rattle.tsdb_state.specs.LayerOrder.{IsBeforeInTime}
use Rattle.tsdb_state.specs.Places.{Content, PointPlace}
use Rattle.tsdb_marks.specs.declared.marks.Mark.{Mark}
use Rattle.tsdb_path.specs.Nodes.{device_of}
use Rattle.tsdb_plan.specs.Files.{AreHullsRising}
use Rattle.tsdb_plan.specs.declared.entry.Hull.{Hull}
use Rattle.tsdb_state.specs.Limit.{IsEmptyPair}
use Rattle.tsdb_base.specs.Limits.{end_of_numbers}
use Rattle.tsdb_base.specs.Lists.{Among, EachPair, IsRun, count, if_some}
use Rattle.tsdb_state.specs.Records.{numbers_of}
use Rattle.tsdb_state.specs.State.{Compaction, KnownFiles, KnownFile, File, FlushState, FrozenContent, PairContent}
use Rattle.tsdb_state.specs.State.{PinState, Room, SourceState}
use Rattle.tsdb_state.specs.State.{FromFile, FromPart, ToldContents}
use Rattle.tsdb_state.specs.Views.{file_layer, file_layers}

-- a number was drawn for a part exactly where the part has a point
abbrev pub IsDrawnFor : Option ℕ → Content → Type 0
IsDrawnFor None content = content ≡ empty
IsDrawnFor (Some number) content = content ≢ empty

-- the flush writes the oldest frozen pair, or one that is frozen no longer
pub record IsFlushOut (stamp : ℕ) (frozen : List FrozenContent) (working : PairContent)
    (flush : FlushState) : Type 0 where
  pub reached : flush.born ≤ stamp
  pub before : ¬ IsEmptyPair working → flush.born < stamp
  pub oldest : Each (λ pair. flush.born ≤ pair.born) frozen
  pub pair : Each (λ pair. pair.born ≡ flush.born → pair.pair ≡ flush.pair) frozen
  pub sequence : IsDrawnFor flush.sequence flush.pair.sequence
  pub unsequence : IsDrawnFor flush.unsequence flush.pair.unsequence

-- the inputs of the job, in the order of their priority
abbrev pub job_inputs : Compaction → List File
job_inputs job = job.sequence ++ job.unsequence

-- the inputs that a job has by the space of its output: two or more sequence files, or late files with any number of
-- sequence files; or two or more late files
abbrev pub HasKind : Space → Compaction → Type 0
HasKind Sequence job = ((job.unsequence ≡ []) × (2 ≤ length job.sequence)) ⊎ (1 ≤ length job.unsequence)
HasKind Unsequence job = (job.sequence ≡ []) × (2 ≤ length job.unsequence)

-- The sequence inputs stand at the job's place, and the late ones are the first of their list. Sequence files before
-- the place have only times below those of the late inputs, files behind the run only times above them, for each
-- device.
pub record HasGap (told : ToldContents) (sequence unsequence : List File) (job : Compaction) : Type 0 where
  pub run : IsRun job.sequence sequence
  pub place : length run.before ≡ job.place
  pub later : List File
  pub first : unsequence ≡ job.unsequence ++ later
  pub below : IsBeforeInTime (file_layers told run.before) (file_layers told job.unsequence)
  pub above : IsBeforeInTime (file_layers told job.unsequence) (file_layers told run.behind)

-- the inputs stand side by side in their lists
abbrev pub Stands : Space → ToldContents → List File → List File → Compaction → Type 0
Stands Sequence told sequence unsequence job = HasGap told sequence unsequence job
Stands Unsequence told sequence unsequence job = IsRun job.unsequence unsequence

-- two jobs share no late file, and one of them at most has the sequence list
pub record AreApart (job other : Compaction) : Type 0 where
  pub one : job.space ≡ Sequence → other.space ≡ Sequence → ⊥
  pub late : (file : File) → Among file job.unsequence → Among file other.unsequence → ⊥

-- the inputs are no younger than the job, and have the same survivors under its marks as under those of now up to its
-- beginning
pub record KeepsItsMarks (told : ToldContents) (stamp : ℕ) (marks : List Mark) (job : Compaction) : Type 0 where
  pub reached : job.born ≤ stamp
  pub older : Each (λ file. file.born ≤ job.born) (job_inputs job)
  pub same : (place : PointPlace) → Each (λ file. survivor job.marks place (file_layer told file)
      ≡ survivor (marks_up_to job.born marks) place (file_layer told file)) (job_inputs job)

-- the compactions that are out
pub record CompactionsInOrder (told : ToldContents) (stamp : ℕ) (marks : List Mark) (sequence unsequence : List File)
    (jobs : List Compaction)
    : Type 0 where
  pub kinds : Each (λ job. HasKind job.space job) jobs
  pub stand : Each (λ job. Stands job.space told sequence unsequence job) jobs
  pub apart : EachPair AreApart jobs
  pub marked : Each (KeepsItsMarks told stamp marks) jobs

-- the numbers that jobs have drawn
abbrev pub drawn_by : FlushState → List ℕ
drawn_by flush = if_some flush.sequence ++ if_some flush.unsequence

abbrev pub drawn_numbers : List FlushState → List Compaction → List ℕ
drawn_numbers flushes compactions = flat_map drawn_by flushes ++ map (λ job. job.output) compactions

-- the numbers of files, and those drawn, differ, and lie from 1 to below the next one; so do those that records have
-- named, among which is none that is drawn
pub record NumbersInOrder (named : List ℕ) (next : ℕ) (files : List File) (drawn : List ℕ) : Type 0 where
  pub from_one : 1 ≤ next
  pub end : next ≤ end_of_numbers
  pub differ : (number : ℕ) → count number (numbers_of files) + count number drawn ≤ 1
  pub range : (number : ℕ) → 1 ≤ count number (numbers_of files) + count number drawn → (1 ≤ number) × (number < next)
  pub named_below : (number : ℕ) → 1 ≤ count number named → number < next
  pub unnamed : (number : ℕ) → 1 ≤ count number drawn → count number named ≡ 0

-- the hull is of the place's device, and over its time
pub record IsHullOver (hull : Hull) (place : PointPlace) : Type 0 where
  pub device : hull.device ≡ device_of place.path
  pub from : hull.from ≤ℤ place.time
  pub to : place.time ≤ℤ hull.to

-- the content has a point of the device at the time
pub record HasTime (content : Content) (device : List ℕ) (time : Rattle.std.specs.Prelude.ℤ) : Type 0 where
  pub place : PointPlace
  pub value : Value
  pub has : get content place ≡ Some value
  pub of_device : device_of place.path ≡ device
  pub at : place.time ≡ time

-- what is kept of a file says its points: how many, which series, and for each device the least and the greatest time
pub record Describes (entry : KnownFile) (content : Content) : Type 0 where
  pub some : 1 ≤ entry.points
  pub points : entry.points ≡ len content
  pub series : (path : List ℕ) → Among path entry.series
      ↔ ((place : PointPlace) × (value : Value) × (place.path ≡ path) × (get content place ≡ Some value))
  pub rising : AreHullsRising entry.hulls
  pub over : (place : PointPlace) (value : Value) → get content place ≡ Some value
      → (hull : Hull) × Among hull entry.hulls × IsHullOver hull place
  pub tight : Each (λ hull. HasTime content hull.device hull.from × HasTime content hull.device hull.to) entry.hulls

-- what is kept of each file says its points
abbrev pub EntriesMatch : ToldContents → KnownFiles → List File → Type 0
EntriesMatch told entries files = Each (λ file. Describes (entries file.number) (told file.number)) files

-- the files that a pin has a right on, once for each right
abbrev pub source_file_numbers : SourceState → List ℕ
source_file_numbers (FromFile file) = file.number ∷ []
source_file_numbers (FromPart layer) = []

abbrev pub pin_numbers : PinState → List ℕ
pin_numbers pin = flat_map (λ column. flat_map source_file_numbers column.sources) pin.columns

-- the files on which rights are out, once for each right
abbrev pub held_numbers : List Compaction → List PinState → List ℕ
held_numbers compactions pins = flat_map (λ job. numbers_of (job_inputs job)) compactions ++ flat_map pin_numbers pins

-- each count of rights is what jobs and pins hold, and they hold rights on files that are there
pub record RightsMatch (rights : ℕ → ℕ) (files : List File) (held : List ℕ) : Type 0 where
  pub counts : (number : ℕ) → rights number ≡ count number held
  pub there : (number : ℕ) → 1 ≤ count number held → 1 ≤ count number (numbers_of files)

-- the bytes of a frame besides its payload: the length, and the gate
abbrev pub frame_overhead : ℕ
frame_overhead = 5

-- the bytes of the record of a flush, and of a compaction
abbrev pub flushed_bytes : ℕ
flushed_bytes = frame_overhead + 17

abbrev pub replaced_bytes : Compaction → ℕ
replaced_bytes job = frame_overhead + 34 + 8 * length (job_inputs job)

-- how many places the end of a compaction needs in the list of a space: one for its output
abbrev pub output_places : Space → Space → ℕ
output_places Sequence Sequence = 1
output_places Sequence Unsequence = 0
output_places Unsequence Sequence = 0
output_places Unsequence Unsequence = 1

-- how many places it needs among the files on their way out: for its inputs, or for its output
abbrev pub outgoing_places : Compaction → ℕ
outgoing_places job = max 1 (length (job_inputs job))

-- the room kept is at least what the ends of the jobs that are out need
pub record KeepsRoom (room : Room) (flushes : List FlushState) (compactions : List Compaction) : Type 0 where
  pub sequence : sum_by (λ flush. length (if_some flush.sequence)) flushes
      + sum_by (λ job. output_places Sequence job.space) compactions ≤ room.sequence
  pub unsequence : sum_by (λ flush. length (if_some flush.unsequence)) flushes
      + sum_by (λ job. output_places Unsequence job.space) compactions ≤ room.unsequence
  pub outgoing : sum_by (λ flush. length (drawn_by flush)) flushes
      + sum_by outgoing_places compactions ≤ room.outgoing
  pub flushed : Each (λ flush. flushed_bytes ≤ room.record_bytes) flushes
  pub replaced : Each (λ job. replaced_bytes job ≤ room.record_bytes) compactions
