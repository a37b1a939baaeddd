-- The steps of an engine: what each needs, and the state after it. A step that appends a record has left none in doubt.
use Rattle.std.specs.Prelude.{◌≡◌, ◌⊎◌, ℕ, ◌+◌, ◌-◌, ◌≤◌, Bool, not, max, nat_eq, List, [], ◌∷◌, ◌++◌, length, map}
use Rattle.std.specs.Prelude.{Option}
use Rattle.std.specs.Prelude.{Some, None, IfSome, nat_lt, true, ℤ}
use Rattle.std.specs.FinMap.{len, retain_keys}
use Rattle.tsdb_base.specs.declared.point.Range.{Range}
use Rattle.tsdb_state.specs.Layers.{Layer}
use Rattle.tsdb_state.specs.Marks.{survives}
use Rattle.tsdb_state.specs.Places.{is_path, is_within}
use Rattle.tsdb_base.specs.Lists.{IsRun}
use Rattle.tsdb_state.specs.Records.{Replacement}
use Rattle.tsdb_state.specs.State.{StoreState}
use Rattle.tsdb_state.specs.Views.{sequence_layer, unsequence_layer, working_pair}
use Rattle.std.specs.List.{AllByRecursion as Each, filter, list_any, range_with_len}
use Rattle.tsdb_base.specs.declared.ids.FileNumber.{FileNumber}
use Rattle.tsdb_base.specs.declared.ids.Space.TheVariants.{Sequence, Unsequence}
use Rattle.tsdb_base.specs.declared.ids.Space.{Space}
use Rattle.tsdb_state.specs.Layers.{survivor, value_in}
use Rattle.tsdb_state.specs.Places.{Content, PointPlace}
use Rattle.tsdb_log.specs.declared.record.LogRecord.{LogRecord}
use Rattle.tsdb_log.specs.declared.record.LogRecord.TheVariants.{Flushed, Replaced}
use Rattle.tsdb_model.specs.World.{World, is_in, value_at}
use Rattle.tsdb_state.specs.Jobs.{AreApart, Describes, HasKind, IsDrawnFor, Stands, drawn_by, flushed_bytes, job_inputs}
use Rattle.tsdb_state.specs.Jobs.{outgoing_places, output_places, pin_numbers, replaced_bytes}
use Rattle.tsdb_base.specs.Limits.{end_of_numbers}
use Rattle.tsdb_base.specs.Lists.{Among, IsWithOne, count, if_some}
use Rattle.tsdb_state.specs.Records.{after, names, numbers_of}
use Rattle.tsdb_state.specs.State.{Compaction, EngineState, KnownFiles, File, FlushState, FrozenContent, PinState, Room}
use Rattle.tsdb_state.specs.State.{SourceState, FromFile, FromPart, ToldContents}
use Rattle.tsdb_state.specs.Views.{file_layer, file_layers}

-- a record took effect
abbrev pub wrote : LogRecord → EngineState → EngineState
wrote item state = record state { store = after item state.store; doubt = None }

-- the gate of a record is in doubt
abbrev pub failed : LogRecord → EngineState → EngineState
failed item state = record state { doubt = Some item }

-- nothing is in doubt any more: the record in doubt is not in the log
abbrev pub settled : EngineState → EngineState
settled state = record state { doubt = None }

-- TAKE A FLUSH: the oldest frozen pair, with the next numbers for its parts that have a point
pub record TakesFlush (flush : FlushState) (state : EngineState) : Type 0 where
  pub oldest : FrozenContent
  pub newer : List FrozenContent
  pub are : state.store.frozen ≡ oldest ∷ newer
  pub born : flush.born ≡ oldest.born
  pub pair : flush.pair ≡ oldest.pair
  pub sequence : IsDrawnFor flush.sequence flush.pair.sequence
  pub unsequence : IsDrawnFor flush.unsequence flush.pair.unsequence
  pub numbers : drawn_by flush ≡ range_with_len state.next_file (length (drawn_by flush))
  pub left : state.next_file + 2 ≤ end_of_numbers

abbrev pub room_for_flush : (ℕ → ℕ → ℕ) → FlushState → Room → Room
room_for_flush change flush room = record {
  sequence = change room.sequence (length (if_some flush.sequence));
  unsequence = change room.unsequence (length (if_some flush.unsequence));
  outgoing = change room.outgoing (length (drawn_by flush));
  record_bytes = max flushed_bytes room.record_bytes;
}

abbrev pub took_flush : FlushState → EngineState → EngineState
took_flush flush state = record state {
  flushes = flush ∷ state.flushes;
  next_file = state.next_file + length (drawn_by flush);
  room = room_for_flush (λ a b. a + b) flush state.room;
}

-- the flush ends, and these files of its numbers go out
abbrev pub ended_flush : FlushState → List FlushState → List File → EngineState → EngineState
ended_flush flush others built state = record state {
  flushes = others;
  outgoing = state.outgoing ++ built;
  room = room_for_flush (λ a b. a - b) flush state.room;
}

-- END A FLUSH without its record: it was given up, its pair is frozen no longer, or its append failed
pub record EndsFlush (flush : FlushState) (others : List FlushState) (built : List File) (state : EngineState)
    : Type 0 where
  pub out : IsWithOne flush others state.flushes
  pub files : (number : ℕ) → count number (numbers_of built) ≤ count number (drawn_by flush)

-- the number of a file, 0 for none
abbrev pub number_or_none : Option ℕ → FileNumber
number_or_none None = record { 0 = 0 }
number_or_none (Some number) = record { 0 = number }

abbrev pub flush_record : FlushState → LogRecord
flush_record flush = Flushed (number_or_none flush.sequence) (number_or_none flush.unsequence)

-- the files of these numbers have the content, and what is kept of them says so
abbrev pub IsBuilt : ToldContents → KnownFiles → Option ℕ → Content → Type 0
IsBuilt told entries number content =
    IfSome number (λ number. (told number ≡ content) × Describes (entries number) content)

-- COMMIT A FLUSH: its pair is the oldest frozen one, and the files of its numbers have the pair's parts
pub record CommitsFlush (told : ToldContents) (entries : KnownFiles) (flush : FlushState) (others : List FlushState)
    (state : EngineState)
    : Type 0 where
  pub out : IsWithOne flush others state.flushes
  pub oldest : FrozenContent
  pub newer : List FrozenContent
  pub are : state.store.frozen ≡ oldest ∷ newer
  pub born : oldest.born ≡ flush.born
  pub sequence : IsBuilt told entries flush.sequence flush.pair.sequence
  pub unsequence : IsBuilt told entries flush.unsequence flush.pair.unsequence

abbrev pub committed_flush : FlushState → List FlushState → EngineState → EngineState
committed_flush flush others state = wrote (flush_record flush) (ended_flush flush others [] state)

-- BEGIN A COMPACTION: its inputs stand as its kind asks, no other job has them, and its marks are those of now wherever
-- an input has a point
pub record Begins (told : ToldContents) (job : Compaction) (state : EngineState) : Type 0 where
  pub kind : HasKind job.space job
  pub stand : Stands job.space told state.store.sequence state.store.unsequence job
  pub apart : Each (AreApart job) state.compactions
  pub born : job.born ≡ state.store.stamp
  pub marks : (place : PointPlace) → Each (λ file. survivor job.marks place (file_layer told file)
      ≡ survivor state.store.marks place (file_layer told file)) (job_inputs job)
  pub output : job.output ≡ state.next_file
  pub left : state.next_file + 2 ≤ end_of_numbers

abbrev pub room_for_compaction : (ℕ → ℕ → ℕ) → Compaction → Room → Room
room_for_compaction change job room = record {
  sequence = change room.sequence (output_places Sequence job.space);
  unsequence = change room.unsequence (output_places Unsequence job.space);
  outgoing = change room.outgoing (outgoing_places job);
  record_bytes = max (replaced_bytes job) room.record_bytes;
}

-- rights on these files are taken, or given back
abbrev pub with_rights : List ℕ → (ℕ → ℕ) → ℕ → ℕ
with_rights numbers rights number = rights number + count number numbers

abbrev pub without_rights : List ℕ → (ℕ → ℕ) → ℕ → ℕ
without_rights numbers rights number = rights number - count number numbers

abbrev pub began : Compaction → EngineState → EngineState
began job state = record state {
  compactions = job ∷ state.compactions;
  next_file = state.next_file + 1;
  rights = with_rights (numbers_of (job_inputs job)) state.rights;
  room = room_for_compaction (λ a b. a + b) job state.room;
}

-- the job ends, its rights are given back, and these files go out
abbrev pub ended : Compaction → List Compaction → List File → EngineState → EngineState
ended job others files state = record state {
  compactions = others;
  outgoing = state.outgoing ++ files;
  rights = without_rights (numbers_of (job_inputs job)) state.rights;
  room = room_for_compaction (λ a b. a - b) job state.room;
}

-- END A COMPACTION without its record: it was given up, or its append failed; its output goes out, where there is one
pub record EndsCompaction (job : Compaction) (others : List Compaction) (built : List File) (state : EngineState)
    : Type 0 where
  pub out : IsWithOne job others state.compactions
  pub files : (number : ℕ) → count number (numbers_of built) ≤ count number (job.output ∷ [])

-- the output of a job: at each place the value of the last input with a point that survives the marks at the beginning
abbrev pub IsOutput : ToldContents → Compaction → List File → Type 0
IsOutput told job output = (place : PointPlace)
    → value_in [] place (file_layers told output) ≡ value_in job.marks place (file_layers told (job_inputs job))

-- the place of an output in its list: of a sequence output the job's, of another one that of the first input
abbrev pub IsOutputPlace : Space → Compaction → StoreState → ℕ → Type 0
IsOutputPlace Sequence job state place = place ≡ job.place
IsOutputPlace Unsequence job state place =
    (run : IsRun job.unsequence state.unsequence) × (place ≡ length run.before)

-- COMMIT A COMPACTION: its output is a file of its number, or none where there is no point
pub record CommitsCompaction (told : ToldContents) (entries : KnownFiles) (job : Compaction) (others : List Compaction)
    (output : List File) (place : ℕ) (state : EngineState)
    : Type 0 where
  pub out : IsWithOne job others state.compactions
  pub stands : IsOutputPlace job.space job state.store place
  pub gives : IsOutput told job output
  pub file : (output ≡ []) ⊎ ((output ≡ record { number = job.output; born = job.born } ∷ [])
      × Describes (entries job.output) (told job.output))

-- the number of the only file of a list, 0 for none
abbrev pub output_number : List File → ℕ
output_number [] = 0
output_number (file ∷ files) = file.number

abbrev pub replacement : Compaction → List File → ℕ → Replacement
replacement job output place = record {
  born = job.born;
  space = job.space;
  place = place;
  output = output_number output;
  sequence = numbers_of job.sequence;
  unsequence = numbers_of job.unsequence;
}

abbrev pub file_numbers : List File → List FileNumber
file_numbers files = map (λ file. record { 0 = file.number }) files

abbrev pub compaction_record : Compaction → List File → ℕ → LogRecord
compaction_record job output place = Replaced (record { 0 = job.born }) job.space place
    (record { 0 = output_number output }) (file_numbers job.sequence) (file_numbers job.unsequence)

-- the inputs go out
abbrev pub committed : Compaction → List Compaction → List File → ℕ → EngineState → EngineState
committed job others output place state =
    wrote (compaction_record job output place) (ended job others (job_inputs job) state)

-- the file has points of the series
abbrev pub has_series : KnownFiles → List ℕ → File → Bool
has_series entries path file = list_any (is_path path) (entries file.number).series

-- what a pin reads of files, and of parts in memory: copies of the points of a series in a range, where there are some
abbrev pub file_sources : KnownFiles → List ℕ → List File → List SourceState
file_sources entries path files = map FromFile (filter (has_series entries path) files)

abbrev pub part_within : List ℕ → Range → Layer → Layer
part_within path range layer = record layer { content = retain_keys layer.content (is_within path range) }

abbrev pub part_sources : List ℕ → Range → List Layer → List SourceState
part_sources path range layers =
    map (λ layer. FromPart (part_within path range layer))
    (filter (λ layer. nat_lt 0 (len (retain_keys layer.content (is_within path range)))) layers)

-- the sources of a series in the range, in the order of their priority
abbrev pub sources_of : KnownFiles → StoreState → List ℕ → Range → List SourceState
sources_of entries state path range =
    (file_sources entries path state.sequence
    ++ part_sources path range (map sequence_layer (state.frozen ++ working_pair state ∷ [])))
    ++ (file_sources entries path state.unsequence
    ++ part_sources path range (map unsequence_layer (state.frozen ++ working_pair state ∷ [])))

-- PIN: all sources of each column, and the marks of their series
pub record TakesPin (entries : KnownFiles) (pin : PinState) (state : EngineState) : Type 0 where
  pub stamp : pin.stamp ≡ state.store.stamp
  pub marks : Each (λ column. (time : ℤ) (born : ℕ)
      → survives pin.marks (record { path = column.path; time = time }) born
      ≡ survives state.store.marks (record { path = column.path; time = time }) born) pin.columns
  pub columns : Each (λ column. column.sources ≡ sources_of entries state.store column.path pin.range) pin.columns

abbrev pub pinned : PinState → EngineState → EngineState
pinned pin state = record state {
  pins = pin ∷ state.pins;
  rights = with_rights (pin_numbers pin) state.rights;
}

-- the layer that a source reads
abbrev pub source_layer : ToldContents → SourceState → Layer
source_layer told (FromFile file) = file_layer told file
source_layer told (FromPart layer) = layer

-- the pin has the world's value at each time of its range, whatever has become of the state
abbrev pub PinStandsFor : ToldContents → PinState → World → Type 0
PinStandsFor told pin world = Each (λ column. (time : ℤ) → is_in pin.range time ≡ true
    → value_at world column.path time
    ≡ value_in pin.marks (record { path = column.path; time = time }) (map (source_layer told) column.sources))
    pin.columns

-- UNPIN: its rights are given back
abbrev pub unpinned : PinState → List PinState → EngineState → EngineState
unpinned pin others state = record state {
  pins = others;
  rights = without_rights (pin_numbers pin) state.rights;
}

-- SWEEP: these files have no right out, and no record in doubt names them
pub record Sweeps (numbers : List ℕ) (state : EngineState) : Type 0 where
  pub free : Each (λ number. state.rights number ≡ 0) numbers
  pub settled : Each (λ number. IfSome state.doubt (λ item. Among number (names item) → ⊥)) numbers

abbrev pub swept : List ℕ → EngineState → EngineState
swept numbers state = record state {
  outgoing = filter (λ file. not (list_any (nat_eq file.number) numbers)) state.outgoing;
}
