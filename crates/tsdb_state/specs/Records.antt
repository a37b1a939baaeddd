-- What each record of the log needs, and the state after it.
use Rattle.std.specs.Prelude.{◌≡◌, ◌≢◌, ◌⊎◌, ℕ, ℤ, ◌+◌, ◌<◌, ◌≤◌, ◌==◌, int_lt, true, cond, List, [], ◌∷◌, ◌++◌, length}
use Rattle.std.specs.Prelude.{map, take, drop, None, IsSome, slice_get}
use Rattle.std.specs.FinMap.{empty, entries, get, insert}
use Rattle.std.specs.List.{AllByRecursion as Each}
use Rattle.std.specs.Option.{IsSomeAnd, option_map, unwrap_or}
use Rattle.tsdb_base.specs.Values.{type_of}
use Rattle.tsdb_base.specs.declared.ids.FileNumber.{FileNumber}
use Rattle.tsdb_base.specs.declared.ids.Space.{Space}
use Rattle.tsdb_base.specs.declared.ids.Space.TheVariants.{Sequence, Unsequence}
use Rattle.tsdb_base.specs.declared.point.Range.{Range}
use Rattle.tsdb_base.specs.declared.value.Value.{Value}
use Rattle.tsdb_state.specs.Marks.{purge}
use Rattle.tsdb_state.specs.LayerOrder.{WatermarkMap}
use Rattle.tsdb_state.specs.Places.{Content, PointPlace, cut_content, put_content}
use Rattle.tsdb_log.specs.declared.record.CellRecord.{CellRecord}
use Rattle.tsdb_log.specs.declared.record.LogRecord.{LogRecord}
use Rattle.tsdb_log.specs.declared.record.LogRecord.TheVariants.{Create, Delete, Flushed, Freeze, Insert, Replaced, Snapshot}
use Rattle.tsdb_model.specs.Commands.{IsSchema}
use Rattle.tsdb_model.specs.declared.command.Schema.{Schema}
use Rattle.tsdb_marks.specs.declared.marks.Mark.{Mark}
use Rattle.tsdb_memtable.specs.Watermarks.{later_time, space_by}
use Rattle.tsdb_path.specs.Nodes.{device_of}
use Rattle.tsdb_state.specs.Limit.{IsEmptyPair, empty_pair, point_count}
use Rattle.tsdb_base.specs.Limits.{end_of_numbers, max_frozen, max_pair_points}
use Rattle.tsdb_base.specs.Lists.{EachPair, count}
use Rattle.tsdb_state.specs.State.{File, FrozenContent, PairContent, SeriesEntry, StoreState}
use Rattle.tsdb_state.specs.Views.{borns_of, working_pair}
use Rattle.tsdb_state.specs.Worlds.{type_at}

-- CREATE: a series that is not there
pub record CanCreate (schema : Schema) (state : StoreState) : Type 0 where
  pub formed : IsSchema schema
  pub free : type_at state.schemas schema.path ≡ None
  pub stamp : state.stamp < end_of_numbers

-- it joins with the next number
abbrev pub created : Schema → StoreState → StoreState
created schema state = record state {
  schemas = state.schemas ++ record { schema = schema; live = true } ∷ [];
  stamp = state.stamp + 1;
}

-- the path of the series with this number
abbrev pub path_of : List SeriesEntry → ℕ → List ℕ
path_of schemas number = unwrap_or (option_map (λ series. series.schema.path) (slice_get schemas number)) []

abbrev pub put_in_space : Space → PointPlace → Value → PairContent → PairContent
put_in_space Sequence place value pair = record pair { sequence = put_content place value pair.sequence }
put_in_space Unsequence place value pair = record pair { unsequence = put_content place value pair.unsequence }

-- the value in the space that the watermark rule names for its place
abbrev pub put_in_pair : WatermarkMap → PointPlace → Value → PairContent → PairContent
put_in_pair watermarks place value pair =
    put_in_space (space_by (get watermarks (device_of place.path)) place.time) place value pair

abbrev pub cell_place : List SeriesEntry → ℤ → CellRecord → PointPlace
cell_place schemas time cell = record { path = path_of schemas cell.series.0; time = time }

-- each value of a row at its place
abbrev pub put_record_cells : List SeriesEntry → WatermarkMap → ℤ → List CellRecord → PairContent → PairContent
put_record_cells schemas watermarks time [] pair = pair
put_record_cells schemas watermarks time (cell ∷ cells) pair = put_record_cells schemas watermarks time cells
    (put_in_pair watermarks (cell_place schemas time cell) cell.value pair)

-- the row's values in the working pair
abbrev pub inserted : ℤ → List CellRecord → StoreState → StoreState
inserted time cells state = record state {
  stamp = state.stamp + 1;
  working = put_record_cells state.schemas state.watermarks time cells state.working;
}

-- the value is one of a series that is there, of this device
pub record IsOfDevice (device : List ℕ) (cell : CellRecord) (series : SeriesEntry) : Type 0 where
  pub live : series.live ≡ true
  pub of_device : device_of series.schema.path ≡ device
  pub type : type_of cell.value ≡ series.schema.data_type

-- INSERT: values of different series of one device, which leave the working pair within the limit or find it empty
pub record CanInsert (time : ℤ) (cells : List CellRecord) (state : StoreState) : Type 0 where
  pub device : List ℕ
  pub there : Each (λ cell. IsSomeAnd (slice_get state.schemas cell.series.0) (IsOfDevice device cell)) cells
  pub differ : EachPair (λ cell other. cell.series.0 ≢ other.series.0) cells
  pub fits : IsEmptyPair state.working ⊎ (point_count (inserted time cells state).working ≤ max_pair_points)
  pub stamp : state.stamp < end_of_numbers

-- the marks that cover nothing go
abbrev pub purged : StoreState → StoreState
purged state = record state { marks = purge (borns_of state) state.marks }

-- a mark of the series and the range; a range without times needs none
abbrev pub add_mark : List ℕ → Range → ℕ → List Mark → List Mark
add_mark path range version marks = cond (int_lt range.to range.from) marks
    (marks ++ record { path = path; from = range.from; to = range.to; version = record { 0 = version } } ∷ [])

-- DELETE: a series that is there
pub record CanDelete (path : List ℕ) (state : StoreState) : Type 0 where
  pub there : IsSome (type_at state.schemas path)
  pub stamp : state.stamp < end_of_numbers

abbrev pub cut_pair : List ℕ → Range → PairContent → PairContent
cut_pair path range pair = record {
  sequence = cut_content path range pair.sequence;
  unsequence = cut_content path range pair.unsequence;
}

-- the points in the range leave the working pair, and a mark covers those of files and frozen pairs
abbrev pub deleted : List ℕ → Range → StoreState → StoreState
deleted path range state = purged (record state {
  stamp = state.stamp + 1;
  marks = add_mark path range (state.stamp + 1) state.marks;
  working = cut_pair path range state.working;
})

-- the watermark of the place's device, raised to its time
abbrev pub raise_to : PointPlace → WatermarkMap → WatermarkMap
raise_to place watermarks =
    insert watermarks (device_of place.path)
    (unwrap_or (later_time (get watermarks (device_of place.path)) place.time) place.time)

abbrev pub raise_all : List (PointPlace × Value) → WatermarkMap → WatermarkMap
raise_all [] watermarks = watermarks
raise_all (point ∷ points) watermarks = raise_all points (raise_to point.0 watermarks)

-- FREEZE: a working pair with a point, and room among the frozen ones
pub record CanFreeze (state : StoreState) : Type 0 where
  pub some : ¬ IsEmptyPair state.working
  pub room : length state.frozen < max_frozen

-- it goes behind the frozen ones, with the stamp as its born; watermarks rise to its greatest sequence times
abbrev pub froze : StoreState → StoreState
froze state = record state {
  watermarks = raise_all (entries state.working.sequence) state.watermarks;
  frozen = state.frozen ++ working_pair state ∷ [];
  working = empty_pair;
}

-- the numbers that a record gives to files: 0 is none
abbrev pub new_numbers : List ℕ → List ℕ
new_numbers [] = []
new_numbers (number ∷ numbers) = cond (number == 0) (new_numbers numbers) (number ∷ new_numbers numbers)

-- the file of a number, and none of the number 0
abbrev pub new_file : ℕ → ℕ → List File
new_file number born = cond (number == 0) [] (record { number = number; born = born } ∷ [])

-- numbers of new files, which no record has named before, and which differ
pub record AreNew (named numbers : List ℕ) : Type 0 where
  pub within : Each (λ number. number < end_of_numbers) numbers
  pub unnamed : Each (λ number. count number named ≡ 0) numbers
  pub differ : EachPair (λ number other. number ≢ other) numbers

-- the record names a file for a part exactly where the part has a point
abbrev pub IsNumberOf : ℕ → Content → Type 0
IsNumberOf number content = (number ≡ 0 → content ≡ empty) × (number ≢ 0 → content ≢ empty)

-- FLUSHED: the oldest frozen pair
pub record CanFlush (named : List ℕ) (sequence unsequence : ℕ) (state : StoreState) : Type 0 where
  pub oldest : FrozenContent
  pub newer : List FrozenContent
  pub are : state.frozen ≡ oldest ∷ newer
  pub sequence_part : IsNumberOf sequence oldest.pair.sequence
  pub unsequence_part : IsNumberOf unsequence oldest.pair.unsequence
  pub fresh : AreNew named (new_numbers (sequence ∷ unsequence ∷ []))

-- its files go to the ends of their lists
abbrev pub flush_oldest : ℕ → ℕ → List FrozenContent → StoreState → StoreState
flush_oldest sequence unsequence [] state = state
flush_oldest sequence unsequence (oldest ∷ newer) state = purged (record state {
  frozen = newer;
  sequence = state.sequence ++ new_file sequence oldest.born;
  unsequence = state.unsequence ++ new_file unsequence oldest.born;
})

abbrev pub flushed : ℕ → ℕ → StoreState → StoreState
flushed sequence unsequence state = flush_oldest sequence unsequence state.frozen state

-- what a record says of replaced files: the born, the space and the place of the output, its number, and the inputs
pub record Replacement : Type 0 where
  pub born : ℕ
  pub space : Space
  pub place : ℕ
  pub output : ℕ
  pub sequence : List ℕ
  pub unsequence : List ℕ

abbrev pub numbers_of : List File → List ℕ
numbers_of files = map (λ file. file.number) files

-- the files of the list from the place on that have these numbers
abbrev pub files_at : ℕ → List ℕ → List File → List File
files_at place numbers files = take (length numbers) (drop place files)

-- the numbers stand side by side in the list, from the place on
pub record StandAt (place : ℕ) (numbers : List ℕ) (files : List File) : Type 0 where
  pub within : place + length numbers ≤ length files
  pub are : numbers_of (files_at place numbers files) ≡ numbers

-- the inputs of a replacement, by the space of its output: two or more sequence files, or some late files from the
-- start of their list with any number of sequence files; or two or more late files
abbrev pub HasInputs : Space → Replacement → StoreState → Type 0
HasInputs Sequence item state =
    ((item.unsequence ≡ [] × 2 ≤ length item.sequence) ⊎ (1 ≤ length item.unsequence))
    × StandAt item.place item.sequence state.sequence × StandAt 0 item.unsequence state.unsequence
HasInputs Unsequence item state =
    (item.sequence ≡ []) × (2 ≤ length item.unsequence) × StandAt item.place item.unsequence state.unsequence

-- the inputs themselves
abbrev pub inputs_of : Space → Replacement → StoreState → List File
inputs_of Sequence item state =
    files_at item.place item.sequence state.sequence ++ files_at 0 item.unsequence state.unsequence
inputs_of Unsequence item state = files_at item.place item.unsequence state.unsequence

-- REPLACED: files that stand side by side, by a file of a new number or by none
pub record CanReplace (named : List ℕ) (item : Replacement) (state : StoreState) : Type 0 where
  pub inputs : HasInputs item.space item state
  pub older : Each (λ file. file.born ≤ item.born) (inputs_of item.space item state)
  pub reached : item.born ≤ state.stamp
  pub fresh : AreNew named (new_numbers (item.output ∷ []))

-- the list with the output at the place of some files
abbrev pub replace : ℕ → ℕ → List File → List File → List File
replace place count output files = take place files ++ (output ++ drop (place + count) files)

-- the inputs leave their lists, and the output stands at its place
abbrev pub replace_in : Space → Replacement → StoreState → StoreState
replace_in Sequence item state = record state {
  sequence = replace item.place (length item.sequence) (new_file item.output item.born) state.sequence;
  unsequence = drop (length item.unsequence) state.unsequence;
}
replace_in Unsequence item state = record state {
  unsequence = replace item.place (length item.unsequence) (new_file item.output item.born) state.unsequence;
}

abbrev pub replaced : Replacement → StoreState → StoreState
replaced item state = purged (replace_in item.space item state)

abbrev pub number_list : List FileNumber → List ℕ
number_list files = map (λ file. file.0) files

-- the record can follow in a log whose records have named these numbers and given this state
abbrev pub CanFollow : List ℕ → LogRecord → StoreState → Type 0
CanFollow named (Create path data_type encoding) state =
    CanCreate (record { path = path; data_type = data_type; encoding = encoding }) state
CanFollow named (Insert time cells) state = CanInsert time cells state
CanFollow named (Delete path range) state = CanDelete path state
CanFollow named Freeze state = CanFreeze state
CanFollow named (Flushed sequence unsequence) state = CanFlush named sequence.0 unsequence.0 state
CanFollow named (Replaced born space place output sequence unsequence) state = CanReplace named (record {
  born = born.0;
  space = space;
  place = place;
  output = output.0;
  sequence = number_list sequence;
  unsequence = number_list unsequence;
}) state
CanFollow named (Snapshot snapshot) state = ⊥

-- the state after it
abbrev pub after : LogRecord → StoreState → StoreState
after (Create path data_type encoding) state =
    created (record { path = path; data_type = data_type; encoding = encoding }) state
after (Insert time cells) state = inserted time cells state
after (Delete path range) state = deleted path range state
after Freeze state = froze state
after (Flushed sequence unsequence) state = flushed sequence.0 unsequence.0 state
after (Replaced born space place output sequence unsequence) state = replaced (record {
  born = born.0;
  space = space;
  place = place;
  output = output.0;
  sequence = number_list sequence;
  unsequence = number_list unsequence;
}) state
after (Snapshot snapshot) state = state

-- the numbers that it names
abbrev pub names : LogRecord → List ℕ
names (Create path data_type encoding) = []
names (Insert time cells) = []
names (Delete path range) = []
names Freeze = []
names (Flushed sequence unsequence) = new_numbers (sequence.0 ∷ unsequence.0 ∷ [])
names (Replaced born space place output sequence unsequence) = new_numbers (output.0 ∷ [])
names (Snapshot snapshot) = []
