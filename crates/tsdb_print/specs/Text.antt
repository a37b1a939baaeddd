-- The text of the output. Each line ends with a line feed.
use Rattle.std.specs.Prelude.{ℕ, ℤ, List, [], ◌∷◌, ◌++◌, Bool, true, false, Option, None, Some, length, map}
use Rattle.std.specs.Prelude.{filter, slice_index, codes}
use Rattle.std.specs.Fmt.{decimal, signed_decimal}
use Rattle.std.specs.List.{flat_map, join_by}
use Rattle.tsdb_base.specs.Notation.{aggregate_name, escape}
use Rattle.tsdb_base.specs.declared.answers.Aggregate.{Aggregate}
use Rattle.tsdb_base.specs.declared.answers.Answer.{Answer}
use Rattle.tsdb_base.specs.declared.answers.Answer.TheVariants as answer
use Rattle.tsdb_base.specs.declared.answers.Figure.{Figure}
use Rattle.tsdb_base.specs.declared.answers.Figure.TheVariants as figure
use Rattle.tsdb_base.specs.declared.ids.Space.{Space}
use Rattle.tsdb_base.specs.declared.ids.Space.TheVariants.{Sequence, Unsequence}
use Rattle.tsdb_base.specs.declared.value.Value.{Value}
use Rattle.tsdb_base.specs.declared.value.Value.TheVariants as value
use Rattle.tsdb_model.specs.declared.command.Command.{Command}
use Rattle.tsdb_model.specs.declared.command.Command.TheVariants.{Select}
use Rattle.tsdb_model.specs.declared.command.Item.{Item}
use Rattle.tsdb_model.specs.declared.reply.FileLine.{FileLine}
use Rattle.tsdb_model.specs.declared.reply.Line.{Line}
use Rattle.tsdb_model.specs.declared.reply.Listing.{Listing}
use Rattle.tsdb_model.specs.declared.reply.Reply.{Reply}
use Rattle.tsdb_model.specs.declared.reply.Reply.TheVariants.{Plain, Lines, Values, Files}

-- a line of the output
abbrev pub line : List ℕ → List ℕ
line text = text ++ 10 ∷ []

-- texts with commas between them
abbrev pub join_with_commas : List (List ℕ) → List ℕ
join_with_commas texts = join_by (λ text. text) (codes ",") texts

-- what a command answers that returns no lines
abbrev pub answer_text : Answer → List ℕ
answer_text answer.Done = codes "ok"
answer_text answer.NoPath = codes "path"
answer_text answer.WrongType = codes "type"
answer_text answer.Exists = codes "exists"
answer_text answer.Device = codes "device"
answer_text answer.Memory = codes "memory"
answer_text (answer.Full counter) = codes "full"

-- a text between quotes, with each quote in it doubled
abbrev pub quote : List ℕ → List ℕ
quote bytes = 39 ∷ escape 39 bytes ++ 39 ∷ []

-- a value, or `null` where there is none
abbrev pub cell_text : Option Value → List ℕ
cell_text None = codes "null"
cell_text (Some (value.Bool true)) = codes "true"
cell_text (Some (value.Bool false)) = codes "false"
cell_text (Some (value.I32 number)) = signed_decimal number
cell_text (Some (value.I64 number)) = signed_decimal number
cell_text (Some (value.Text bytes)) = quote bytes

-- what an aggregate comes to, or `null`
abbrev pub figure_text : Option Figure → List ℕ
figure_text None = codes "null"
figure_text (Some (figure.Value value)) = cell_text (Some value)
figure_text (Some (figure.Sum sum)) = signed_decimal sum

-- an aggregate of a measurement, or the measurement alone
abbrev pub column_text : Option Aggregate → List ℕ → List ℕ
column_text None measurement = measurement
column_text (Some aggregate) measurement = aggregate_name aggregate ++ 40 ∷ measurement ++ 41 ∷ []

-- an item of a select
abbrev pub item_text : Item → List ℕ
item_text item = column_text item.aggregate item.measurement

-- a row: its time and its values
abbrev pub row_text : Line → List ℕ
row_text row = join_with_commas (signed_decimal row.time ∷ map cell_text row.values)

-- the rows of a select: a heading, a line for each row, and their number
abbrev pub rows_text : List Item → List Line → List ℕ
rows_text items rows = line (join_with_commas (codes "time" ∷ map item_text items))
    ++ flat_map (λ row. line (row_text row)) rows ++ line (codes "rows " ++ decimal (length rows))

-- the aggregates of a select: a heading, and a line with their values
abbrev pub values_text : List Item → List (Option Figure) → List ℕ
values_text items values = line (join_with_commas (map item_text items))
    ++ line (join_with_commas (map figure_text values))

abbrev pub space_name : Space → List ℕ
space_name Sequence = codes "sequence"
space_name Unsequence = codes "unsequence"

-- the least and the greatest time of a file
abbrev pub span_text : ℤ → ℤ → List ℕ
span_text from to = codes " from " ++ signed_decimal from ++ codes " to " ++ signed_decimal to

abbrev pub file_text : FileLine → List ℕ
file_text file = space_name file.space ++ codes " " ++ decimal file.number.0 ++ codes " born " ++ decimal file.born.0
    ++ codes " points " ++ decimal file.points ++ span_text file.from file.to

abbrev pub same_space : Space → Space → Bool
same_space Sequence Sequence = true
same_space Unsequence Unsequence = true
same_space space other = false

-- the lines of the files of a space, in their order
abbrev pub files_text : Space → List FileLine → List ℕ
files_text space files = flat_map (λ file. line (file_text file)) (filter (λ file. same_space file.space space) files)

-- the points of the working pair: the sequence ones, then the unsequence ones
abbrev pub working_text : List ℕ → List ℕ
working_text points = codes "working " ++ decimal (slice_index points 0) ++ codes " " ++ decimal (slice_index points 1)

-- a listing: the sequence files, the unsequence files, the frozen pairs, the working pair, and the deletion marks
abbrev pub listing_text : Listing → List ℕ
listing_text listing = files_text Sequence listing.files ++ files_text Unsequence listing.files
    ++ line (codes "frozen " ++ decimal listing.frozen) ++ line (working_text listing.working)
    ++ line (codes "marks " ++ decimal listing.marks)

-- the items of a select; another command has none
abbrev pub items_of : Command → List Item
items_of (Select device items range) = items
items_of command = []

-- the reply to a command
abbrev pub reply_text : Command → Reply → List ℕ
reply_text command (Plain answer) = line (answer_text answer)
reply_text command (Lines rows) = rows_text (items_of command) rows
reply_text command (Values values) = values_text (items_of command) values
reply_text command (Files listing) = listing_text listing

-- the heading of a session's replies
abbrev pub session_text : ℕ → List ℕ
session_text session = line (codes "session " ++ decimal session)

-- the session of each command, in the order in which the commands took place
abbrev pub order_text : List ℕ → List ℕ
order_text sessions = line (codes "order" ++ flat_map (λ session. 32 ∷ decimal session) sessions)
