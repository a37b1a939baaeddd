-- What the plain map answers to each command, and the world after it.
use Rattle.std.specs.Prelude.{ℕ, ℤ, Bool, true, false, ◌&&◌, is_some, int_le, pos, negsuc, List, [], ◌∷◌, Option, None}
use Rattle.std.specs.Prelude.{Some, map, if◌then◌else◌}
use Rattle.std.specs.List.{list_all, list_any}
use Rattle.std.specs.FinMap.{get, contains_key, insert}
use Rattle.tsdb_base.specs.declared.answers.Aggregate.{Aggregate}
use Rattle.tsdb_base.specs.declared.answers.Figure.{Figure}
use Rattle.tsdb_base.specs.declared.answers.Answer.{Answer}
use Rattle.tsdb_base.specs.declared.answers.Answer.TheVariants.{Done, NoPath, WrongType, Exists}
use Rattle.tsdb_base.specs.declared.point.Range.{Range}
use Rattle.tsdb_base.specs.declared.value.DataType.{DataType}
use Rattle.tsdb_base.specs.declared.value.DataType.TheVariants.{Boolean, Int32, Int64, Text}
use Rattle.tsdb_base.specs.declared.value.Value.{Value}
use Rattle.tsdb_base.specs.declared.value.Value.TheVariants as value
use Rattle.tsdb_base.specs.Values.{needs_numbers}
use Rattle.tsdb_model.specs.declared.command.Cell.{Cell}
use Rattle.tsdb_model.specs.declared.command.Command.{Command}
use Rattle.tsdb_model.specs.declared.command.Command.TheVariants.{Create, Insert, Delete, Select}
use Rattle.tsdb_model.specs.declared.command.Item.{Item}
use Rattle.tsdb_model.specs.declared.command.Literal.{Literal}
use Rattle.tsdb_model.specs.declared.command.Literal.TheVariants as literal
use Rattle.tsdb_model.specs.declared.reply.Reply.{Reply}
use Rattle.tsdb_model.specs.declared.reply.Reply.TheVariants.{Plain, Lines, Values}
use Rattle.tsdb_model.specs.Folds.{aggregate_of, in_order, rows, within}
use Rattle.tsdb_model.specs.World.{World, Series, PointMap, change, cut, new_series, points_of_series, put}
use Rattle.tsdb_path.specs.Nodes.{child_of}

-- a number of 32 bits
abbrev pub is_int32 : ℤ → Bool
is_int32 number = int_le (negsuc 2147483647) number && int_le number (pos 2147483647)

-- the value of a type that a literal is, if it fits the type
abbrev pub value_of : Literal → DataType → Option Value
value_of (literal.Bool b) Boolean = Some (value.Bool b)
value_of (literal.Int number) Int32 = if is_int32 number then Some (value.I32 number) else None
value_of (literal.Int number) Int64 = Some (value.I64 number)
value_of (literal.Text bytes) Text = Some (value.Text bytes)
value_of literal data_type = None

-- the series of a device with this measurement
abbrev pub series_of : World → List ℕ → List ℕ → Option Series
series_of world device measurement = get world (child_of device measurement)

-- the measurements of these names are all there
abbrev pub are_there : World → List ℕ → List (List ℕ) → Bool
are_there world device names = list_all (λ name. is_some (series_of world device name)) names

-- INSERT: a literal fits the type of its series
abbrev pub fits_series : Literal → Option Series → Bool
fits_series literal None = false
fits_series literal (Some series) = is_some (value_of literal series.data_type)

abbrev pub all_fit : World → List ℕ → List Cell → Bool
all_fit world device cells = list_all (λ cell. fits_series cell.value (series_of world device cell.measurement)) cells

abbrev pub insert_answer : World → List ℕ → List Cell → Answer
insert_answer world device cells =
    if are_there world device (map (λ cell. cell.measurement) cells)
    then (if all_fit world device cells then Done else WrongType)
    else NoPath

abbrev pub put_value : ℤ → Option Value → Series → Series
put_value time None series = series
put_value time (Some value) series = put time value series

-- a literal that fits stands at this time
abbrev pub put_literal : ℤ → Literal → Series → Series
put_literal time literal series = put_value time (value_of literal series.data_type) series

-- each literal of a row stands at the row's time
abbrev pub put_cells : World → List ℕ → ℤ → List Cell → World
put_cells world device time [] = world
put_cells world device time (cell ∷ cells) =
    put_cells (change world (child_of device cell.measurement) (put_literal time cell.value)) device time cells

-- SELECT: the points in the range of the items' series, in the order of the items
abbrev pub columns_of : World → List ℕ → List Item → Range → List PointMap
columns_of world device items range =
    map (λ item. within range (points_of_series (series_of world device item.measurement))) items

-- the aggregate that an item asks for, over the points in the range
abbrev pub item_value : Option Aggregate → PointMap → Option Figure
item_value None points = None
item_value (Some aggregate) points = aggregate_of aggregate (in_order points)

abbrev pub item_values : World → List ℕ → List Item → Range → List (Option Figure)
item_values world device items range =
    map (λ item. item_value item.aggregate (within range (points_of_series (series_of world device item.measurement)))) items

-- values of this type are not in the order of numbers
abbrev pub is_unordered : DataType → Bool
is_unordered Boolean = true
is_unordered Text = true
is_unordered data_type = false

-- an aggregate that only numbers have is asked of a series that has none
abbrev pub is_unfit : Option Aggregate → Option Series → Bool
is_unfit (Some aggregate) (Some series) = needs_numbers aggregate && is_unordered series.data_type
is_unfit aggregate series = false

abbrev pub any_unfit : World → List ℕ → List Item → Bool
any_unfit world device items =
    list_any (λ item. is_unfit item.aggregate (series_of world device item.measurement)) items

abbrev pub ask_aggregates : List Item → Bool
ask_aggregates items = list_any (λ item. is_some item.aggregate) items

abbrev pub select_reply : World → List ℕ → List Item → Range → Reply
select_reply world device items range =
    if are_there world device (map (λ item. item.measurement) items)
    then (if ask_aggregates items
    then (if any_unfit world device items then Plain WrongType else Values (item_values world device items range))
    else Lines (rows (columns_of world device items range)))
    else Plain NoPath

-- what the map answers to a command: it creates a series where none is there, and deletes points where one is
abbrev pub reply_of : World → Command → Reply
reply_of world (Create schema) = Plain (if contains_key world schema.path then Exists else Done)
reply_of world (Insert device row) = Plain (insert_answer world device row.cells)
reply_of world (Delete series range) = Plain (if contains_key world series then Done else NoPath)
reply_of world (Select device items range) = select_reply world device items range
reply_of world command = Plain Done

-- the world after a command that is accepted: a new series without points, a row's cells, the range's times gone, or
-- the same world
abbrev pub accepted : World → Command → World
accepted world (Create schema) = insert world schema.path (new_series schema.data_type)
accepted world (Insert device row) = put_cells world device row.time row.cells
accepted world (Delete series range) = change world series (cut range)
accepted world command = world

-- the world after a command that is answered so: only an accepted one changes it
abbrev pub after_reply : World → Command → Reply → World
after_reply world command (Plain Done) = accepted world command
after_reply world command reply = world

abbrev pub world_after : World → Command → World
world_after world command = after_reply world command (reply_of world command)
