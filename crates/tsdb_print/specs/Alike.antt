-- What a reply shows: what is left of it when what is not printed is forgotten.
use Rattle.std.specs.Prelude.{◌≡◌, ◌<◌, ◌^◌, FitsSigned, List, ◌++◌, Option, None, Some, map, filter, length, option_map}
use Rattle.std.specs.Int.{w64, w128}
use Rattle.std.specs.List.{AllByRecursion}
use Rattle.tsdb_base.specs.declared.answers.Answer.{Answer}
use Rattle.tsdb_base.specs.declared.answers.Answer.TheVariants as answer
use Rattle.tsdb_base.specs.declared.answers.Figure.{Figure}
use Rattle.tsdb_base.specs.declared.answers.Figure.TheVariants as figure
use Rattle.tsdb_base.specs.declared.ids.Space.{Space}
use Rattle.tsdb_base.specs.declared.ids.Space.TheVariants.{Sequence, Unsequence}
use Rattle.tsdb_base.specs.declared.value.Value.{Value}
use Rattle.tsdb_base.specs.declared.value.Value.TheVariants as value
use Rattle.tsdb_model.specs.declared.reply.FileLine.{FileLine}
use Rattle.tsdb_model.specs.declared.reply.Line.{Line}
use Rattle.tsdb_model.specs.declared.reply.Listing.{Listing}
use Rattle.tsdb_model.specs.declared.reply.Reply.{Reply}
use Rattle.tsdb_model.specs.declared.reply.Reply.TheVariants.{Plain, Lines, Values, Files}
use Rattle.tsdb_print.specs.Text.{same_space}

-- the counter of `full` is not printed
abbrev pub shown_answer : Answer → Answer
shown_answer answer.Done = answer.Done
shown_answer answer.NoPath = answer.NoPath
shown_answer answer.WrongType = answer.WrongType
shown_answer answer.Exists = answer.Exists
shown_answer answer.Device = answer.Device
shown_answer answer.Memory = answer.Memory
shown_answer (answer.Full counter) = answer.Full 0

-- a whole number prints the same in 32 bits and in 64
abbrev pub shown_value : Value → Value
shown_value (value.Bool b) = value.Bool b
shown_value (value.I32 number) = value.I64 number
shown_value (value.I64 number) = value.I64 number
shown_value (value.Text bytes) = value.Text bytes

abbrev pub shown_values : List (Option Value) → List (Option Value)
shown_values values = map (option_map shown_value) values

-- a sum prints as another whole number does
abbrev pub shown_figure : Figure → Figure
shown_figure (figure.Value value) = figure.Value (shown_value value)
shown_figure (figure.Sum sum) = figure.Value (value.I64 sum)

abbrev pub shown_figures : List (Option Figure) → List (Option Figure)
shown_figures figures = map (option_map shown_figure) figures

abbrev pub shown_row : Line → Line
shown_row row = record { time = row.time; values = shown_values row.values }

-- the files of a space, in their order
abbrev pub files_in_space : Space → List FileLine → List FileLine
files_in_space space files = filter (λ file. same_space file.space space) files

-- the sequence files are printed first
abbrev pub shown_listing : Listing → Listing
shown_listing listing = record {
  files = files_in_space Sequence listing.files ++ files_in_space Unsequence listing.files;
  frozen = listing.frozen;
  working = listing.working;
  marks = listing.marks;
}

-- what a reply shows
abbrev pub as_printed : Reply → Reply
as_printed (Plain answer) = Plain (shown_answer answer)
as_printed (Lines rows) = Lines (map shown_row rows)
as_printed (Values values) = Values (shown_figures values)
as_printed (Files listing) = Files (shown_listing listing)

-- numbers are in the ranges of their types
abbrev pub IsValueInRange : Value → Type 0
IsValueInRange (value.Bool b) = Unit {0}
IsValueInRange (value.I32 number) = FitsSigned w64 number
IsValueInRange (value.I64 number) = FitsSigned w64 number
IsValueInRange (value.Text bytes) = Unit {0}

abbrev pub IsCellInRange : Option Value → Type 0
IsCellInRange None = Unit {0}
IsCellInRange (Some value) = IsValueInRange value

abbrev pub IsFigureInRange : Option Figure → Type 0
IsFigureInRange None = Unit {0}
IsFigureInRange (Some (figure.Value value)) = IsValueInRange value
IsFigureInRange (Some (figure.Sum sum)) = FitsSigned w128 sum

pub record IsRowInRange (row : Line) : Type 0 where
  pub time : FitsSigned w64 row.time
  pub values : AllByRecursion IsCellInRange row.values

pub record IsFileInRange (file : FileLine) : Type 0 where
  pub number : file.number.0 < 2 ^ 64
  pub born : file.born.0 < 2 ^ 64
  pub points : file.points < 2 ^ 64
  pub from : FitsSigned w64 file.from
  pub to : FitsSigned w64 file.to

pub record IsListingInRange (listing : Listing) : Type 0 where
  pub files : AllByRecursion IsFileInRange listing.files
  pub frozen : listing.frozen < 2 ^ 64
  pub two : length listing.working ≡ 2
  pub working : AllByRecursion (λ points. points < 2 ^ 64) listing.working
  pub marks : listing.marks < 2 ^ 64

abbrev pub IsReplyInRange : Reply → Type 0
IsReplyInRange (Plain answer) = Unit {0}
IsReplyInRange (Lines rows) = AllByRecursion IsRowInRange rows
IsReplyInRange (Values values) = AllByRecursion IsFigureInRange values
IsReplyInRange (Files listing) = IsListingInRange listing
