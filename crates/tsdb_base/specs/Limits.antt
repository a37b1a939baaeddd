-- The limits, as the code has them.
use Rattle.std.specs.Prelude.{ℕ}
use Rattle.tsdb_base.specs.declared.limits.TheConstants.{MAX_TEXT_BYTES, MAX_VALUES, MAX_NAMES, END_OF_NUMBERS}
use Rattle.tsdb_base.specs.declared.limits.TheConstants.{END_OF_SLOT, MAX_LEAF_ENTRIES, MAX_ENTRIES, MAX_PAGES}
use Rattle.tsdb_base.specs.declared.limits.TheConstants.{MAX_POINT_BYTES, MAX_PAIR_POINTS, MAX_PAIR_BYTES}
use Rattle.tsdb_base.specs.declared.limits.TheConstants.{MAX_FROZEN, MAX_INPUTS, MAX_PLAN_BYTES, MAX_SCRIPT_BYTES}
use Rattle.tsdb_base.specs.declared.limits.TheConstants.{MAX_LINE_BYTES, MAX_COMMANDS, MAX_SESSIONS}
use Rattle.tsdb_base.specs.declared.limits.TheConstants.{DEFAULT_PAIR_POINTS, MAX_WORKERS}

-- the most bytes of a text
abbrev pub max_text_bytes : ℕ
max_text_bytes = MAX_TEXT_BYTES

-- the most values of an encoded list, and so the most points of a page
abbrev pub max_values : ℕ
max_values = MAX_VALUES

-- the most cells of a row, and the most items of a select
abbrev pub max_names : ℕ
max_names = MAX_NAMES

-- where the stamp, and the numbers of files, end
abbrev pub end_of_numbers : ℕ
end_of_numbers = END_OF_NUMBERS

-- a slot, or a stored file, has fewer bytes
abbrev pub end_of_slot : ℕ
end_of_slot = END_OF_SLOT

-- the most entries of a leaf of an index
abbrev pub max_leaf_entries : ℕ
max_leaf_entries = MAX_LEAF_ENTRIES

-- the most entries of an index, and so the most chunks of a file: 256 for each of 2^32 - 1 leaves
abbrev pub max_entries : ℕ
max_entries = MAX_ENTRIES

-- the most pages of a chunk
abbrev pub max_pages : ℕ
max_pages = MAX_PAGES

-- the most bytes that a point counts: 8 for its time, and those of the longest text
abbrev pub max_point_bytes : ℕ
max_point_bytes = MAX_POINT_BYTES

-- the most points that a working pair of more than one row has, whatever the options say
abbrev pub max_pair_points : ℕ
max_pair_points = MAX_PAIR_POINTS

-- the most bytes that a working pair of more than one row counts
abbrev pub max_pair_bytes : ℕ
max_pair_bytes = MAX_PAIR_BYTES

-- the most frozen pairs
abbrev pub max_frozen : ℕ
max_frozen = MAX_FROZEN

-- the most files of an inner run
abbrev pub max_inputs : ℕ
max_inputs = MAX_INPUTS

-- the most bytes of the files of a plan together
abbrev pub max_plan_bytes : ℕ
max_plan_bytes = MAX_PLAN_BYTES

-- the most bytes of a script
abbrev pub max_script_bytes : ℕ
max_script_bytes = MAX_SCRIPT_BYTES

-- the most bytes of a line, its end counted
abbrev pub max_line_bytes : ℕ
max_line_bytes = MAX_LINE_BYTES

-- the most commands of a script
abbrev pub max_commands : ℕ
max_commands = MAX_COMMANDS

-- the most different sessions of a script
abbrev pub max_sessions : ℕ
max_sessions = MAX_SESSIONS

-- the points of a pair where `--pair` is not given
abbrev pub default_pair_points : ℕ
default_pair_points = DEFAULT_PAIR_POINTS

-- the most workers of a kind
abbrev pub max_workers : ℕ
max_workers = MAX_WORKERS
