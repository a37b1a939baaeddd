-- What is kept of each file, by its number.
use Rattle.std.specs.Prelude.{[], ◌++◌, find, nat_eq, Option, None, Some}
use Rattle.tsdb_fileset.specs.StateOfFiles.{entry_of}
use Rattle.tsdb_fileset.specs.Files.{KeptFiles, kept_file}
use Rattle.tsdb_fileset.specs.Places.{KeptFile}
use Rattle.tsdb_plan.specs.declared.entry.FileEntry.{FileEntry}
use Rattle.tsdb_state.specs.State.{KnownFiles, KnownFile}

abbrev pub no_entry : KnownFile
no_entry = record { size = 0; points = 0; hulls = []; series = [] }

-- the entry with the series, where both are there
abbrev pub known_by : Option FileEntry → Option KeptFile → KnownFile
known_by None file = no_entry
known_by (Some entry) None = no_entry
known_by (Some entry) (Some file) = entry_of entry file.series

-- what the entry of the number says
abbrev pub known_of : KeptFiles → KnownFiles
known_of files number =
    known_by (find (λ entry. nat_eq entry.number.0 number) (files.sequence ++ files.unsequence)) (kept_file number files)
