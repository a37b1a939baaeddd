-- The files of a real store, and their ports and tokens.
use Rattle.std.specs.Prelude.{ℕ, List}
use Rattle.std.specs.Arc.{arc_value}
use Rattle.std.specs.String.{string_bytes}
use Rattle.tsdb_outside.specs.Files.{NamedFile, Store}
use Rattle.fs_outside.specs.declared.files.FsFiles.{FsFiles}
use Rattle.fs_outside.specs.declared.files.FsPort.{FsPort}
use Rattle.fs_outside.specs.declared.files.FsRight.{FsRight}
use Rattle.fs_outside.specs.declared.files.FsSealed.{FsSealed}
use Rattle.fs_outside.specs.Directory.{numbered, store_in}

-- the calls on the directory of a port
abbrev pub port_directory : {D F : Type 0} → FsPort D F → D
port_directory port = port.directory

-- the files that the port has open
abbrev pub port_open : {D F : Type 0} → FsPort D F → List F
port_open port = port.open.files.items

-- the store that the port belongs to
abbrev pub port_store : {D F : Type 0} → FsPort D F → Store
port_store port = store_in (string_bytes (arc_value port.path))

-- how often the port has failed
abbrev pub port_faults : {D F : Type 0} → FsPort D F → ℕ
port_faults port = port.faults

-- the calls on the directory of the files
abbrev pub files_directory : {D : Type 0} → FsFiles D → D
files_directory files = files.directory

-- the store of the files
abbrev pub files_store : {D : Type 0} → FsFiles D → Store
files_store files = store_in (string_bytes (arc_value files.path))

-- how often the files and the ports that they were given back have failed
abbrev pub files_faults : {D : Type 0} → FsFiles D → ℕ
files_faults files = files.faults

-- the file that a token names
abbrev pub sealed_file : FsSealed → NamedFile
sealed_file sealed = numbered (store_in (string_bytes (arc_value sealed.path))) sealed.number

-- how many rights are out
abbrev pub sealed_rights : FsSealed → ℕ
sealed_rights sealed = sealed.rights

-- the file that may be read
abbrev pub right_file : FsRight → NamedFile
right_file right = numbered (store_in (string_bytes (arc_value right.path))) right.number
