-- The files of a store in memory, and their ports.
use Rattle.std.specs.Prelude.{◌≡◌, ℕ, ◌+◌, ◌^◌, ◌<◌, List, [], ◌∷◌, ◌++◌, length, map, None, Some}
use Rattle.std.specs.declared.option.Option.{Option}
use Rattle.std.specs.Arc.{arc_value}
use Rattle.tsdb_outside.specs.Files.{StoredFile, Store}
use Rattle.mem_outside.specs.declared.entry.StoredEntry.{StoredEntry}
use Rattle.mem_outside.specs.declared.files.MemFiles.{MemFiles}
use Rattle.mem_outside.specs.declared.files.MemPort.{MemPort}
use Rattle.mem_outside.specs.declared.row.Drawn.{Drawn}
use Rattle.mem_outside.specs.declared.row.CallRow.{CallRow}
use Rattle.mem_outside.specs.Entry.{entry_file, entry_files, removed}
use Rattle.mem_outside.specs.Tokens.{store_of}

-- how often the port has failed
abbrev pub port_faults : MemPort → ℕ
port_faults port = port.faults

-- how many bytes its reads gave
abbrev pub port_bytes_read : MemPort → ℕ
port_bytes_read port = port.bytes_read

-- the files that it removed, and those whose put failed, in this order
abbrev pub port_gone : MemPort → List StoredEntry
port_gone port = port.gone

-- the row in which its calls stand
abbrev pub port_row : MemPort → CallRow
port_row port = arc_value port.row

-- the store that the port belongs to
abbrev pub port_store : MemPort → Store
port_store port = store_of (arc_value port.directory).items

-- how often the files and the ports that they were given back have failed
abbrev pub files_faults : MemFiles → ℕ
files_faults files = files.faults

-- the store of the files
abbrev pub files_store : MemFiles → Store
files_store files = store_of (arc_value files.directory).items

-- the files at rest
abbrev pub files_at_rest : MemFiles → List StoredEntry
files_at_rest files = files.at_rest

-- the files that were removed
abbrev pub files_gone : MemFiles → List StoredEntry
files_gone files = files.gone

-- the row in which their calls stand
abbrev pub files_row : MemFiles → CallRow
files_row files = arc_value files.row

-- what the files at rest are
abbrev pub stored_files : MemFiles → Option (List StoredFile)
stored_files files = Some (entry_files files.at_rest)

-- what the last call of the port drew
abbrev pub port_last : MemPort → Drawn
port_last port = port.last

-- what the last call of the files drew
abbrev pub files_last : MemFiles → Drawn
files_last files = files.last

-- the file of this node was put by the call at this place, and is not removed
abbrev pub IsPutAt : ℕ → List StoredEntry → Type 0
IsPutAt at node = (entry : StoredEntry) × (node ≡ entry ∷ []) × (entry.put_at ≡ at) × (entry.removed_at ≡ None)

-- the entries of this node, as removed by the call at this place, stand behind the others, which are fewer than 2^63
abbrev pub AddsRemoved : ℕ → List StoredEntry → List StoredEntry → List StoredEntry → Type 0
AddsRemoved at node old new = length old + length node < 2 ^ 63 → new ≡ old ++ map (removed at) node

-- a file with this number and these bytes, as put and removed by the call at this place, stands behind the others
abbrev pub AddsFailed : ℕ → List ℕ → ℕ → List StoredEntry → List StoredEntry → Type 0
AddsFailed number bytes at old new = length old + 1 < 2 ^ 63
    → (entry : StoredEntry) × (new ≡ old ++ entry ∷ []) × (entry_file entry ≡ record { number = number; bytes = bytes })
    × (entry.put_at ≡ at) × (entry.removed_at ≡ Some at)
