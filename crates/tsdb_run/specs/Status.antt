-- What the program ends with.
use Rattle.std.specs.Prelude.{ℕ, List, [], ◌++◌, codes}
use Rattle.std.specs.Fmt.{decimal}
use Rattle.tsdb_print.specs.Text.{line}
use Rattle.tsdb_recover.specs.declared.fault.Part.{Part}
use Rattle.tsdb_recover.specs.declared.fault.Part.TheVariants.{Log, File}
use Rattle.tsdb_run.specs.declared.status.Status.{Status}
use Rattle.tsdb_run.specs.declared.status.Status.TheVariants as status

-- the name of a part of a store
abbrev pub part_text : Part → List ℕ
part_text Log = codes "log"
part_text (File number) = codes "file " ++ decimal number.0

-- the exit code
abbrev pub status_code : Status → ℕ
status_code status.Done = 0
status_code status.Memory = 1
status_code status.Words = 2
status_code (status.Script line kind) = 3
status_code status.Source = 4
status_code status.Sink = 5
status_code status.Device = 6
status_code (status.Damaged part at) = 7

-- what is written to standard error
abbrev pub status_text : Status → List ℕ
status_text status.Done = []
status_text status.Memory = line (codes "memory")
status_text status.Words = line (codes "usage: tsdb run DIR [--pair N] [--workers N]")
status_text (status.Script number kind) = line (codes "line " ++ decimal number ++ codes " kind " ++ decimal kind)
status_text status.Source = line (codes "source")
status_text status.Sink = line (codes "sink")
status_text status.Device = line (codes "device")
status_text (status.Damaged part at) = line (codes "damaged " ++ part_text part ++ codes " at " ++ decimal at)
