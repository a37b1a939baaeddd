use Rattle.std.proofs.Common.{map}
use Rattle.tsdb_memory.specs.StateOfMemory.{series_entry}
use Rattle.tsdb_pins.proofs.Replies.{fault_replied, types_of}
use Rattle.tsdb_pins.proofs.world_laws.a_refusal_is_that_of_the_map.Goals as goal

pub returns : goal.returns
returns c = λ told memory engine device items range world fault is stands refused. fault_replied (map series_entry memory.series) world device (types_of told memory engine world is stands) items range fault refused
