-- The pair that is shared.
use Rattle.std.specs.Arc.{arc_value}
use Rattle.tsdb_memory.specs.declared.shared.SharedPair.{SharedPair}
use Rattle.tsdb_memory.specs.declared.shared.SharedPair.TheVariants.{Alone, Shared}
use Rattle.tsdb_memtable.specs.Pairs.{Pair}

abbrev pub pair_in : SharedPair → Pair
pair_in (Shared pair) = arc_value pair
pair_in (Alone pair) = pair
