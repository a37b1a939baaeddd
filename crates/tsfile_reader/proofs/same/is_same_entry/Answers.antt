use Rattle.std.proofs.Common.{rules}
use Rattle.tsfile_reader.proofs.same.is_same_entry.Goals as goal

pub returns-then-are_same_stats : goal.returns-then-are_same_stats
returns-then-are_same_stats c = search rules

pub returns-else-are_same_stats : goal.returns-else-are_same_stats
returns-else-are_same_stats c = search rules
