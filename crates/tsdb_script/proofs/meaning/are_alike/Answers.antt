use Rattle.std.proofs.Common.{rules}
use Rattle.tsdb_script.proofs.meaning.are_alike.Goals as goal

pub returns-then-have_no_aggregate : goal.returns-then-have_no_aggregate
returns-then-have_no_aggregate c = search rules

pub returns-else-have_no_aggregate : goal.returns-else-have_no_aggregate
returns-else-have_no_aggregate c = search rules

pub returns-else-columns-le-MAX_NAMES : goal.returns-else-columns-le-MAX_NAMES
returns-else-columns-le-MAX_NAMES c = search rules
