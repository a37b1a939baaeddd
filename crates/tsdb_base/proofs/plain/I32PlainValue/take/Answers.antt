use Rattle.std.proofs.Common.{rules}
use Rattle.tsdb_base.proofs.plain.I32PlainValue.take.Goals as goal

pub returns-clause-found : goal.returns-clause-found
returns-clause-found c = search rules

pub returns-then-bytes-lt4-clause-found : goal.returns-then-bytes-lt4-clause-found
returns-then-bytes-lt4-clause-found c = search rules

pub returns-then-bytes-lt4-clause-value : goal.returns-then-bytes-lt4-clause-value
returns-then-bytes-lt4-clause-value c = search rules

pub returns-then-bytes-lt4-clause-bad : goal.returns-then-bytes-lt4-clause-bad
returns-then-bytes-lt4-clause-bad c = search rules

pub split_at-requires : goal.split_at-requires
split_at-requires c = search rules

pub bounds-front-0 : goal.bounds-front-0
bounds-front-0 c = search rules

pub bounds-front-1 : goal.bounds-front-1
bounds-front-1 c = search rules

pub bounds-front-2 : goal.bounds-front-2
bounds-front-2 c = search rules

pub bounds-front-3 : goal.bounds-front-3
bounds-front-3 c = search rules

pub returns-clause-value : goal.returns-clause-value
returns-clause-value c = search rules

pub returns-clause-bad : goal.returns-clause-bad
returns-clause-bad c = search rules
