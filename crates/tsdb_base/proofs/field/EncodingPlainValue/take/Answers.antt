use Rattle.std.proofs.Common.{arith, rules}
use Rattle.std.proofs.lemmas.Grind.{common_steps}
use Rattle.tsdb_base.proofs.field.EncodingPlainValue.take.Goals as goal

pub bounds-bytes-0 : goal.bounds-bytes-0
bounds-bytes-0 c = search rules

pub slice_bounds-rest-count : goal.slice_bounds-rest-count
slice_bounds-rest-count c = search rules

pub slice_bounds-rest-start : goal.slice_bounds-rest-start
slice_bounds-rest-start c = search rules

pub slice_bounds-rest-end : goal.slice_bounds-rest-end
slice_bounds-rest-end c = search rules

pub slice_bounds-rest-count-in-1-1 : goal.slice_bounds-rest-count-in-1-1
slice_bounds-rest-count-in-1-1 c = search rules

pub slice_bounds-rest-start-in-1-1 : goal.slice_bounds-rest-start-in-1-1
slice_bounds-rest-start-in-1-1 c = search rules

pub slice_bounds-rest-end-in-1-1 : goal.slice_bounds-rest-end-in-1-1
slice_bounds-rest-end-in-1-1 c = search rules

pub slice_bounds-rest-count-in-2-1 : goal.slice_bounds-rest-count-in-2-1
slice_bounds-rest-count-in-2-1 c = search rules

pub slice_bounds-rest-start-in-2-1 : goal.slice_bounds-rest-start-in-2-1
slice_bounds-rest-start-in-2-1 c = search rules

pub slice_bounds-rest-end-in-2-1 : goal.slice_bounds-rest-end-in-2-1
slice_bounds-rest-end-in-2-1 c = search rules

pub slice_bounds-rest-count-in-4-1 : goal.slice_bounds-rest-count-in-4-1
slice_bounds-rest-count-in-4-1 c = search rules

pub slice_bounds-rest-start-in-4-1 : goal.slice_bounds-rest-start-in-4-1
slice_bounds-rest-start-in-4-1 c = search rules

pub slice_bounds-rest-end-in-4-1 : goal.slice_bounds-rest-end-in-4-1
slice_bounds-rest-end-in-4-1 c = search rules

pub returns-in-0-clause-found : goal.returns-in-0-clause-found
returns-in-0-clause-found c = grind (arith, common_steps)

pub returns-in-0-clause-value : goal.returns-in-0-clause-value
returns-in-0-clause-value c = search rules

pub returns-in-0-clause-bad : goal.returns-in-0-clause-bad
returns-in-0-clause-bad c = search rules

pub returns-in-1-clause-found : goal.returns-in-1-clause-found
returns-in-1-clause-found c = grind (arith, common_steps)

pub returns-in-1-clause-value : goal.returns-in-1-clause-value
returns-in-1-clause-value c = search rules

pub returns-in-1-clause-bad : goal.returns-in-1-clause-bad
returns-in-1-clause-bad c = search rules

pub returns-in-2-clause-found : goal.returns-in-2-clause-found
returns-in-2-clause-found c = grind (arith, common_steps)

pub returns-in-2-clause-value : goal.returns-in-2-clause-value
returns-in-2-clause-value c = search rules

pub returns-in-2-clause-bad : goal.returns-in-2-clause-bad
returns-in-2-clause-bad c = search rules

pub returns-in-4-clause-found : goal.returns-in-4-clause-found
returns-in-4-clause-found c = grind (arith, common_steps)

pub returns-in-4-clause-value : goal.returns-in-4-clause-value
returns-in-4-clause-value c = search rules

pub returns-in-4-clause-bad : goal.returns-in-4-clause-bad
returns-in-4-clause-bad c = search rules

pub returns-in_default-clause-found : goal.returns-in_default-clause-found
returns-in_default-clause-found c = search rules

pub returns-in_default-clause-value : goal.returns-in_default-clause-value
returns-in_default-clause-value c = search rules

pub returns-in_default-clause-bad : goal.returns-in_default-clause-bad
returns-in_default-clause-bad c = search rules
