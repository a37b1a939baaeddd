use Rattle.std.proofs.Common.{arith, rules}
use Rattle.std.proofs.lemmas.Grind.{common_steps}
use Rattle.tsdb_script.proofs.lexer.behind_blanks.Goals as goal

pub loop-at-init : goal.loop-at-init
loop-at-init c = search rules

pub bounds-bytes-at : goal.bounds-bytes-at
bounds-bytes-at c = search rules

pub slice_bounds-result-count : goal.slice_bounds-result-count
slice_bounds-result-count c = search rules

pub slice_bounds-result-start : goal.slice_bounds-result-start
slice_bounds-result-start c = search rules

pub slice_bounds-result-end : goal.slice_bounds-result-end
slice_bounds-result-end c = search rules

pub returns-then-not-is_blank : goal.returns-then-not-is_blank
returns-then-not-is_blank c = grind (arith, common_steps)

pub loop-at-preserved : goal.loop-at-preserved
loop-at-preserved c = grind (arith, common_steps)

pub returns : goal.returns
returns c = grind (arith, common_steps)
