use Rattle.tsdb_recover.proofs.Summaries.{HasSummed}
use Rattle.tsdb_recover.proofs.file_entry.sum_up.Given as goal

abbrev pub invariant-loop-entry : goal.invariant-loop-entry
invariant-loop-entry l = HasSummed l.entries l.entry-index l.summary
