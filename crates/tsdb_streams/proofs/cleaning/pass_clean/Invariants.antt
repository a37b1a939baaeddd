use Rattle.tsdb_streams.proofs.CleanFacts.{IsPassing}
use Rattle.tsdb_streams.proofs.cleaning.pass_clean.Given as goal

abbrev pub invariant-loop-place : goal.invariant-loop-place
invariant-loop-place g l = IsPassing l.name l.kept l.initial.lanes.items l.lanes.items l.place
