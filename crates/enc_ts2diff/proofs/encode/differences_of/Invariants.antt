use Rattle.std.proofs.Common.{◌≡◌, ◌++◌, drop}
use Rattle.enc_ts2diff.specs.Spelling.{differences}
use Rattle.enc_ts2diff.proofs.encode.differences_of.Given as goal

abbrev pub invariant-loop-value : goal.invariant-loop-value
invariant-loop-value l = l.steps.items ++ differences l.previous (drop l.value-index l.values) ≡ differences l.first l.values
