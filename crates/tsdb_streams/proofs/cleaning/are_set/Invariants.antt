use Rattle.std.proofs.Common.{◌≡◌, take, true}
use Rattle.tsdb_streams.specs.Cleaning.{all_set}
use Rattle.tsdb_streams.proofs.cleaning.are_set.Given as goal

abbrev pub invariant-loop-place : goal.invariant-loop-place
invariant-loop-place l = all_set (take l.place l.flags) ≡ true
