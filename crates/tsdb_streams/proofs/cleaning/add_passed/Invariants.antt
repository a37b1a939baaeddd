use Rattle.std.proofs.Common.{◌≡◌, ◌++◌, take}
use Rattle.tsdb_streams.specs.Cleaning.{picked}
use Rattle.tsdb_streams.proofs.cleaning.add_passed.Given as goal

abbrev pub invariant-loop-place : goal.invariant-loop-place
invariant-loop-place l = l.into.items ≡ l.initial.into.items ++ picked l.flags (take l.place l.pages)
