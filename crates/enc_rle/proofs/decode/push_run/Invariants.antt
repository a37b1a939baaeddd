use Rattle.std.proofs.Common.{◌≡◌, ◌++◌, replicate}
use Rattle.enc_rle.proofs.decode.push_run.Given as goal

abbrev pub invariant-loop : goal.invariant-loop
invariant-loop g l = l.values.items ≡ l.initial.values.items ++ replicate l.counter l.value
