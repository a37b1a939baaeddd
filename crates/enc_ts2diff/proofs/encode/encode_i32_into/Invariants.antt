use Rattle.std.proofs.Common.{◌≡◌, take}
use Rattle.enc_ts2diff.proofs.encode.encode_i32_into.Given as goal

abbrev pub invariant-loop-value : goal.invariant-loop-value
invariant-loop-value l = l.wide.items ≡ take l.value-index l.values
