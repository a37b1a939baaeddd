use Rattle.std.proofs.Common.{◌≡◌, take, All, FitsSigned}
use Rattle.std.specs.Int.{w32}
use Rattle.enc_ts2diff.proofs.decode.decode_i32.Given as goal

abbrev pub invariant-loop-value : goal.invariant-loop-value
invariant-loop-value l = record {
  copied : l.values.items ≡ take l.value-index l.value-items;
  fits : All (FitsSigned w32) l.values.items;
}
