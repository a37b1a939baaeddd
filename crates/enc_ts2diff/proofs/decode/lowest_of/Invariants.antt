use Rattle.std.proofs.Common.{◌≡◌, min, fold, take}
use Rattle.enc_ts2diff.proofs.decode.lowest_of.Given as goal

abbrev pub invariant-loop-number : goal.invariant-loop-number
invariant-loop-number l = l.lowest ≡ fold min l.first (take l.number-index l.rest)
