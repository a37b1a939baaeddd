use Rattle.std.proofs.Common.{◌≡◌, max, fold, take}
use Rattle.enc_ts2diff.proofs.encode.greatest_or_zero.Given as goal

abbrev pub invariant-loop-number : goal.invariant-loop-number
invariant-loop-number l = l.greatest ≡ fold max 0 (take l.number-index l.numbers)
