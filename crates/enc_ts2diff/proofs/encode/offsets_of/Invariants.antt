use Rattle.std.proofs.Common.{◌≡◌, take}
use Rattle.enc_ts2diff.specs.Spelling.{offsets}
use Rattle.enc_ts2diff.proofs.encode.offsets_of.Given as goal

abbrev pub invariant-loop-step : goal.invariant-loop-step
invariant-loop-step l = l.above.items ≡ offsets l.base (take l.step-index l.steps)
