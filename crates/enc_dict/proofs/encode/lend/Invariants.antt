use Rattle.enc_dict.specs.Spelling.{lent}
use Rattle.std.proofs.Common.{◌≡◌, take}
use Rattle.enc_dict.proofs.encode.lend.Given as goal

abbrev pub invariant-loop-text : goal.invariant-loop-text
invariant-loop-text l = lent l.list.items ≡ take l.text-index l.texts
